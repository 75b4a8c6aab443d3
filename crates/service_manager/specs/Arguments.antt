-- What a parameter takes, as a test and a value.
use Rattle.std.specs.Prelude.{◌≡◌, ℕ, Bool, ◌||◌, cond, List, [], ◌∷◌, ◌++◌, Option, None, Some, IsSome}
use Rattle.uno_model.specs.Codes.{same_kind}
use Rattle.uno_model.specs.Entities.{Entity, Field, Constructor}
use Rattle.uno_model.specs.Fits.{does_fit}
use Rattle.uno_model.specs.Kinds as kd
use Rattle.uno_model.specs.Values.{Plain}
use Rattle.plan_model.specs.Frames.{Variable}
use Rattle.plan_model.specs.Services.{content_of, rest_filled, all_filled, first_filled}

-- whether a parameter takes an argument
abbrev pub takes : List Entity → Field → Plain → Bool
takes reg p arg = same_kind p.kind kd.any || does_fit reg (content_of arg) p.kind

-- what it takes of one that it takes
abbrev pub taken : Field → Plain → Variable
taken p arg = record { name = p.name; value = cond (same_kind p.kind kd.any) arg (content_of arg) }

-- variables, with others in front of them
abbrev pub behind : List Variable → Option (List Variable) → Option (List Variable)
behind xs None = None
behind xs (Some ys) = Some (xs ++ ys)

-- what parameters take where they take the arguments
abbrev pub all_taken : List Field → Option (List ℕ) → List Plain → Option (List Variable)
all_taken [] rest args = rest_filled rest args
all_taken (p ∷ ps) rest [] = None
all_taken (p ∷ ps) rest (arg ∷ args) = behind (taken p arg ∷ []) (all_taken ps rest args)

-- the variables that the arguments are to a constructor
abbrev pub given : List Entity → Constructor → List Plain → Option (List Variable)
given reg c args = all_filled reg c.params c.rest args

-- the constructor is the first that takes the arguments
pub record IsFirstTaking (reg : List Entity) (cs : List Constructor) (args : List Plain) (c : Constructor) : Type 0 where
  pub first : first_filled reg cs args ≡ given reg c args
  pub some : IsSome (given reg c args)
