-- From a struct or an exception to its base.
use Rattle.std.specs.Prelude.{◌≡◌, ℕ, Bool, true, false, not, List, [], ◌∷◌, Option, Some, MatchOption, slice_get}
use Rattle.std.specs.List.{list_any}
use Rattle.uno_model.specs.Entities.{Entity, Body, struct, exception}
use Rattle.uno_model.specs.Registry.{at_most_one}
use Rattle.uno_model.specs.Sound.{is_there, is_some_list}
use Rattle.uno_entities.specs.Finding.{IsPlaceOf}
use Rattle.entity_rules.specs.NearMembers.{carries}

-- the base of a struct or an exception
abbrev pub bases_in : Body → List (List ℕ)
bases_in (struct base members) = at_most_one base
bases_in (exception base members) = at_most_one base
bases_in _ = []

-- a struct or an exception with no member of its own
abbrev pub needs_base : Body → Bool
needs_base (struct base members) = not (is_some_list members)
needs_base (exception base members) = not (is_some_list members)
needs_base _ = false

-- the one base stands at the place, and is a struct or an exception
pub record IsCarrierAt (reg : List Entity) (bases : List (List ℕ)) (place : ℕ) : Type 0 where
  pub name : List ℕ
  pub alone : bases ≡ name ∷ []
  pub there : IsPlaceOf name reg place
  pub carrier : (e : Entity) → slice_get reg place ≡ Some e → carries e.body ≡ true

-- it is found, where there is one
abbrev pub ClimbsTo : List Entity → List (List ℕ) → Option ℕ → Type 0
ClimbsTo reg bases found = MatchOption found (list_any (is_there reg carries) bases ≡ false) (λ place. IsCarrierAt reg bases place)
