-- Functions, as calls name them.
use Rattle.std.specs.Prelude.{◌&&◌, Bool, List, [], ◌∷◌, Option, None, Some}
use Rattle.std.specs.Str.{bytes_eq}
use Rattle.plan_model.specs.Plans.{Method}
use Rattle.plan_model.specs.Statements.{Callee}
use Rattle.uno_model.specs.Functions.{Function}

-- the function that a call names
abbrev pub is_callee : Callee → Function → Bool
is_callee c f = bytes_eq c.owner f.owner && bytes_eq c.name f.name

-- what is there, or nothing
abbrev pub one_or_none : {A : Type 0} → Option A → List A
one_or_none None = []
one_or_none (Some x) = x ∷ []

-- the method that is written for a function
abbrev pub is_written_for : Function → Method → Bool
is_written_for f m = bytes_eq m.face f.owner && bytes_eq m.function f.name
