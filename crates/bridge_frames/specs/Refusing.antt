-- The exception of a refusal of the service manager, by the front of its message.
use Rattle.std.specs.Prelude.{ℕ, List, ◌++◌}
use Rattle.uno_model.specs.BuiltIn.{exception_name}
use Rattle.uno_model.specs.Values.{Plain}
use Rattle.uno_model.specs.Values as v

abbrev pub refused : (front name : List ℕ) → Plain
refused front name = v.tuple exception_name (v.more (v.str (front ++ name)) (v.more (v.ref v.null) v.none))
