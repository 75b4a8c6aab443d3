-- Operations by their names.
use Rattle.std.specs.Prelude.{ℕ, List, Option, None, Some, codes, if◌then◌else◌}
use Rattle.std.specs.Str.{bytes_eq}
use Rattle.plan_model.specs.declared.operation.Operation.{Operation}
use Rattle.plan_model.specs.declared.operation.Operation.TheVariants.{Add, Sub}

abbrev pub operation_named : List ℕ → Option Operation
operation_named w = if bytes_eq w (codes "add") then Some Add else (if bytes_eq w (codes "sub") then Some Sub else None)
