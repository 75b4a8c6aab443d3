-- Whether what a line names fits its place.
use Rattle.std.specs.Prelude.{Bool, false, ◌&&◌, List, Option, None, Some, is_some}
use Rattle.uno_model.specs.Entities.{Entity}
use Rattle.uno_model.specs.Functions.{Function}
use Rattle.uno_model.specs.Kinds.{Kind}
use Rattle.plan_model.specs.Contexts.{Context}
use Rattle.plan_model.specs.Lines.{Term, Declared}
use Rattle.plan_model.specs.TypedStatements.{result_field}
use Rattle.plan_model.specs.Typing.{expression_of, arguments_of}

-- a term at a type that may be unknown
abbrev pub term_fits : List Entity → Context → Option Kind → Term → Bool
term_fits reg c None t = false
term_fits reg c (Some k) t = is_some (expression_of reg c t k)

-- what is given for a call of a function, and the variable of its result
abbrev pub call_fits_with : List Entity → Context → Function → Option Declared → List Term → Bool
call_fits_with reg c f to args = is_some (result_field reg f to) && is_some (arguments_of reg c f.params args)
