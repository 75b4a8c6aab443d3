-- The reason that a check of a line gives: the first one, or none, unless memory ran out.
use Rattle.std.specs.Prelude.{◌≡◌, Option, None, Some, Result, Ok, Err}
use Rattle.plan_model.specs.declared.line_reason.LineReason.{LineReason}
use Rattle.plan_checks.specs.declared.line_error.LineError.{LineError}
use Rattle.plan_checks.specs.declared.line_error.LineError.TheVariants as error

abbrev pub WrongBy : LineError → Option LineReason → Type 0
WrongBy error.NoMemory reason = Unit {0}
WrongBy (error.Wrong why) reason = reason ≡ Some why

abbrev pub Clears : {X : Type 0} → Result X LineError → Option LineReason → Type 0
Clears (Ok x) reason = reason ≡ None
Clears (Err e) reason = WrongBy e reason
