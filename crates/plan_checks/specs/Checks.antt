-- What a check of a line gives: what the definition gives, unless memory ran out.
use Rattle.std.specs.Prelude.{◌≡◌, Bool, true, false, Option, None, Some, Result, Ok, Err}
use Rattle.plan_model.specs.Contexts as plain
use Rattle.plan_model.specs.declared.line_reason.LineReason.{LineReason}
use Rattle.plan_model.specs.declared.line_reason.LineReason.TheVariants.{Misfit}
use Rattle.plan_checks.specs.Contexts.{context_of}
use Rattle.plan_checks.specs.declared.checker.Checker.{Checker}
use Rattle.plan_checks.specs.declared.line_error.LineError.{LineError}
use Rattle.plan_checks.specs.declared.line_error.LineError.TheVariants as error

-- what stands before the line
abbrev pub before : Checker → plain.Context
before k = context_of k.context.now

-- nothing is what does not fit its place
abbrev pub MisfitBy : {Y : Type 0} → LineError → Option Y → Type 0
MisfitBy error.NoMemory defined = Unit {0}
MisfitBy (error.Wrong why) defined = (defined ≡ None) × (why ≡ Misfit)

abbrev pub Gives : {X Y : Type 0} → (X → Y) → Result X LineError → Option Y → Type 0
Gives view (Ok x) defined = defined ≡ Some (view x)
Gives view (Err e) defined = MisfitBy e defined

-- a test fails for this reason
abbrev pub FailsBy : LineReason → LineError → Bool → Type 0
FailsBy reason error.NoMemory test = Unit {0}
FailsBy reason (error.Wrong why) test = (test ≡ false) × (why ≡ reason)

abbrev pub Passes : {X : Type 0} → LineReason → Result X LineError → Bool → Type 0
Passes reason (Ok x) test = test ≡ true
Passes reason (Err e) test = FailsBy reason e test
