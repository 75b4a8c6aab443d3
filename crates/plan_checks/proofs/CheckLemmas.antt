-- What a check gives, handed on.
use Rattle.std.proofs.Common.{◌≡◌, Bool, false, Option, None, Result, Ok, Err, IsErr, sym, subst}
use Rattle.std.specs.Result.{IsErrAnd}
use Rattle.plan_model.specs.declared.line_reason.LineReason.{LineReason}
use Rattle.plan_checks.specs.Checks.{MisfitBy, Gives, FailsBy, Passes}
use Rattle.plan_checks.specs.declared.line_error.LineError.{LineError}
use Rattle.plan_checks.specs.declared.line_error.LineError.TheVariants as error

-- a `?` hands the refusal on
pub gives_on : {X Y : Type 0} (view : X → Y) (r : Result X LineError) (e : LineError) (defined : Option Y) → IsErr r × IsErrAnd r (λ f. f ≡ e) → MisfitBy e defined → Gives view r defined
gives_on view (Ok x) e defined is misfit = let bad : ⊥ = cc in absurd bad
gives_on view (Err f) e defined is misfit = subst (λ g. MisfitBy g defined) (sym is.1) misfit

pub passes_on : {X : Type 0} (reason : LineReason) (r : Result X LineError) (e : LineError) (test : Bool) → IsErr r × IsErrAnd r (λ f. f ≡ e) → FailsBy reason e test → Passes reason r test
passes_on reason (Ok x) e test is fails = let bad : ⊥ = cc in absurd bad
passes_on reason (Err f) e test is fails = subst (λ g. FailsBy reason g test) (sym is.1) fails

-- what fits nowhere in a part fits nowhere in the whole
pub misfit_so : {X Y : Type 0} (e : LineError) (part : Option X) (whole : Option Y) → (part ≡ None → whole ≡ None) → MisfitBy e part → MisfitBy e whole
misfit_so error.NoMemory part whole so misfit = tt
misfit_so (error.Wrong why) part whole so misfit = (so misfit.0, misfit.1)

pub fails_so : (reason : LineReason) (e : LineError) (part whole : Bool) → (part ≡ false → whole ≡ false) → FailsBy reason e part → FailsBy reason e whole
fails_so reason error.NoMemory part whole so fails = tt
fails_so reason (error.Wrong why) part whole so fails = (so fails.0, fails.1)

-- of two definitions that are one
pub gives_so : {X Y : Type 0} (view : X → Y) (r : Result X LineError) (defined other : Option Y) → defined ≡ other → Gives view r defined → Gives view r other
gives_so view r defined other same gives = subst (Gives view r) same gives
