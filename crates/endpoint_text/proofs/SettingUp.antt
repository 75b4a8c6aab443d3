-- A registry that was read tells names apart, and an error is the same whatever it stands in place of.
use Rattle.std.proofs.Common.{◌≡◌, ℕ, List, Result, Err, ap}
use Rattle.behaviour_text.specs.declared.error.PlanError.{PlanError}
use Rattle.plan_typing.specs.Effects.{NamesDiffer}
use Rattle.bridge_laws.proofs.Naming.{rules_tell_names}
use Rattle.registry_reading.specs.Verdicts.{IsAccepted}
use Rattle.uno_model.specs.Entities.{Entity}

pub same_error : {T U : Type 0} (x y : PlanError) → ◌≡◌ {A = Result T PlanError} (Err x) (Err y) → ◌≡◌ {A = Result U PlanError} (Err x) (Err y)
same_error x y both = let one : x ≡ y = cc in ap (λ z. Err z) one

pub read_names : (reg : List Entity) (text : List ℕ) → IsAccepted text reg → NamesDiffer reg
read_names reg text accepted = rules_tell_names reg accepted.keeps
