-- An endpoint of a plan that is shallow, or is not.
use Rattle.std.proofs.Common.{◌≡◌, ℕ, List, sym, ap, subst}
use Rattle.bridge_endpoint.specs.Journals.{Endpoint, setting_at}
use Rattle.plan_model.specs.Keeps.{IsTextOf}
use Rattle.plan_model.specs.declared.line_reason.LineReason.{LineReason}
use Rattle.plan_model.specs.declared.line_reason.LineReason.TheVariants.{Limit}
use Rattle.uno_model.specs.Entities.{Entity}
use Rattle.uno_run.specs.Plans.{IsPlan, IsShallow, IsTooDeep}

pub is_planned : (registry : List Entity) (text : List ℕ) (end e : Endpoint) → e ≡ end → (setting_at end).registry ≡ registry → IsTextOf registry text (setting_at end).plan
    → IsShallow (setting_at end).registry (setting_at end).plan → IsPlan registry text (setting_at e).plan
is_planned registry text end e same one is_text shallow =
    let planned = sym (ap (λ (x : Endpoint). (setting_at x).plan) same) in (
      subst (IsTextOf registry text) planned is_text,
      subst (λ p. IsShallow registry p) planned (subst (λ r. IsShallow r (setting_at end).plan) one shallow),
    )

pub too_deep : (registry : List Entity) (text : List ℕ) (end : Endpoint) (line : ℕ) (why : LineReason) → (setting_at end).registry ≡ registry → IsTextOf registry text (setting_at end).plan
    → (line ≡ 0) × (why ≡ Limit) × (IsShallow (setting_at end).registry (setting_at end).plan → ⊥) → IsTooDeep registry text line why
too_deep registry text end line why one is_text d =
    record { plan = (setting_at end).plan; is_text = is_text; deep = λ shallow. d.2 (subst (λ r. IsShallow r (setting_at end).plan) (sym one) shallow); at = d.0; reason = d.1 }
