-- A root at its beginning.
use Rattle.std.proofs.Common.{◌≡◌, refl, sym, ap, subst, ◌∙◌, ℕ, List, [], true}
use Rattle.bridge_endpoint.specs.Journals.{Endpoint, setting_at}
use Rattle.bridge_model.specs.RootRuns.{StandsFor, begun}
use Rattle.bridge_model.specs.Steps.{is_root}
use Rattle.bridge_core.specs.Standing.{IsRunAt}
use Rattle.plan_model.specs.Forms.{is_export_name}
use Rattle.plan_model.specs.Plans.{manager_name}
use Rattle.plan_model.specs.Roots.{Run, opening_run}

manager_exports : is_export_name manager_name ≡ true
unfolding is_export_name
manager_exports = refl

-- it stands for the journal at which nothing has happened
pub opens : (e : Endpoint) (root : ℕ) → e.entries ≡ [] → is_root (setting_at e) root ≡ true → IsRunAt e (opening_run root manager_name)
unfolding opening_run
opens e root none of_plan =
    record {
      root = of_plan;
      stands = subst (λ es. StandsFor (setting_at e) es (opening_run root manager_name)) (sym none) (begun root manager_name);
      named = manager_exports;
    }

pub opening_of : (r : Run) (root : ℕ) (instance : List ℕ) → r ≡ opening_run root instance → instance ≡ manager_name → r ≡ opening_run r.root manager_name
unfolding opening_run
opening_of r root instance is named =
    let same : r.root ≡ root = ap (λ (z : Run). z.root) is in
    is ∙ (ap (opening_run root) named ∙ ap (λ k. opening_run k manager_name) (sym same))
