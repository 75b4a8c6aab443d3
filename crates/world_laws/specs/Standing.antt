-- The roots of an end, whose runs stand for its entries.
use Rattle.std.specs.Prelude.{◌≡◌, ◌<◌, true, List, [], ◌∷◌}
use Rattle.std.specs.List.{AllByRecursion}
use Rattle.plan_model.specs.Forms.{is_export_name}
use Rattle.plan_model.specs.Roots.{Run}
use Rattle.bridge_model.specs.Entries.{Entry}
use Rattle.bridge_model.specs.RootRuns.{StandsFor}
use Rattle.bridge_model.specs.Settings.{Setting}
use Rattle.bridge_model.specs.Steps.{is_root}

-- a run of a root of the plan, which stands for these entries, and asks for its instance by a name that has the form of an export's
pub record StandsAt (g : Setting) (es : List Entry) (r : Run) : Type 0 where
  pub root : is_root g r.root ≡ true
  pub stands : StandsFor g es r
  pub named : is_export_name r.instance ≡ true

-- such runs, each of a root of its own, lowest first
unfoldable pub AllStandAt : Setting → List Entry → List Run → Type 0
AllStandAt g es [] = Unit
AllStandAt g es (r ∷ rs) = StandsAt g es r × AllByRecursion (λ (later : Run). r.root < later.root) rs × AllStandAt g es rs
