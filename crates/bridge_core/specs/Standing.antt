-- What is known of each endpoint, and what is asked of a run that moves there.
use Rattle.std.specs.Prelude.{◌≡◌, ◌≤◌, true, length}
use Rattle.bridge_model.specs.Histories.{Leads}
use Rattle.bridge_model.specs.RootRuns.{StandsFor}
use Rattle.bridge_model.specs.Steps.{is_root}
use Rattle.bridge_laws.specs.Giving.{RootsGive}
use Rattle.plan_model.specs.Forms.{is_export_name}
use Rattle.plan_model.specs.Roots.{Run}
use Rattle.uno_model.specs.BuiltIn.{HasBuiltIn}
use Rattle.bridge_endpoint.specs.Journals.{Endpoint, IsSetUp, setting_at, told_at}

-- its journal is a history of roots that gave what they may, and its setting is as the laws of histories ask for
pub record IsHistory (e : Endpoint) : Type 0 where
  pub leads : Leads (setting_at e) e.entries (told_at e)
  pub gives : RootsGive (setting_at e) e.entries
  pub set_up : IsSetUp (setting_at e)
  pub built_in : HasBuiltIn (setting_at e).registry
  pub tag : length (setting_at e).tag ≤ 32

-- the run is of a root of the plan, stands for the journal, and asks for its instance by a name that has the form of an export's
pub record IsRunAt (e : Endpoint) (r : Run) : Type 0 where
  pub root : is_root (setting_at e) r.root ≡ true
  pub stands : StandsFor (setting_at e) e.entries r
  pub named : is_export_name r.instance ≡ true
