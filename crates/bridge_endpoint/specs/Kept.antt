-- What an endpoint keeps: its journal leads to its state, and has room for the entries that take no memory.
use Rattle.std.specs.Prelude.{◌≡◌, ℕ, ◌≤◌, length}
use Rattle.bridge_journal.specs.Logs.{Log}
use Rattle.bridge_model.specs.Histories.{Told, Leads}
use Rattle.bridge_model.specs.Settings.{Setting}
use Rattle.bridge_laws.specs.Room.{needed}
use Rattle.bridge_state.specs.EndSides.{EndSide, IsEndOf}
use Rattle.bridge_laws.specs.Giving.{RootsGive}
use Rattle.uno_entities.specs.Tag.{IsTag}
use Rattle.uno_model.specs.BuiltIn.{HasBuiltIn}
use Rattle.bridge_endpoint.specs.Entering.{IsWithin}
use Rattle.bridge_endpoint.specs.Journals.{IsSetUp}

-- with so many roots
pub record IsKept (g : Setting) (roots : ℕ) (e : EndSide) (log : Log) : Type 0 where
  pub told : Told
  pub leads : Leads g log.entries told
  pub here : told.side ≡ e.side
  pub of : IsEndOf g e
  pub set_up : IsSetUp g
  pub built_in : HasBuiltIn g.registry
  pub tag : IsTag g.tag
  pub gives : RootsGive g log.entries
  pub named : roots ≡ length g.plan.threads
  pub room : needed e.side ≤ log.room
  pub counted : e.side.entries ≤ length log.entries
  pub within : IsWithin log
