-- A run that stands for a journal stands for the one behind its move.
use Rattle.std.proofs.Common.{◌≡◌, refl, sym, subst, ◌⊎◌, inl, inr, Bool, true, false, Option, None, Some, if◌then◌else◌}
use Rattle.plan_model.specs.Roots.{Run}
use Rattle.bridge_model.specs.Entries.{Entry, no_memory}
use Rattle.bridge_model.specs.Histories.{Leads}
use Rattle.bridge_model.specs.RootRuns.{StandsFor, another, entered, passed, moved}
use Rattle.bridge_model.specs.Steps.{is_no_memory}
use Rattle.bridge_endpoint.specs.Entering.{out_of_memory}
use Rattle.bridge_endpoint.specs.Journals.{Endpoint, setting_at, side_at, told_at, with_entry}
use Rattle.bridge_core.specs.declared.moved.RootMoved.{RootMoved}
use Rattle.bridge_core.specs.declared.moved.RootMoved.TheVariants as answer
use Rattle.bridge_core.specs.Moving.{IsLeft, StepsSo, next_move, with_any}

abbrev Stands : Endpoint → Run → Type 0
Stands e r = StandsFor (setting_at e) e.entries r

module _ (e : Endpoint) (leads : Leads (setting_at e) e.entries (told_at e)) where
  by_entry : (f : Endpoint) (before after : Run) (x : Option Entry) → next_move e before ≡ moved after x → f ≡ with_any x e → Stands e before → Stands f after
  unfolding side_at
  by_entry f before after None moves is stands = subst (λ f. Stands f after) (sym is) (passed leads moves stands)
  by_entry f before after (Some x) moves is stands = subst (λ f. Stands f after) (sym is) (entered x leads moves stands)

  -- want of memory is no entry of a root
  lost : (already : Bool) (r : Run) → Stands e r → Stands (if already then e else with_entry no_memory e) r
  lost true r stands = stands
  lost false r stands = another no_memory refl stands

  left : (f : Endpoint) (before after : Run) → IsLeft e f before after → Stands e before → Stands f after
  left f before after is stands = subst (λ r. Stands f r) (sym is.run) (by_bridge is.bridge)
    where
      by_bridge : (f ≡ e) ⊎ (f ≡ out_of_memory e) → Stands f before
      by_bridge (inl same) = subst (λ f. Stands f before) (sym same) stands
      by_bridge (inr out) = subst (λ f. Stands f before) (sym out) (lost (is_no_memory (side_at e).cause) before stands)

  same : (f : Endpoint) (before after : Run) → after ≡ before → f ≡ e → Stands e before → Stands f after
  same f before after is bridge stands = subst (λ r. Stands f r) (sym is) (subst (λ f. Stands f before) (sym bridge) stands)

  pub stands_behind : (f : Endpoint) (before after : Run) (a : RootMoved) → StepsSo e f before after a → Stands e before → Stands f after
  stands_behind f before after answer.Moved does stands = by_entry f before after does.entry does.moves does.entered stands
  stands_behind f before after answer.Waiting does stands = same f before after does.1 does.2 stands
  stands_behind f before after answer.Finished does stands = same f before after does.1 does.2 stands
  stands_behind f before after answer.NoMemory does stands = left f before after does stands
