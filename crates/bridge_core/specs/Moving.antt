-- What a root's move does to the run and to the endpoint.
use Rattle.std.specs.Prelude.{◌≡◌, ◌⊎◌, Bool, true, false, Option, None, Some, Result, Ok, Err}
use Rattle.plan_model.specs.Roots.{Run}
use Rattle.bridge_model.specs.Entries.{Entry}
use Rattle.bridge_model.specs.RootRuns.{Moved, root_moves, waiting, finished, moved}
use Rattle.bridge_endpoint.specs.Entering.{out_of_memory}
use Rattle.bridge_endpoint.specs.Journals.{Endpoint, setting_at, side_at, with_entry}
use Rattle.bridge_core.specs.declared.moved.RootMoved.{RootMoved}
use Rattle.bridge_core.specs.declared.moved.RootMoved.TheVariants as answer

-- an entry more, or none
abbrev pub with_any : Option Entry → Endpoint → Endpoint
with_any None e = e
with_any (Some x) e = with_entry x e

-- the run and the endpoint are what a move makes of them
pub record Does (m : Moved) (e f : Endpoint) (after : Run) : Type 0 where
  pub entry : Option Entry
  pub moves : m ≡ moved after entry
  pub entered : f ≡ with_any entry e

-- nothing is changed, but that the bridge may have ended for want of memory
pub record IsLeft (e f : Endpoint) (before after : Run) : Type 0 where
  pub run : after ≡ before
  pub bridge : (f ≡ e) ⊎ (f ≡ out_of_memory e)

-- the next move of a run at an endpoint
abbrev pub next_move : Endpoint → Run → Moved
next_move e r = root_moves (setting_at e) (side_at e) r

-- it was made, or memory was wanted for it
abbrev pub DoesOr : {X : Type 0} → Moved → Endpoint → Endpoint → Run → Run → Result Unit X → Type 0
DoesOr m e f before after (Ok u) = Does m e f after
DoesOr m e f before after (Err x) = IsLeft e f before after

-- or there was none
abbrev pub DoesAny : {X : Type 0} → Moved → Endpoint → Endpoint → Run → Run → Result Bool X → Type 0
DoesAny m e f before after (Ok true) = Does m e f after
DoesAny m e f before after (Ok false) = (m ≡ finished) × (after ≡ before) × (f ≡ e)
DoesAny m e f before after (Err x) = IsLeft e f before after

-- what is answered to that
abbrev pub told : {X : Type 0} → Result Bool X → RootMoved
told (Ok true) = answer.Moved
told (Ok false) = answer.Finished
told (Err x) = answer.NoMemory

-- what a root's step comes to
abbrev pub StepsSo : Endpoint → Endpoint → Run → Run → RootMoved → Type 0
StepsSo e f before after answer.Moved = Does (next_move e before) e f after
StepsSo e f before after answer.Waiting = (next_move e before ≡ waiting) × (after ≡ before) × (f ≡ e)
StepsSo e f before after answer.Finished = (next_move e before ≡ finished) × (after ≡ before) × (f ≡ e)
StepsSo e f before after answer.NoMemory = IsLeft e f before after
