-- What the parts of a turn do to an endpoint, its roots and the bytes that were taken of it, and where they lead.
use Rattle.std.specs.Prelude.{◌≡◌, ℕ, ◌<◌, Bool, true, false, List, [], ◌∷◌, length, Option, None, Some, Result, Ok, Err}
use Rattle.std.specs.Io.KnownBytes.{Appends}
use Rattle.plan_model.specs.Roots.{Run}
use Rattle.uno_io.specs.Fronts.{AppendsFront}
use Rattle.bridge_model.specs.Answers.{ready_at, drained_next}
use Rattle.bridge_model.specs.Entries.{Entry, applied, drained}
use Rattle.bridge_model.specs.Orders.{root_move, or_full, most_drained}
use Rattle.bridge_model.specs.Sides.{stands}
use Rattle.bridge_model.specs.declared.cause.Cause.{Cause}
use Rattle.bridge_model.specs.declared.cause.Cause.TheVariants as cause
use Rattle.bridge_endpoint.specs.Journals.{Endpoint, setting_at, side_at, told_at, with_entry}
use Rattle.bridge_core.specs.Moving.{with_any}
use Rattle.bridge_laws.specs.Working.{AllIsDone}
use Rattle.answering.specs.Doing.{First, bytes_with, Feeds, Closes}
use Rattle.answering.specs.Running.{AreRoots}
use Rattle.answering.specs.Turning.{Turns, Halts, Answers, HaltsIn}
use Rattle.answering.specs.declared.stopped.Halted.{Halted}
use Rattle.answering.specs.declared.stopped.Halted.TheVariants as halted

-- ---- the first thing that can be done

-- the next statement of the oldest method that is ready was run, or the limit of entries reached; or none is ready
pub record Applies (e f : Endpoint) : Type 0 where
  pub tid : List ℕ
  pub ready : ready_at (side_at e) 0 ≡ Some tid
  pub entered : f ≡ with_entry (or_full (side_at e) (applied tid)) e

abbrev pub AppliesFirst : Endpoint → Endpoint → Result Bool Halted → Type 0
AppliesFirst e f (Ok true) = Applies e f
AppliesFirst e f (Ok false) = (ready_at (side_at e) 0 ≡ None) × (f ≡ e)
AppliesFirst e f (Err why) = why ≡ halted.NoMemory

-- the lowest root that moves has moved; or none does
pub record Moves (e f : Endpoint) (runs next : List Run) : Type 0 where
  pub entry : Option Entry
  pub moves : root_move (setting_at e) (side_at e) runs ≡ Some (record { runs = next; entry = entry })
  pub entered : f ≡ with_any entry e

abbrev pub MovesFirst : Endpoint → Endpoint → List Run → List Run → Result Bool Halted → Type 0
MovesFirst e f runs next (Ok true) = Moves e f runs next
MovesFirst e f runs next (Ok false) = (root_move (setting_at e) (side_at e) runs ≡ None) × (next ≡ runs) × (f ≡ e)
MovesFirst e f runs next (Err why) = why ≡ halted.NoMemory

-- the next bytes went out
pub record Drains (e f : Endpoint) : Type 0 where
  pub byte : ℕ
  pub more : List ℕ
  pub waits : drained_next (setting_at e) most_drained (side_at e) ≡ byte ∷ more
  pub entered : f ≡ with_entry (drained (byte ∷ more)) e

-- all of them were taken, or none went out; where memory was wanting none were, and where the output failed a front of them
abbrev pub DrainsFirst : Endpoint → Endpoint → (old new : Option (List ℕ)) → Result Bool Halted → Type 0
DrainsFirst e f old new (Ok true) = (out : Drains e f) × Appends old new (out.byte ∷ out.more)
DrainsFirst e f old new (Ok false) = (drained_next (setting_at e) most_drained (side_at e) ≡ []) × (f ≡ e) × (new ≡ old)
DrainsFirst e f old new (Err halted.WriteFault) = (out : Drains e f) × AppendsFront old new (out.byte ∷ out.more)
DrainsFirst e f old new (Err halted.NoMemory) = new ≡ old

-- the first thing was done, with its entry
pub record Did (e f : Endpoint) (runs next : List Run) : Type 0 where
  pub entry : Option Entry
  pub first : First (setting_at e) (side_at e) runs next entry
  pub entered : f ≡ with_any entry e

-- or all was done before; where memory was wanting nothing was taken, and where the output failed a front of what went out
abbrev pub DoesFirst : Endpoint → Endpoint → List Run → List Run → (old new : Option (List ℕ)) → Result Bool Halted → Type 0
DoesFirst e f runs next old new (Ok true) = (did : Did e f runs next) × Appends old new (bytes_with did.entry)
DoesFirst e f runs next old new (Ok false) = AllIsDone (setting_at e) (side_at e) runs × (next ≡ runs) × (f ≡ e) × (new ≡ old)
DoesFirst e f runs next old new (Err halted.WriteFault) = (did : Did e f runs next) × AppendsFront old new (bytes_with did.entry)
DoesFirst e f runs next old new (Err halted.NoMemory) = new ≡ old

-- ---- turns

-- turns lead on
pub record GoesOn (e f : Endpoint) (runs next : List Run) (old new : Option (List ℕ)) : Type 0 where
  pub setting : setting_at f ≡ setting_at e
  pub turns : Turns (setting_at e) (told_at e) (told_at f) runs next old new
  pub roots : AreRoots e runs → AreRoots f next

-- nothing can be done but feeding
abbrev pub IsSettled : Endpoint → List Run → Type 0
IsSettled e runs = AllIsDone (setting_at e) (told_at e).side runs

abbrev pub HaltsAt : Endpoint → List Run → (old new : Option (List ℕ)) → Type 0
HaltsAt e runs old new = Halts (setting_at e) (told_at e) runs old new

-- one turn: where it is none, all is done
abbrev pub TurnsSo : Endpoint → Endpoint → List Run → List Run → (old new : Option (List ℕ)) → Result Bool Halted → Type 0
TurnsSo e f runs next old new (Ok more) = GoesOn e f runs next old new × (more ≡ false → IsSettled f next)
TurnsSo e f runs next old new (Err why) = HaltsAt e runs old new

-- turns until all is done
abbrev pub SettlesSo : {X : Type 0} → Endpoint → Endpoint → List Run → List Run → (old new : Option (List ℕ)) → Result X Halted → Type 0
SettlesSo e f runs next old new (Ok u) = GoesOn e f runs next old new × IsSettled f next
SettlesSo e f runs next old new (Err why) = HaltsAt e runs old new

-- why the bridge has ended then, where it has
abbrev pub WorksSo : Endpoint → Endpoint → List Run → List Run → (old new : Option (List ℕ)) → Result (Option Cause) Halted → Type 0
WorksSo e f runs next old new (Ok why) = GoesOn e f runs next old new × IsSettled f next × ((told_at f).side.cause ≡ why)
WorksSo e f runs next old new (Err why) = HaltsAt e runs old new

-- ---- pieces

-- a front of a piece was fed, or a limit ended the bridge; where the bridge stands, this is what is left
pub record IsFed (e f : Endpoint) (piece rest : List ℕ) : Type 0 where
  pub setting : setting_at f ≡ setting_at e
  pub left : List ℕ
  pub feeds : Feeds (setting_at e) (told_at e) (told_at f) piece left
  pub same : stands (told_at f).side ≡ true → left ≡ rest
  pub shorter : length rest < length piece

-- so much of a piece was answered: all of it where the bridge stands
pub record IsAnswered (e f : Endpoint) (runs next : List Run) (piece : List ℕ) (old new : Option (List ℕ)) (why : Option Cause) : Type 0 where
  pub setting : setting_at f ≡ setting_at e
  pub left : List ℕ
  pub answers : Answers (setting_at e) (told_at e) (told_at f) runs next piece left old new
  pub settled : IsSettled f next
  pub ended : (told_at f).side.cause ≡ why
  pub all : why ≡ None → left ≡ []
  pub roots : AreRoots f next

abbrev pub AnswersSo : Endpoint → Endpoint → List Run → List Run → List ℕ → (old new : Option (List ℕ)) → Result (Option Cause) Halted → Type 0
AnswersSo e f runs next piece old new (Ok why) = IsAnswered e f runs next piece old new why
AnswersSo e f runs next piece old new (Err why) = HaltsIn (setting_at e) (told_at e) runs piece old new

-- ---- the end of the input

-- the bridge ended with it, and all is done, without a byte more
pub record IsClosing (e f : Endpoint) (runs next : List Run) (old new : Option (List ℕ)) : Type 0 where
  pub closes : Closes (setting_at e) (told_at e) (told_at f) runs next
  pub ended : (told_at f).side.cause ≡ Some cause.Ended
  pub taken : Appends old new []

abbrev pub ClosesSo : {X : Type 0} → Endpoint → Endpoint → List Run → List Run → (old new : Option (List ℕ)) → Result X Halted → Type 0
ClosesSo e f runs next old new (Ok u) = IsClosing e f runs next old new
ClosesSo e f runs next old new (Err why) = AppendsFront old new []
