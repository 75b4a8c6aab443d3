-- The end of a bridge in a journal: the entry before which it stood and behind which it has ended.
use Rattle.std.specs.Prelude.{◌≡◌, ◌⊎◌, ℕ, true, List, ◌∷◌, ◌++◌, Some}
use Rattle.urp_model.specs.declared.reason.Reason.{Reason}
use Rattle.plan_model.specs.Asking.{disposes}
use Rattle.bridge_model.specs.Applying.{effect_at}
use Rattle.bridge_model.specs.Entries.{Entry, fed, ended, failed, asked, called, queried, made, dropped, applied, took, reaped, drained, disposed, full, no_memory}
use Rattle.bridge_model.specs.Histories.{Told, Leads}
use Rattle.bridge_model.specs.Settings.{Setting}
use Rattle.bridge_model.specs.Sides.{Side, stands}
use Rattle.bridge_model.specs.Steps.{Picked, picked, Turn, step}
use Rattle.bridge_model.specs.declared.cause.Cause.{Cause}
use Rattle.bridge_model.specs.declared.cause.Cause.TheVariants as cause

-- the statement that a thread is at disposes the bridge
pub record Disposes (g : Setting) (s : Side) (tid : List ℕ) : Type 0 where
  pub at : Picked
  pub is : picked tid s ≡ Some at
  pub effect : effect_at g tid at.method at.below s.tables ≡ disposes

-- each entry that may end a bridge, with its cause; no other one ends it
abbrev pub EndsWith : Setting → Side → Entry → Cause → Type 0
EndsWith g s (fed b) why = (reason : Reason) × (place : ℕ) × (why ≡ cause.Broken reason place)
EndsWith g s ended why = why ≡ cause.Ended
EndsWith g s failed why = why ≡ cause.Failed
EndsWith g s (asked root name wanted) why = ⊥
EndsWith g s (called root oid face function args) why = ⊥
EndsWith g s (queried root oid face wanted) why = ⊥
EndsWith g s (made root behaviour wanted) why = ⊥
EndsWith g s (dropped root oid face) why = ⊥
EndsWith g s (applied tid) why = Disposes g s tid × (why ≡ cause.Disposed)
EndsWith g s (took root) why = ⊥
EndsWith g s (reaped object) why = ⊥
EndsWith g s (drained b) why = ⊥
EndsWith g s disposed why = why ≡ cause.Disposed
EndsWith g s full why = why ≡ cause.Full
EndsWith g s no_memory why = why ≡ cause.NoMemory

-- a journal ends the bridge with this cause: it stood before one entry, which ended it so
pub record HasEnd (g : Setting) (es : List Entry) (why : Cause) : Type 0 where
  pub before : List Entry
  pub entry : Entry
  pub later : List Entry
  pub journal : es ≡ before ++ entry ∷ later
  pub stood : Told
  pub leads : Leads g before stood
  pub up : stands stood.side ≡ true
  pub turn : Turn
  pub does : step g stood.side entry ≡ Some turn
  pub cause : turn.side.cause ≡ Some why
  pub ends : EndsWith g stood.side entry why

-- want of memory stands in a journal
abbrev pub HasNoMemory : List Entry → Type 0
HasNoMemory es = (before : List Entry) × (later : List Entry) × (es ≡ before ++ no_memory ∷ later)

-- why a bridge has ended: a journal ended it so, or ended it, and it had no memory later
abbrev pub IsCause : Setting → List Entry → Cause → Type 0
IsCause g es why = HasEnd g es why ⊎ ((why ≡ cause.NoMemory) × (first : Cause) × HasEnd g es first × HasNoMemory es)
