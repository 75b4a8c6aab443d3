-- The stacks of an end: what each frame stands on, who began a thread, and that no thread has two stacks.
use Rattle.std.specs.Prelude.{◌≡◌, ℕ, ◌≤◌, Bool, true, false, List, [], ◌∷◌, length, Some}
use Rattle.plan_model.specs.Frames.{Body, Frame, base, body, outgoing, Stack, frames_of}
use Rattle.bridge_laws.specs.Rooted.{bottom, waits}
use Rattle.bridge_model.specs.Settings.{Setting, root_tid, is_own}
use Rattle.bridge_model.specs.Sides.{Side, state_of}

-- a root or a method is on top, which may call
abbrev pub MayCall : List Frame → Type 0
MayCall [] = ⊥
MayCall (base root ∷ fs) = Unit
MayCall (body b ∷ fs) = Unit
MayCall (outgoing o ∷ fs) = ⊥

-- there is nothing, or a call that went out is on top, so that the peer may call
abbrev pub MayBeCalledBack : List Frame → Type 0
MayBeCalledBack [] = Unit
MayBeCalledBack (base root ∷ fs) = ⊥
MayBeCalledBack (body b ∷ fs) = ⊥
MayBeCalledBack (outgoing o ∷ fs) = Unit

-- a method of the peer's begins a stack or stands on a call that went out; a method of this end stands on who called it
abbrev pub MethodStandsOn : (from_peer : Bool) → List Frame → Type 0
MethodStandsOn true below = MayBeCalledBack below
MethodStandsOn false below = MayCall below

-- a root begins a stack, and a call that went out stands on who called
abbrev pub StandsOn : Frame → List Frame → Type 0
StandsOn (base root) below = below ≡ []
StandsOn (body b) below = MethodStandsOn b.from_peer below
StandsOn (outgoing o) below = MayCall below

-- each frame stands on those below it as it may
abbrev pub AreStacked : List Frame → Type 0
AreStacked [] = Unit
AreStacked (f ∷ fs) = StandsOn f fs × AreStacked fs

-- a method runs at the top, or a call that went out waits there
abbrev pub IsUnderWay : List Frame → Type 0
IsUnderWay [] = ⊥
IsUnderWay (base root ∷ fs) = ⊥
IsUnderWay (body b ∷ fs) = Unit
IsUnderWay (outgoing o ∷ fs) = Unit

-- a thread has no stack; or a root of this end began it, whose thread it is and which waits; or a method began it that the peer called on a thread of its own
pub data IsThread (g : Setting) (s : Side) (tid : List ℕ) : List Frame → Type 0 where
  without_stack : IsThread g s tid []
  of_root : (fs : List Frame) → (root : ℕ) → 1 ≤ root → root ≤ length g.plan.threads → tid ≡ root_tid g root → waits (state_of root s.tables.roots) ≡ true
      → bottom fs ≡ Some (base root) → IsUnderWay fs → AreStacked fs → IsThread g s tid fs
  of_peer : (fs : List Frame) → is_own g tid ≡ false → (first : Body) → first.from_peer ≡ true → bottom fs ≡ Some (body first) → IsUnderWay fs → AreStacked fs → IsThread g s tid fs

-- no thread has two stacks
abbrev pub HaveOneEach : List Stack → Type 0
HaveOneEach [] = Unit
HaveOneEach (s ∷ ss) = (frames_of s.tid ss ≡ []) × HaveOneEach ss
