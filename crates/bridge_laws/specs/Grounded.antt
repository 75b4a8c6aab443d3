-- The stacks of a side are those of its roots that wait and of the peer's threads: a thread has no stack and its root does not wait, or a root of this end began it and waits,
-- or the peer began it.
use Rattle.std.specs.Prelude.{◌≡◌, ℕ, ◌≤◌, Bool, true, false, ◌&&◌, List, [], ◌∷◌, length, Option, None, Some, if◌then◌else◌}
use Rattle.plan_model.specs.Frames.{Frame, base, body, outgoing, Stack, first_frame, frames_of}
use Rattle.bridge_model.specs.Settings.{Setting, root_tid, is_own}
use Rattle.bridge_model.specs.Sides.{RootState, Side, state_of}
use Rattle.bridge_laws.specs.Rooted.{waits}

-- ---- frames

-- a call of this end stands on its caller, a method or a root
abbrev pub is_caller : Option Frame → Bool
is_caller None = false
is_caller (Some (base root)) = true
is_caller (Some (body b)) = true
is_caller (Some (outgoing o)) = false

-- a method that the peer called begins a stack, or stands on a call that went out
abbrev pub is_awaited : Option Frame → Bool
is_awaited None = true
is_awaited (Some (base root)) = false
is_awaited (Some (body b)) = false
is_awaited (Some (outgoing o)) = true

abbrev pub begins : Option Frame → Bool
begins None = true
begins (Some f) = false

-- what a frame may stand on
abbrev pub may_stand_on : Frame → Option Frame → Bool
may_stand_on (base root) below = begins below
may_stand_on (body b) below = if b.from_peer then is_awaited below else is_caller below
may_stand_on (outgoing o) below = is_caller below

unfoldable pub is_stack : List Frame → Bool
is_stack [] = true
is_stack (f ∷ fs) = may_stand_on f (first_frame fs) && is_stack fs

-- a root is never at the top
abbrev pub is_running : Option Frame → Bool
is_running None = false
is_running (Some (base root)) = false
is_running (Some (body b)) = true
is_running (Some (outgoing o)) = true

abbrev pub is_live : List Frame → Bool
is_live fs = is_running (first_frame fs) && is_stack fs

-- the root that began a stack, where a root did
abbrev pub root_in : Frame → Option ℕ
root_in (base root) = Some root
root_in (body b) = None
root_in (outgoing o) = None

abbrev pub began : List Frame → Option ℕ
began [] = None
began (f ∷ []) = root_in f
began (f ∷ (h ∷ fs)) = began (h ∷ fs)

-- no thread has two stacks
unfoldable pub AreApart : List Stack → Type 0
AreApart [] = Unit
AreApart (s ∷ ss) = (frames_of s.tid ss ≡ []) × AreApart ss

-- ---- threads

pub data Thread (g : Setting) (roots : List RootState) (tid : List ℕ) (fs : List Frame) : Type 0 where
  nothing : fs ≡ [] → ((root : ℕ) → 1 ≤ root → root ≤ length g.plan.threads → tid ≡ root_tid g root → waits (state_of root roots) ≡ false) → Thread g roots tid fs
  of_root : (root : ℕ) → 1 ≤ root → root ≤ length g.plan.threads → tid ≡ root_tid g root → waits (state_of root roots) ≡ true → is_live fs ≡ true → began fs ≡ Some root
      → Thread g roots tid fs
  of_peer : is_own g tid ≡ false → is_live fs ≡ true → began fs ≡ None → Thread g roots tid fs

-- the stacks of a side, and the states of its roots
pub record Grounded (g : Setting) (roots : List RootState) (stacks : List Stack) : Type 0 where
  pub counted : length roots ≡ length g.plan.threads
  pub apart : AreApart stacks
  pub each : (tid : List ℕ) → Thread g roots tid (frames_of tid stacks)

-- what holds of a side
abbrev pub HasRoots : Setting → Side → Type 0
HasRoots g s = Grounded g s.tables.roots s.stacks
