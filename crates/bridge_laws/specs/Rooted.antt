-- Roots and stacks: which stack is a root's, and which roots wait.
use Rattle.std.specs.Prelude.{◌≡◌, ℕ, ◌≤◌, Bool, true, false, List, [], ◌∷◌, length, Option, None, Some, ◌↔◌}
use Rattle.plan_model.specs.Frames.{Frame, base, frames_of}
use Rattle.bridge_model.specs.Settings.{Setting, root_tid, is_own}
use Rattle.bridge_model.specs.Sides.{RootState, idle, waits_call, waits_query, answered, Side, state_of}

-- the frame that began a stack
abbrev pub bottom : List Frame → Option Frame
bottom [] = None
bottom (f ∷ []) = Some f
bottom (f ∷ (h ∷ fs)) = bottom (h ∷ fs)

abbrev pub waits : RootState → Bool
waits idle = false
waits waits_call = true
waits (waits_query wanted) = true
waits (answered o) = false

-- a root of the plan waits exactly where its thread has a stack, and that begins with the root
pub record IsRooted (g : Setting) (s : Side) (root : ℕ) : Type 0 where
  pub waiting : waits (state_of root s.tables.roots) ≡ true ↔ bottom (frames_of (root_tid g root) s.stacks) ≡ Some (base root)
  pub quiet : waits (state_of root s.tables.roots) ≡ false ↔ frames_of (root_tid g root) s.stacks ≡ []

-- a stack of a thread of this end is a root's
abbrev pub AreRoots : Setting → Side → Type 0
AreRoots g s = (tid : List ℕ) → is_own g tid ≡ true → (f : Frame) (fs : List Frame) → frames_of tid s.stacks ≡ f ∷ fs
    → (root : ℕ) × (1 ≤ root) × (root ≤ length g.plan.threads) × (tid ≡ root_tid g root)
