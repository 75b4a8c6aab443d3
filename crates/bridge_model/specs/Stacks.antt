-- The stacks of a side: the frames of one thread changed as a whole, and the calls that wait for the peer.
use Rattle.std.specs.Prelude.{ℕ, Bool, true, false, List, [], ◌∷◌, ◌++◌, Option, None, Some, if◌then◌else◌}
use Rattle.message_model.specs.Calls.{Waits}
use Rattle.plan_model.specs.Frames.{Frame, outgoing, Outgoing, Stack, is_of, frames_of, first_frame, outgoing_in}
use Rattle.bridge_model.specs.Calls.{Unwound}
use Rattle.bridge_model.specs.Sides.{Side}

-- the frames of a thread; a stack without frames is none, and a new one stands behind all others
abbrev pub stack_with : List ℕ → List Frame → List Stack → List Stack
stack_with tid [] ss = ss
stack_with tid (f ∷ fs) ss = record { tid = tid; frames = f ∷ fs } ∷ ss

unfoldable pub puts_frames : List ℕ → List Frame → List Stack → List Stack
puts_frames tid fs [] = stack_with tid fs []
puts_frames tid fs (s ∷ ss) = if is_of tid s then stack_with tid fs ss else s ∷ puts_frames tid fs ss

abbrev pub with_unwound : List ℕ → Unwound → Side → Side
with_unwound tid u s = record s { tables = u.tables; stacks = puts_frames tid u.frames s.stacks }

-- a thread without frames has no stack
abbrev pub has_stack : List ℕ → List Stack → Bool
has_stack tid ss = is_some_frame (frames_of tid ss)
  where
    is_some_frame : List Frame → Bool
    is_some_frame [] = false
    is_some_frame (f ∷ fs) = true

-- a thread that has a stack whose top does not wait for the peer
abbrev pub is_busy_top : List Frame → Bool
is_busy_top [] = false
is_busy_top (outgoing o ∷ fs) = false
is_busy_top (f ∷ fs) = true

abbrev pub is_busy : List ℕ → List Stack → Bool
is_busy tid ss = is_busy_top (frames_of tid ss)

-- the call that waits at the top of a stack
abbrev pub wait_of : List ℕ → Option Outgoing → Waits
wait_of tid None = []
wait_of tid (Some o) = (tid, record { face = o.face; function = o.function }) ∷ []

unfoldable pub waits_of : List Stack → Waits
waits_of [] = []
waits_of (s ∷ ss) = wait_of s.tid (outgoing_in (first_frame s.frames)) ++ waits_of ss
