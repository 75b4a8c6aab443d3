-- Stacks of frames.
use Rattle.std.proofs.Common.{◌≡◌, refl, ℕ, List, [], ◌∷◌, None, Some, codes}
use Rattle.plan_model.specs.Frames.{Outgoing, Stack, base, outgoing, frames_of, top, depth_of, nth_tid, pushed, popped, with_top, answerable}

abbrev t : List ℕ
t = codes "T"

abbrev u : List ℕ
u = codes "U"

abbrev sent : Outgoing
sent = record { number = 4; oid = codes "C;1"; face = codes "demo.XNode"; function = 3 }

-- a root begins a stack, and a call goes out on it; another one begins behind it
abbrev stacks : List Stack
stacks = pushed u (base 2) (pushed t (outgoing sent) (pushed t (base 1) []))

top_row : top t (pushed t (base 1) []) ≡ Some (base 1)
unfolding pushed frames_of
top_row = refl

-- nobody waits where a root's frame is on top
base_row : answerable t (pushed t (base 1) []) ≡ None
unfolding pushed frames_of
base_row = refl

no_stack_row : answerable u (pushed t (base 1) []) ≡ None
unfolding pushed frames_of
no_stack_row = refl

outgoing_row : answerable t stacks ≡ Some sent
unfolding pushed frames_of
outgoing_row = refl

abbrev sent_later : Outgoing
sent_later = record { number = 5; oid = codes "C;2"; face = codes "demo.XNode"; function = 4 }

-- of two calls that wait on a thread the later one is answered
two_wait_row : answerable t (pushed t (outgoing sent_later) stacks) ≡ Some sent_later
unfolding pushed frames_of
two_wait_row = refl

depth_row : depth_of t stacks ≡ 2
unfolding pushed frames_of
depth_row = refl

-- the oldest first
nth_row : nth_tid stacks 1 ≡ Some u
unfolding pushed
nth_row = refl

popped_row : popped t stacks ≡ record { tid = t; frames = base 1 ∷ [] } ∷ (record { tid = u; frames = base 2 ∷ [] } ∷ [])
unfolding pushed popped
popped_row = refl

-- a stack goes with its last frame
last_row : popped u stacks ≡ record { tid = t; frames = outgoing sent ∷ (base 1 ∷ []) } ∷ []
unfolding pushed popped
last_row = refl

with_top_row : frames_of t (with_top t (base 3) stacks) ≡ base 3 ∷ (base 1 ∷ [])
unfolding pushed with_top frames_of
with_top_row = refl
