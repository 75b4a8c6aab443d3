-- What references count in all stacks: the frames of one thread count no more, and others in their place add what they count.
use Rattle.std.proofs.Common.{◌≡◌, ℕ, ◌+◌, ◌≤◌, Bool, true, false, if◌then◌else◌, List, [], ◌∷◌, refl, arith}
use Rattle.uno_model.specs.Values.{Ref}
use Rattle.plan_model.specs.Frames.{Frame, Stack, is_of, frames_of}
use Rattle.bridge_model.specs.Stacks.{stack_with, puts_frames}
use Rattle.bridge_laws.specs.Counting.{total}
use Rattle.bridge_laws.proofs.FrameCountLaws.{frames_count, stacks_count, no_frames}

pub stacks_counted : (f : Ref → ℕ) (s : Stack) (ss : List Stack) → stacks_count f (s ∷ ss) ≡ frames_count f s.frames + stacks_count f ss
unfolding total
stacks_counted f s ss = refl

pub no_stacks : (f : Ref → ℕ) → stacks_count f [] ≡ 0
unfolding total
no_stacks f = refl

found_step : (f : Ref → ℕ) (b : Bool) (s : Stack) (ss : List Stack) (fs : List Frame) → frames_count f fs ≤ stacks_count f ss
    → frames_count f (if b then s.frames else fs) ≤ stacks_count f (s ∷ ss)
found_step f true s ss fs rest = let all = stacks_counted f s ss in omega arith
found_step f false s ss fs rest = let all = stacks_counted f s ss in omega arith

pub thread_counts : (f : Ref → ℕ) (tid : List ℕ) (ss : List Stack) → frames_count f (frames_of tid ss) ≤ stacks_count f ss
unfolding frames_of
thread_counts f tid [] = let nothing = no_frames f in omega arith
thread_counts f tid (s ∷ ss) = found_step f (is_of tid s) s ss (frames_of tid ss) (thread_counts f tid ss)

with_counts : (f : Ref → ℕ) (tid : List ℕ) (fs : List Frame) (ss : List Stack) → stacks_count f (stack_with tid fs ss) ≤ frames_count f fs + stacks_count f ss
with_counts f tid [] ss = omega arith
with_counts f tid (x ∷ fs) ss = let all = stacks_counted f (record { tid = tid; frames = x ∷ fs }) ss in omega arith

put_step : (f : Ref → ℕ) (b : Bool) (tid : List ℕ) (fs : List Frame) (s : Stack) (new ss : List Stack) → stacks_count f new ≤ frames_count f fs + stacks_count f ss
    → stacks_count f (if b then stack_with tid fs ss else s ∷ new) ≤ frames_count f fs + stacks_count f (s ∷ ss)
put_step f true tid fs s new ss rest = let all = stacks_counted f s ss in let put = with_counts f tid fs ss in omega arith
put_step f false tid fs s new ss rest = let all = stacks_counted f s ss in let put = stacks_counted f s new in omega arith

pub puts_count : (f : Ref → ℕ) (tid : List ℕ) (fs : List Frame) (ss : List Stack) → stacks_count f (puts_frames tid fs ss) ≤ frames_count f fs + stacks_count f ss
unfolding puts_frames
puts_count f tid fs [] = with_counts f tid fs []
puts_count f tid fs (s ∷ ss) = put_step f (is_of tid s) tid fs s (puts_frames tid fs ss) ss (puts_count f tid fs ss)
