use Rattle.std.proofs.Common.{◌≡◌, ◌<◌, ℕ, get_or, true}
use Rattle.idl_joint_places.proofs.limits.are_all_marked.Given as goal

-- those so far are marked
abbrev pub invariant-loop-place : goal.invariant-loop-place
invariant-loop-place l = (place : ℕ) → place < l.place → get_or l.marks place true ≡ true
