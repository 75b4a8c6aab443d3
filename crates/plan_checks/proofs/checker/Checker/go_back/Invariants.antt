use Rattle.plan_checks.specs.Checks.{before}
use Rattle.plan_checks.specs.Parts.{asked_of}
use Rattle.plan_lines.specs.Pieces.{pieces_of}
use Rattle.std.specs.Prelude.{length, take, ◌≡◌, ◌≤◌}
use Rattle.term_pieces.specs.Parts.{all_before}
use Rattle.plan_checks.proofs.checker.Checker.go_back.Given as goal

abbrev pub invariant-loop-left : goal.invariant-loop-left
invariant-loop-left l =
    (all_before l.self.registry.now (before l.self) (take l.left (pieces_of l.pieces)) (asked_of l.parts.items l.wanted.items)
    ≡ all_before l.self.registry.now (before l.self) (pieces_of l.pieces) (asked_of l.fn.parts.items l.fn.wanted.items))
    × (l.left ≤ length l.pieces)

abbrev pub decreases-loop-left : goal.decreases-loop-left
decreases-loop-left l = l.left
