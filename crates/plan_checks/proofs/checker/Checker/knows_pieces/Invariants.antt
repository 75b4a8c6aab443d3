use Rattle.plan_checks.specs.Checks.{before}
use Rattle.plan_checks.specs.Pieces.{is_piece_known}
use Rattle.plan_lines.specs.Pieces.{pieces_of}
use Rattle.std.specs.List.{list_all}
use Rattle.std.specs.Prelude.{drop, ◌≡◌}
use Rattle.plan_checks.proofs.checker.Checker.knows_pieces.Given as goal

abbrev pub invariant-loop-piece : goal.invariant-loop-piece
invariant-loop-piece l =
    list_all (is_piece_known l.self.registry.now (before l.self)) (pieces_of (drop l.piece-index l.pieces)) ≡ list_all (is_piece_known l.self.registry.now (before l.self)) (pieces_of l.pieces)
