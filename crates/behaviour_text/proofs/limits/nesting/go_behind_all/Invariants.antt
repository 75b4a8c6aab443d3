use Rattle.behaviour_text.specs.Nesting.{counted, depths_of, parentheses_of}
use Rattle.plan_lines.specs.Pieces.{pieces_of}
use Rattle.plan_model.specs.Limits.{term_depth, parentheses}
use Rattle.std.specs.Prelude.{[], map, take, ◌≡◌}
use Rattle.term_pieces.specs.Pieces.{put_all}
use Rattle.behaviour_text.proofs.limits.nesting.go_behind_all.Given as goal

abbrev pub invariant-loop-piece : goal.invariant-loop-piece
invariant-loop-piece l = record {
  depths : depths_of l.levels.items ≡ map counted (map term_depth (put_all [] (pieces_of (take l.piece-index l.pieces))));
  counts : parentheses_of l.levels.items ≡ map counted (map parentheses (put_all [] (pieces_of (take l.piece-index l.pieces))));
}
