use Rattle.behaviour_text.specs.RootPieces.{is_root_piece}
use Rattle.plan_lines.specs.Pieces.{pieces_of}
use Rattle.std.specs.List.{list_all}
use Rattle.std.specs.Prelude.{drop, ◌≡◌}
use Rattle.behaviour_text.proofs.places.roots.are_root_pieces.Given as goal

abbrev pub invariant-loop-piece : goal.invariant-loop-piece
invariant-loop-piece l = list_all is_root_piece (pieces_of (drop l.piece-index l.pieces)) ≡ list_all is_root_piece (pieces_of l.pieces)
