use Rattle.std.proofs.Common.{ap, ◌∙◌}
use Rattle.std.specs.List.{list_all}
use Rattle.plan_lines.specs.Pieces.{pieces_of}
use Rattle.behaviour_text.specs.RootPieces.{is_root_piece}
use Rattle.plan_checks.proofs.PieceTests.{term_passes}
use Rattle.behaviour_text.proofs.RootTests.{root_tests}
use Rattle.behaviour_text.proofs.places.roots.is_root_term.Goals as goal

pub returns : goal.returns
returns c =
    c.are_root_pieces.ensures ∙ ap (λ ps. list_all is_root_piece (pieces_of ps)) c.as_slice.ensures.value
    ∙ term_passes root_tests (pieces_of c.args.term.now.pieces.items) c.args.term.now.one
