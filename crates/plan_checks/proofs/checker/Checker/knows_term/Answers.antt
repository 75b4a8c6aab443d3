use Rattle.std.proofs.Common.{ap, subst, ◌∙◌}
use Rattle.std.specs.List.{list_all}
use Rattle.plan_lines.specs.Pieces.{pieces_of}
use Rattle.plan_model.specs.declared.line_reason.LineReason.TheVariants.{Unknown}
use Rattle.plan_checks.proofs.PieceTests.{known_tests, term_passes}
use Rattle.plan_checks.specs.Checks.{Passes, before}
use Rattle.plan_checks.specs.Pieces.{is_piece_known}
use Rattle.plan_checks.proofs.checker.Checker.knows_term.Goals as goal

pub returns : goal.returns
returns c =
    subst (Passes Unknown c.knows_pieces.result)
    (ap (λ ps. list_all (is_piece_known c.args.self.now.registry.now (before c.args.self.now)) (pieces_of ps)) c.as_slice.ensures.value
    ∙ term_passes (known_tests c.args.self.now.registry.now (before c.args.self.now)) (pieces_of c.args.term.now.pieces.items) c.args.term.now.one)
    c.knows_pieces.ensures
