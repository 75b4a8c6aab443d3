use Rattle.plan_lines.specs.Pieces.{piece_of}
use Rattle.uno_entities.specs.TypeNames.{kind_of}
use Rattle.plan_checks.proofs.PartLemmas.{lost_on, part_lost, part_placed, same_asked, turned}
use Rattle.plan_checks.specs.Checks.{before}
use Rattle.plan_checks.specs.Parts.{kinds_asked, laid, part_of}
use Rattle.plan_checks.proofs.checker.Checker.take_piece.Goals as goal

pub returns-in_err-part : goal.returns-in_err-part
returns-in_err-part c =
    lost_on c.from_residual.result c.in_err-part.field-0.0 _ _ c.from_residual.ensures
    (part_lost c.args.self.now.registry.now (before c.args.self.now) (piece_of c.args.piece.now) (kind_of c.args.kind.now) (kinds_asked c.args.wanted.now.items) (laid c.args.parts.now.items) c.in_err-part.field-0.0
    c.in_err-part.ensures)

pub returns : goal.returns
returns c =
    same_asked _ _ _ _ _
    (part_placed c.args.self.now.registry.now (before c.args.self.now) (piece_of c.args.piece.now) (kind_of c.args.kind.now) (kinds_asked c.args.wanted.now.items) (laid c.args.parts.now.items) _ c.in_ok-part.ensures)
    (turned part_of _ _ _ c.in_ok-push.ensures.items) c.in_ok-want.ensures
