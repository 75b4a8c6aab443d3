use Rattle.std.proofs.Common.{ap, sym, ◌∙◌}
use Rattle.std.proofs.lemmas.List.{nil_from_length}
use Rattle.plan_lines.specs.Pieces.{piece_of, pieces_of}
use Rattle.plan_checks.proofs.PieceTests.{variable_ends, variable_lacks}
use Rattle.plan_checks.proofs.arguments.variable_in.Goals as goal

pub returns-in-Some : goal.returns-in-Some
returns-in-Some c =
    c.variable_at.ensures ∙ variable_ends piece_of _ _ _ c.args.term.now.one (sym c.as_slice-pieces.ensures.value ∙ c.in-Some.ensures.cases.0)

pub returns-in-None : goal.returns-in-None
returns-in-None c = variable_lacks (pieces_of c.args.term.now.pieces.items) (ap pieces_of (sym c.as_slice-pieces.ensures.value ∙ nil_from_length _ c.in-None.ensures.cases))
