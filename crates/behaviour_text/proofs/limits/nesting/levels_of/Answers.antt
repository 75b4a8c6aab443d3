use Rattle.std.proofs.Common.{IsTrue, subst, sym}
use Rattle.plan_lines.specs.Pieces.{piece_of, pieces_of}
use Rattle.plan_model.specs.Limits.{term_depth, parentheses}
use Rattle.term_pieces.specs.Pieces.{is_term}
use Rattle.behaviour_text.proofs.NestingLemmas.{level_found}
use Rattle.behaviour_text.proofs.limits.nesting.levels_of.Goals as goal

pub go_behind_all-requires-clause-one : goal.go_behind_all-requires-clause-one
go_behind_all-requires-clause-one c = subst (λ ps. IsTrue (is_term (pieces_of ps))) (sym c.as_slice-pieces.ensures.value) c.args.term.now.one

pub returns-clause-depth : goal.returns-clause-depth
returns-clause-depth c =
    level_found piece_of c.args.term.now.pieces.items _ (λ l. l.depth) term_depth _ _ _ c.as_slice-pieces.ensures.value c.in_ok-go_behind_all.ensures.depth c.in-Some.ensures.items

pub returns-clause-parentheses : goal.returns-clause-parentheses
returns-clause-parentheses c =
    level_found piece_of c.args.term.now.pieces.items _ (λ l. l.parentheses) parentheses _ _ _ c.as_slice-pieces.ensures.value c.in_ok-go_behind_all.ensures.parentheses c.in-Some.ensures.items
