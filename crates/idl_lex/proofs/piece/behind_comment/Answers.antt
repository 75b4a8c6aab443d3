use Rattle.std.proofs.Common.{sym, ap, ◌∙◌}
use Rattle.idl_lex.proofs.PieceLemmas.{end_of, end_here, end_later, end_past}
use Rattle.idl_lex.proofs.piece.behind_comment.Goals as goal

pub returns-then-begins : goal.returns-then-begins
returns-then-begins c =
    end_here c.loop-rest.rest.now c.args.text.now c.split_at.result.1.now (sym c.begins.ensures.is ∙ c.if-begins.true) c.split_at.ensures.back c.loop-rest.invariant

pub loop-rest-preserved : goal.loop-rest-preserved
loop-rest-preserved c =
    ap end_of c.split_at-in-loop-rest.ensures.back ∙ (end_later c.loop-rest.rest.now (sym c.begins.ensures.is ∙ c.if-begins.false) ∙ c.loop-rest.invariant)

pub returns : goal.returns
returns c = end_past c.loop-rest.rest.now c.args.text.now (sym c.is_empty.ensures ∙ c.loop-rest-test.false) c.loop-rest.invariant
