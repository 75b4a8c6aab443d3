use Rattle.std.proofs.Common.{Some, take, sym, ap, subst, ◌∙◌, IsTrue, arith}
use Rattle.std.specs.List.{list_all}
use Rattle.idl_lex.specs.Runs.{is_ascii}
use Rattle.idl_lex.proofs.MarkLemmas.{mark_is_ascii, some_mark}
use Rattle.idl_lex.proofs.piece.mark.Goals as goal

pub mark-requires : goal.mark-requires
mark-requires c =
    subst (λ x. IsTrue (list_all is_ascii x)) (sym c.split_at.ensures.front)
    (mark_is_ascii (take c.mark_length-length.result c.args.text.now) (c.mark_length-length.ensures.formed (omega arith)))

pub returns : goal.returns
returns c =
    ap (λ w. Some (Some w, c.split_at.result.1.now)) c.in_ok-word.ensures
    ∙ some_mark c.args.text.now c.split_at.result.0.now c.split_at.result.1.now c.mark_length-length.result c.if-length-eq0.false c.mark_length-length.ensures
    c.split_at.ensures.front c.split_at.ensures.back
