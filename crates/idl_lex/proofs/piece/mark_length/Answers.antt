use Rattle.std.proofs.Common.{sym, ◌∙◌}
use Rattle.idl_lex.proofs.MarkLemmas.{at_colon, dots_found, end_found, single_found, no_longest}
use Rattle.idl_lex.proofs.piece.mark_length.Goals as goal

pub returns-in_default : goal.returns-in_default
returns-in_default c = end_found c.args.text.now c.in_default.ensures.cases

pub colons-requires : goal.colons-requires
colons-requires c = at_colon c.args.text.now c.in-Some.first.now _ c.in-Some.ensures.cases.0 c.if-first-eq58.true

pub returns-then-is_single_mark : goal.returns-then-is_single_mark
returns-then-is_single_mark c =
    single_found c.args.text.now c.in-Some.first.now _ c.in-Some.ensures.cases.0 c.if-first-eq58.false (sym c.is_single_mark.ensures ∙ c.if-is_single_mark.true)

pub returns-then-begins : goal.returns-then-begins
returns-then-begins c = dots_found c.args.text.now (sym c.begins.ensures.is ∙ c.if-begins.true)

pub returns : goal.returns
returns c =
    no_longest c.args.text.now c.in-Some.first.now _ c.in-Some.ensures.cases.0 c.if-first-eq58.false (sym c.is_single_mark.ensures ∙ c.if-is_single_mark.false)
    (sym c.begins.ensures.is ∙ c.if-begins.false)
