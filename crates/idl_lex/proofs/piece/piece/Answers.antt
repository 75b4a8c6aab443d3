use Rattle.std.proofs.Common.{◌≡◌, None, Some, option_map, IfOk, sym, ap, subst, ◌∙◌}
use Rattle.idl_lex.specs.Lexing.{found_of}
use Rattle.idl_lex.proofs.PieceLemmas.{none_word, blank_word, feed_word, name_word, numeral_word, begins_other, line_word, block_word, other_word}
use Rattle.idl_lex.proofs.piece.piece.Goals as goal

pub returns-in_default : goal.returns-in_default
returns-in_default c = none_word c.args.text.now c.in_default.ensures.cases

pub returns-then-goes_on : goal.returns-then-goes_on
returns-then-goes_on c =
    ap Some c.without_word.ensures ∙ sym (blank_word c.args.text.now c.in-Some.first.now _ c.in-Some.ensures.cases.0 (sym c.goes_on.ensures ∙ c.if-goes_on.true))

pub returns-then-first-eq10 : goal.returns-then-first-eq10
returns-then-first-eq10 c = ap (λ b. Some (None, b)) c.behind_line_start.ensures ∙ sym (feed_word c.args.text.now c.in-Some.first.now _ c.in-Some.ensures.cases.0 (sym c.goes_on.ensures ∙ c.if-goes_on.false) c.if-first-eq10.true)

pub returns-then-begins_identifier : goal.returns-then-begins_identifier
returns-then-begins_identifier c =
    subst (λ k. IfOk c.name.result (λ found. option_map found_of found ≡ k))
    (sym (name_word c.args.text.now c.in-Some.first.now _ c.in-Some.ensures.cases.0 (sym c.goes_on.ensures ∙ c.if-goes_on.false) c.if-first-eq10.false
    (sym c.begins_identifier.ensures ∙ c.if-begins_identifier.true))) c.name.ensures

pub returns-then-is_ascii_digit : goal.returns-then-is_ascii_digit
returns-then-is_ascii_digit c =
    c.numeral.ensures
    ∙ sym (numeral_word c.args.text.now c.in-Some.first.now _ c.in-Some.ensures.cases.0 (sym c.goes_on.ensures ∙ c.if-goes_on.false) c.if-first-eq10.false
    (sym c.begins_identifier.ensures ∙ c.if-begins_identifier.false) (sym c.is_ascii_digit.ensures.value ∙ c.if-is_ascii_digit.true))

pub returns-then-begins : goal.returns-then-begins
returns-then-begins c =
    let other = begins_other c.args.text.now c.in-Some.first.now _ c.in-Some.ensures.cases.0 (sym c.goes_on.ensures ∙ c.if-goes_on.false)
    c.if-first-eq10.false (sym c.begins_identifier.ensures ∙ c.if-begins_identifier.false) (sym c.is_ascii_digit.ensures.value ∙ c.if-is_ascii_digit.false) in
    ap Some c.line_comment.ensures ∙ sym (line_word c.args.text.now other (sym c.begins.ensures.is ∙ c.if-begins.true))

pub returns-then-begins-2 : goal.returns-then-begins-2
returns-then-begins-2 c =
    let other = begins_other c.args.text.now c.in-Some.first.now _ c.in-Some.ensures.cases.0 (sym c.goes_on.ensures ∙ c.if-goes_on.false)
    c.if-first-eq10.false (sym c.begins_identifier.ensures ∙ c.if-begins_identifier.false) (sym c.is_ascii_digit.ensures.value ∙ c.if-is_ascii_digit.false) in
    c.block_comment.ensures
    ∙ sym (block_word c.args.text.now other (sym c.begins.ensures.is ∙ c.if-begins.false) (sym c.begins-2.ensures.is ∙ c.if-begins-2.true))

pub returns : goal.returns
returns c =
    let other = begins_other c.args.text.now c.in-Some.first.now _ c.in-Some.ensures.cases.0 (sym c.goes_on.ensures ∙ c.if-goes_on.false)
    c.if-first-eq10.false (sym c.begins_identifier.ensures ∙ c.if-begins_identifier.false) (sym c.is_ascii_digit.ensures.value ∙ c.if-is_ascii_digit.false) in
    subst (λ k. IfOk c.mark.result (λ found. option_map found_of found ≡ k))
    (sym (other_word c.args.text.now other (sym c.begins.ensures.is ∙ c.if-begins.false) (sym c.begins-2.ensures.is ∙ c.if-begins-2.false))) c.mark.ensures
