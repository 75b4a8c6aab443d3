use Rattle.std.proofs.Common.{◌∙◌, sym, ap}
use Rattle.std.specs.List.{list_all}
use Rattle.plan_lines.specs.Classes.{is_ascii}
use Rattle.plan_lines.proofs.RunLemmas.{one_word, two_words_run, words_fit, words_in_front, words_are_ascii}
use Rattle.plan_lines.proofs.types.type_run.Goals as goal

pub returns-in_default : goal.returns-in_default
returns-in_default c =
    ap (λ t. (t, c.split.result.1.now)) c.as_text-in_default.ensures
    ∙ one_word c.args.bytes.now c.split.result.0.now c.split.result.1.now c.second_at.result c.split.ensures.front c.split.ensures.rest (sym c.is_unsigned.ensures ∙ c.if-not-is_unsigned.false) c.second_at.ensures c.in_default.is

pub split_at-requires : goal.split_at-requires
split_at-requires c = words_fit c.args.bytes.now c.split.result.0.now c.split.result.1.now c.in-Some.second.now c.in-Some.behind.now c.split.ensures.front c.split.ensures.rest c.in-Some.ensures

pub as_text-requires-2 : goal.as_text-requires-2
as_text-requires-2 c =
    let words = c.split_at.ensures.front ∙ words_in_front c.args.bytes.now c.split.result.0.now c.split.result.1.now c.in-Some.second.now c.in-Some.behind.now c.split.ensures.front c.split.ensures.rest c.in-Some.ensures in
    ap (list_all is_ascii) words ∙ words_are_ascii c.split.result.1.now c.split.result.0.now c.in-Some.second.now c.in-Some.behind.now c.split.ensures.ascii c.in-Some.ensures

pub returns : goal.returns
returns c =
    let words = c.split_at.ensures.front ∙ words_in_front c.args.bytes.now c.split.result.0.now c.split.result.1.now c.in-Some.second.now c.in-Some.behind.now c.split.ensures.front c.split.ensures.rest c.in-Some.ensures in
    ap (λ t. (t, c.in-Some.behind.now)) (c.as_text-2.ensures ∙ words)
    ∙ two_words_run c.args.bytes.now c.split.result.0.now c.split.result.1.now c.in-Some.second.now c.in-Some.behind.now c.split.ensures.front c.split.ensures.rest (sym c.is_unsigned.ensures ∙ c.if-not-is_unsigned.false) c.in-Some.ensures
