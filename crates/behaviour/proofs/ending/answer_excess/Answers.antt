use Rattle.std.proofs.Common.{map}
use Rattle.message_model.specs.Messages.{returned}
use Rattle.uno_values.specs.Values.{plain_of}
use Rattle.behaviour.proofs.EndingLemmas.{sum_counted}
use Rattle.behaviour.proofs.LimitLemmas.{answer_too_large, answer_too_deep, answer_within, reply_counted}
use Rattle.behaviour.proofs.ending.answer_excess.Goals as goal

pub returns-then-is_heavy : goal.returns-then-is_heavy
returns-then-is_heavy c face number =
    let a = returned (plain_of c.args.value.now) (map plain_of c.args.outs.now) in
    answer_too_large c.args.tid.now face number a c.reply_weight.result _
    (reply_counted _ face number a _ c.saturating_add-heavy.result (sum_counted _ _ _ _ _ c.weight.ensures c.weights.ensures c.saturating_add-heavy.ensures) c.reply_weight.ensures) c.is_heavy.ensures c.if-is_heavy.true

pub returns-then-has_deep_answer : goal.returns-then-has_deep_answer
returns-then-has_deep_answer c face number =
    let a = returned (plain_of c.args.value.now) (map plain_of c.args.outs.now) in
    answer_too_deep c.args.tid.now face number a c.reply_weight.result _ _
    (reply_counted _ face number a _ c.saturating_add-heavy.result (sum_counted _ _ _ _ _ c.weight.ensures c.weights.ensures c.saturating_add-heavy.ensures) c.reply_weight.ensures) c.is_heavy.ensures c.if-is_heavy.false
    c.has_deep_answer.ensures c.if-has_deep_answer.true

pub returns : goal.returns
returns c face number =
    let a = returned (plain_of c.args.value.now) (map plain_of c.args.outs.now) in
    answer_within c.args.tid.now face number a c.reply_weight.result _ _
    (reply_counted _ face number a _ c.saturating_add-heavy.result (sum_counted _ _ _ _ _ c.weight.ensures c.weights.ensures c.saturating_add-heavy.ensures) c.reply_weight.ensures) c.is_heavy.ensures c.if-is_heavy.false
    c.has_deep_answer.ensures c.if-has_deep_answer.false
