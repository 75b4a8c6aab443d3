use Rattle.behaviour.proofs.LeavingLemmas.{any_counted, any_deep}
use Rattle.behaviour.proofs.LimitLemmas.{answer_too_large, answer_too_deep, answer_within, reply_counted}
use Rattle.behaviour.specs.Answers.{raised_of}
use Rattle.behaviour.proofs.leaving.exception_excess.Goals as goal

pub returns-then-is_heavy : goal.returns-then-is_heavy
returns-then-is_heavy c face number =
    answer_too_large c.args.tid.now face number (raised_of c.args.exception.now) c.reply_weight.result _
    (reply_counted _ face number (raised_of c.args.exception.now) _ c.any_weight.result (any_counted _ _ _ c.any_weight.ensures) c.reply_weight.ensures) c.is_heavy.ensures c.if-is_heavy.true

pub returns-then-is_deep : goal.returns-then-is_deep
returns-then-is_deep c face number =
    answer_too_deep c.args.tid.now face number (raised_of c.args.exception.now) c.reply_weight.result _ _
    (reply_counted _ face number (raised_of c.args.exception.now) _ c.any_weight.result (any_counted _ _ _ c.any_weight.ensures) c.reply_weight.ensures) c.is_heavy.ensures c.if-is_heavy.false
    (any_deep _ _ c.depth_of.result _ _ c.depth_of.ensures c.saturating_add.ensures c.is_deep.ensures) c.if-is_deep.true

pub returns : goal.returns
returns c face number =
    answer_within c.args.tid.now face number (raised_of c.args.exception.now) c.reply_weight.result _ _
    (reply_counted _ face number (raised_of c.args.exception.now) _ c.any_weight.result (any_counted _ _ _ c.any_weight.ensures) c.reply_weight.ensures) c.is_heavy.ensures c.if-is_heavy.false
    (any_deep _ _ c.depth_of.result _ _ c.depth_of.ensures c.saturating_add.ensures c.is_deep.ensures) c.if-is_deep.false
