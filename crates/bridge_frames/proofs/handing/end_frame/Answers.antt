use Rattle.std.proofs.Common.{◌≡◌, ap, map, subst, sym}
use Rattle.std.specs.Prelude.{OnOk}
use Rattle.message_model.specs.Messages.{returned}
use Rattle.behaviour.specs.Answers.{raised_of}
use Rattle.plan_types.specs.Frames.{body_of}
use Rattle.uno_values.specs.Values.{plain_of}
use Rattle.urp_message.specs.Messages.{answer_of}
use Rattle.bridge_model.specs.Handing.{ends_frame}
use Rattle.bridge_setting.specs.Settings.{setting_of}
use Rattle.bridge_frames.specs.Unwinding.{stacks_by, tables_by}
use Rattle.bridge_frames.proofs.CallLemmas.{at_any}
use Rattle.bridge_frames.proofs.HandingLemmas as handing
use Rattle.bridge_frames.proofs.handing.end_frame.Goals as goal

pub returns-then-body-clause-stacks : goal.returns-then-body-clause-stacks
returns-then-body-clause-stacks c = λ b fs all.
    at_any c.answer_peer-sent.result
    (handing.peer_ends_stacks (setting_of c.args.setting.now) c.args.tid.now (body_of c.pop_method-body.result) (answer_of c.args.answer) c.args.stacks.now c.pop_method-body.new.stacks c.args.tables.now c.pop_method-body.ensures.top c.pop_method-body.ensures.popped
    c.pop_method-body.ensures.below b fs all c.if-body.true)

pub returns-then-body-clause-tables : goal.returns-then-body-clause-tables
returns-then-body-clause-tables c = λ b fs all.
    handing.peer_ends_tables (setting_of c.args.setting.now) c.args.tid.now (body_of c.pop_method-body.result) (answer_of c.args.answer) c.args.stacks.now c.pop_method-body.new.stacks c.args.tables.now c.pop_method-body.ensures.top c.pop_method-body.ensures.popped
    c.pop_method-body.ensures.below b fs all c.answer_peer-sent.result c.answer_peer-sent.new.tables c.if-body.true
    c.answer_peer-sent.ensures.answered

pub returns-in-Returned-clause-stacks : goal.returns-in-Returned-clause-stacks
returns-in-Returned-clause-stacks c = λ b fs all.
    subst (λ a. OnOk c.hand_result-handed.result (c.hand_result-handed.new.stacks ≡ stacks_by c.args.tid.now (ends_frame (setting_of c.args.setting.now) c.args.tid.now b a fs c.args.tables.now.tables) c.args.stacks.now)) (sym (ap answer_of c.in-Returned.is))
    (handing.local_ends_stacks (setting_of c.args.setting.now) c.args.tid.now (body_of c.pop_method-body.result) (returned (plain_of c.in-Returned.value) (map plain_of c.in-Returned.outs.items)) c.args.stacks.now c.pop_method-body.new.stacks c.args.tables.now c.pop_method-body.ensures.top c.pop_method-body.ensures.popped
    c.pop_method-body.ensures.below b fs all c.if-body.false c.hand_result-handed.result c.hand_result-handed.new.stacks c.hand_result-handed.ensures.stacks c.hand_result-handed.ensures.none)

pub returns-in-Returned-clause-tables : goal.returns-in-Returned-clause-tables
returns-in-Returned-clause-tables c = λ b fs all.
    subst (λ a. OnOk c.hand_result-handed.result (c.hand_result-handed.new.tables ≡ tables_by (ends_frame (setting_of c.args.setting.now) c.args.tid.now b a fs c.args.tables.now.tables) c.args.tables.now)) (sym (ap answer_of c.in-Returned.is))
    (handing.local_ends_tables (setting_of c.args.setting.now) c.args.tid.now (body_of c.pop_method-body.result) (returned (plain_of c.in-Returned.value) (map plain_of c.in-Returned.outs.items)) c.args.stacks.now c.pop_method-body.new.stacks c.args.tables.now c.pop_method-body.ensures.top c.pop_method-body.ensures.popped
    c.pop_method-body.ensures.below b fs all c.if-body.false c.hand_result-handed.result c.hand_result-handed.new.tables c.hand_result-handed.ensures.tables)

pub returns-in-Raised-clause-stacks : goal.returns-in-Raised-clause-stacks
returns-in-Raised-clause-stacks c = λ b fs all.
    subst (λ a. OnOk c.hand_exception-handed.result (c.hand_exception-handed.new.stacks ≡ stacks_by c.args.tid.now (ends_frame (setting_of c.args.setting.now) c.args.tid.now b a fs c.args.tables.now.tables) c.args.stacks.now)) (sym (ap answer_of c.in-Raised.is))
    (handing.local_ends_stacks (setting_of c.args.setting.now) c.args.tid.now (body_of c.pop_method-body.result) (raised_of c.in-Raised.exception) c.args.stacks.now c.pop_method-body.new.stacks c.args.tables.now c.pop_method-body.ensures.top c.pop_method-body.ensures.popped
    c.pop_method-body.ensures.below b fs all c.if-body.false c.hand_exception-handed.result c.hand_exception-handed.new.stacks c.hand_exception-handed.ensures.stacks c.hand_exception-handed.ensures.none)

pub returns-in-Raised-clause-tables : goal.returns-in-Raised-clause-tables
returns-in-Raised-clause-tables c = λ b fs all.
    subst (λ a. OnOk c.hand_exception-handed.result (c.hand_exception-handed.new.tables ≡ tables_by (ends_frame (setting_of c.args.setting.now) c.args.tid.now b a fs c.args.tables.now.tables) c.args.tables.now)) (sym (ap answer_of c.in-Raised.is))
    (handing.local_ends_tables (setting_of c.args.setting.now) c.args.tid.now (body_of c.pop_method-body.result) (raised_of c.in-Raised.exception) c.args.stacks.now c.pop_method-body.new.stacks c.args.tables.now c.pop_method-body.ensures.top c.pop_method-body.ensures.popped
    c.pop_method-body.ensures.below b fs all c.if-body.false c.hand_exception-handed.result c.hand_exception-handed.new.tables c.hand_exception-handed.ensures.tables)
