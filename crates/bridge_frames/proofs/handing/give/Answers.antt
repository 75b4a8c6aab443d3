use Rattle.urp_message.specs.Messages.{answer_of}
use Rattle.bridge_model.specs.Handing.{gains_below}
use Rattle.bridge_setting.specs.Settings.{setting_of}
use Rattle.bridge_frames.proofs.HandingLemmas as handing
use Rattle.bridge_frames.proofs.handing.give.Goals as goal

pub returns-clause-stacks : goal.returns-clause-stacks
returns-clause-stacks c = λ f fs is.
    handing.behind_stacks (setting_of c.args.setting.now) c.args.tid.now (answer_of c.args.answer) c.args.stacks.now c.args.tables.now c.gain_answer.new.tables (λ xs. gains_below xs (answer_of c.args.answer))
    c.in_default.ensures.gained c.hand_untold.result c.hand_untold.new.stacks f fs is (c.hand_untold.ensures.stacks f fs is)

pub returns-clause-tables : goal.returns-clause-tables
returns-clause-tables c =
    handing.behind_tables (setting_of c.args.setting.now) c.args.tid.now (answer_of c.args.answer) c.args.stacks.now c.args.tables.now c.gain_answer.new.tables (λ xs. gains_below xs (answer_of c.args.answer))
    c.in_default.ensures.gained c.hand_untold.result c.hand_untold.new.tables c.hand_untold.ensures.tables

pub returns-clause-lost : goal.returns-clause-lost
returns-clause-lost c =
    handing.given_lost c.args.tid.now (answer_of c.args.answer) c.args.stacks.now c.args.tables.now c.gain_answer.new.tables c.hand_untold.new.tables c.hand_untold.result c.in_default.ensures.gained
    c.hand_untold.ensures.below c.hand_untold.ensures.lost
