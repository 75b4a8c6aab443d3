use Rattle.std.proofs.Common.{option_map}
use Rattle.urp_message.specs.Messages.{answer_of}
use Rattle.bridge_setting.specs.Settings.{setting_of}
use Rattle.bridge_frames.specs.Answered.{answered_root}
use Rattle.bridge_frames.proofs.AnsweredLemmas as answered
use Rattle.bridge_frames.proofs.HandingLemmas as handing
use Rattle.bridge_frames.proofs.handing.hand_from_peer.Goals as goal

pub returns-clause-stacks : goal.returns-clause-stacks
returns-clause-stacks c = λ f fs is.
    handing.from_peer_stacks (setting_of c.args.setting.now) c.args.tid.now (answer_of c.args.answer) c.args.stacks.now c.args.tables.now c.take_answer.new.tables
    c.in_default.ensures.taken c.hand.result c.hand.new.stacks f fs is (c.hand.ensures.stacks f fs is)

pub returns-clause-tables : goal.returns-clause-tables
returns-clause-tables c =
    handing.from_peer_tables (setting_of c.args.setting.now) c.args.tid.now (answer_of c.args.answer) c.args.stacks.now c.args.tables.now c.take_answer.new.tables
    c.in_default.ensures.taken c.hand.result c.hand.new.tables c.hand.ensures.tables

pub returns-clause-answered : goal.returns-clause-answered
returns-clause-answered c =
    answered.from_peer_told (setting_of c.args.setting.now) c.args.tid.now (answer_of c.args.answer) c.args.stacks.now c.args.tables.now (option_map answered_root) c.hand.result c.take_answer.new.tables
    c.in_default.ensures.taken c.hand.ensures.answered

pub returns-clause-back : goal.returns-clause-back
returns-clause-back c = λ gets.
    answered.peer_taken_back (setting_of c.args.setting.now) c.args.tid.now (answer_of c.args.answer) c.args.stacks.now c.args.tables.now (option_map answered_root) c.hand.result c.hand.new.tables
    (returns-clause-answered c) (returns-clause-tables c) gets

pub returns-clause-lost : goal.returns-clause-lost
returns-clause-lost c =
    handing.from_peer_lost (setting_of c.args.setting.now) c.args.tid.now (answer_of c.args.answer) c.args.stacks.now c.args.tables.now c.take_answer.new.tables
    c.in_default.ensures.taken c.hand.result c.hand.new.tables c.hand.ensures.below c.hand.ensures.lost
