use Rattle.std.proofs.Common.{[]}
use Rattle.behaviour.specs.Answers.{raised_of}
use Rattle.plan_types.specs.Frames.{body_of}
use Rattle.bridge_model.specs.Handing.{hands_over}
use Rattle.bridge_setting.specs.Settings.{setting_of}
use Rattle.bridge_frames.proofs.HandingLemmas as handing
use Rattle.bridge_frames.proofs.handing.hand_exception.Goals as goal

pub returns-clause-stacks : goal.returns-clause-stacks
returns-clause-stacks c = λ f fs is.
    handing.behind_stacks (setting_of c.args.setting.now) c.args.tid.now (raised_of c.args.exception) c.args.stacks.now c.args.tables.now c.hand_over.new.tables
    (λ xs. hands_over (setting_of c.args.setting.now) (body_of c.args.body.now) [] (raised_of c.args.exception) xs) c.in_default.ensures.handed c.hand_untold.result c.hand_untold.new.stacks f fs is
    (c.hand_untold.ensures.stacks f fs is)

pub returns-clause-tables : goal.returns-clause-tables
returns-clause-tables c =
    handing.behind_tables (setting_of c.args.setting.now) c.args.tid.now (raised_of c.args.exception) c.args.stacks.now c.args.tables.now c.hand_over.new.tables
    (λ xs. hands_over (setting_of c.args.setting.now) (body_of c.args.body.now) [] (raised_of c.args.exception) xs) c.in_default.ensures.handed c.hand_untold.result c.hand_untold.new.tables
    c.hand_untold.ensures.tables

pub returns-clause-lost : goal.returns-clause-lost
returns-clause-lost c =
    handing.over_lost (setting_of c.args.setting.now) c.args.tid.now (body_of c.args.body.now) (raised_of c.args.exception) c.args.stacks.now c.args.tables.now c.hand_over.new.tables c.in_default.ensures.handed
    c.hand_untold.result c.hand_untold.new.tables c.hand_untold.ensures.below c.hand_untold.ensures.lost
