use Rattle.behaviour.specs.Answers.{raised_of}
use Rattle.plan_types.specs.Frames.{body_of}
use Rattle.bridge_setting.specs.Settings.{setting_of}
use Rattle.bridge_frames.proofs.HandingLemmas as handing
use Rattle.bridge_frames.proofs.handing.raise_through.Goals as goal

pub returns-clause-goes : goal.returns-clause-goes
returns-clause-goes c = λ b fs all.
    handing.goes_so (setting_of c.args.setting.now) c.args.tid.now c.args.stacks.now c.pop_method-body.new.stacks (body_of c.pop_method-body.result) b fs (raised_of c.args.exception) c.args.tables.now
    c.raise_from-left.new.tables c.raise_from-left.result all c.pop_method-body.ensures.top c.pop_method-body.ensures.below c.raise_from-left.ensures.goes
