use Rattle.bridge_setting.specs.Settings.{setting_of}
use Rattle.urp_message.specs.Messages.{message_of}
use Rattle.bridge_state.proofs.HearingLemmas.{break_so, message_so, stands_so}
use Rattle.bridge_state.proofs.state.State.hear_one.Goals as goal

pub returns-in-Some-clause-heard : goal.returns-in-Some-clause-heard
returns-in-Some-clause-heard c =
    let s = c.self.inside in
    break_so (setting_of c.args.setting.now) c.args.body.now s.tables s.stacks s.incoming c.read.new.self s.outgoing s.entries s.cause c.args.self.now c.self.view_is (message_of c.in-Ok.read.0) c.in-Ok.read.1
    c.in-Ok.ensures.gives c.in-Ok.ensures.stays c.refusal.result c.refusal.ensures c.args.trace.now.references c.in-Some.why c.in-Some.is

pub returns-clause-heard : goal.returns-clause-heard
returns-clause-heard c =
    let s = c.self.inside in
    message_so (setting_of c.args.setting.now) c.args.body.now s.tables s.stacks s.incoming c.read.new.self s.outgoing s.entries s.cause c.args.self.now c.self.view_is (message_of c.in-Ok.read.0) c.in-Ok.read.1
    c.in-Ok.ensures.gives c.in-Ok.ensures.stays c.refusal.result c.refusal.ensures c.receive.new.self c.in_default-receive.ensures.received c.args.trace.now.references c.receive.new.trace.references c.in_default.is
    c.in_default-receive.ensures.counted

pub returns-clause-stands : goal.returns-clause-stands
returns-clause-stands c =
    let s = c.self.inside in
    stands_so (setting_of c.args.setting.now) c.args.body.now s.tables s.stacks s.incoming c.read.new.self s.outgoing s.entries s.cause c.args.self.now c.self.view_is (message_of c.in-Ok.read.0) c.in-Ok.read.1
    c.in-Ok.ensures.gives c.in-Ok.ensures.stays c.refusal.result c.refusal.ensures c.receive.new.self c.in_default-receive.ensures.received c.requires.stands
