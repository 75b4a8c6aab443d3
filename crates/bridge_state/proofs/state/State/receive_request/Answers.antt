use Rattle.std.proofs.Common.{map}
use Rattle.bridge_model.specs.Receiving.{answers_at_once}
use Rattle.bridge_setting.specs.Settings.{setting_of}
use Rattle.plan_model.specs.Frames.{frames_of}
use Rattle.uno_values.specs.Values.{plain_of}
use Rattle.bridge_state.proofs.ReceivingLemmas.{answered_rests, served_rests}
use Rattle.bridge_state.proofs.RestingLemmas.{quiet_rests, done_rests}
use Rattle.bridge_state.proofs.state.State.receive_request.Goals as goal

pub returns-then-call-eq0-clause-rests : goal.returns-then-call-eq0-clause-rests
returns-then-call-eq0-clause-rests c =
    quiet_rests c.answer_at_once-said.result c.self.inside.tables c.answer_at_once-said.new.tables c.self.inside.stacks c.self.inside.stacks c.self.inside.incoming c.self.inside.outgoing c.self.inside.entries c.self.inside.cause
    c.args.self.now c.self.view_is (answers_at_once (setting_of c.args.setting.now) c.args.call.tid.now c.args.call.oid c.args.call.face (map plain_of c.deref.result.now) c.self.inside.tables.tables)
    (answered_rests (setting_of c.args.setting.now) c.args.call.tid.now c.args.call.oid c.args.call.face (map plain_of c.deref.result.now) c.self.inside.tables.tables) c.answer_at_once-said.ensures.said
    c.answer_at_once-said.ensures.kept

pub returns-clause-rests : goal.returns-clause-rests
returns-clause-rests c =
    done_rests c.begin_there.result c.self.inside.tables c.begin_there.new.tables c.self.inside.stacks c.begin_there.new.stacks c.self.inside.incoming c.self.inside.outgoing c.self.inside.entries c.self.inside.cause c.args.self.now
    c.self.view_is _
    (served_rests (setting_of c.args.setting.now) c.args.call.oid c.args.call.face c.args.call.function (map plain_of c.home_each-args.result.items) (frames_of c.args.call.tid.now c.self.inside.stacks) c.self.inside.tables.tables)
    c.begin_there.ensures.tables c.begin_there.ensures.lost
