use Rattle.std.proofs.Common.{arith, map}
use Rattle.message_model.specs.Messages.{request}
use Rattle.uno_values.specs.Values.{plain_of}
use Rattle.plan_model.specs.Frames.{frames_of}
use Rattle.bridge_setting.specs.Settings.{setting_of}
use Rattle.bridge_frames.proofs.CallLemmas.{frames_said, lasting_said, out_counted, out_pushed}
use Rattle.bridge_frames.proofs.calls.call_peer.Goals as goal

pub returns-in-Err-push-clause-lost : goal.returns-in-Err-push-clause-lost
returns-in-Err-push-clause-lost c =
    lasting_said (setting_of c.args.setting.now) (request c.args.call.tid.now c.args.call.oid c.args.call.face c.args.call.function (map plain_of c.args.args.items)) c.args.tables.now c.say_request.new.tables
    c.in_default-say_request.ensures.said

pub count_frame-requires : goal.count_frame-requires
count_frame-requires c =
    let same = frames_said (setting_of c.args.setting.now) (request c.args.call.tid.now c.args.call.oid c.args.call.face c.args.call.function (map plain_of c.args.args.items)) c.args.tables.now c.say_request.new.tables
    c.in_default-say_request.ensures.said in
    let number = c.in-Ok.ensures.is in
    let few = c.in-Ok.ensures.few in omega (arith, same, number, few)

pub returns-clause-stacks : goal.returns-clause-stacks
returns-clause-stacks c =
    out_pushed (setting_of c.args.setting.now) c.args.call.tid.now c.args.call.oid c.args.call.face c.args.call.function (map plain_of c.args.args.items) c.args.tables.now.tables c.in-Ok.number
    c.args.stacks.now c.push.new.self c.in-Ok.ensures.is c.in_default-push.ensures.pushed

pub returns-clause-tables : goal.returns-clause-tables
returns-clause-tables c =
    out_counted (setting_of c.args.setting.now) c.args.call.tid.now c.args.call.oid c.args.call.face c.args.call.function (map plain_of c.args.args.items)
    (frames_of c.args.call.tid.now c.args.stacks.now) c.args.tables.now c.say_request.new.tables c.count_frame.new.self c.in_default-say_request.ensures.said c.count_frame.ensures
