use Rattle.std.proofs.Common.{map}
use Rattle.uno_model.specs.Values.{own}
use Rattle.uno_values.specs.Values.{plain_of}
use Rattle.plan_types.specs.Frames.{variables_of}
use Rattle.bridge_model.specs.Settings.{own_oid}
use Rattle.bridge_setting.specs.Settings.{setting_of}
use Rattle.bridge_frames.proofs.CallLemmas.{called_itself, first_pushed, lasting_gained}
use Rattle.bridge_frames.proofs.calls.begin.Goals as goal

pub hold_own-requires-clause-named : goal.hold_own-requires-clause-named
hold_own-requires-clause-named c =
    called_itself (setting_of c.args.setting.now) c.args.call.oid c.args.tables.now.tables.objects c.number_of-object.result
    (c.number_of-object.ensures (setting_of c.args.setting.now) c.requires.of)

pub returns-in_default-variables_of-clause-lost : goal.returns-in_default-variables_of-clause-lost
returns-in_default-variables_of-clause-lost c =
    lasting_gained c.in-Ok.number (own (own_oid (setting_of c.args.setting.now) c.number_of-object.result) c.args.call.face) c.args.tables.now c.hold_own.new.tables c.in_default-hold_own.ensures.held

pub returns-in-Err-push-clause-lost : goal.returns-in-Err-push-clause-lost
returns-in-Err-push-clause-lost c =
    lasting_gained c.in-Ok.number (own (own_oid (setting_of c.args.setting.now) c.number_of-object.result) c.args.call.face) c.args.tables.now c.hold_own.new.tables c.in_default-hold_own.ensures.held

pub returns-clause-stacks : goal.returns-clause-stacks
returns-clause-stacks c =
    first_pushed (setting_of c.args.setting.now) c.args.from_peer c.args.call.oid c.args.call.face c.args.call.function (map plain_of c.args.args.items) c.args.tables.now.tables c.args.call.tid.now
    c.in-Ok.number c.number_of-object.result (variables_of c.in-Ok-variables_of.variables.items) c.args.stacks.now c.push.new.self c.in-Ok.ensures.is
    (c.number_of-object.ensures (setting_of c.args.setting.now) c.requires.of) c.in-Ok-variables_of.ensures c.in_default-push.ensures.pushed
