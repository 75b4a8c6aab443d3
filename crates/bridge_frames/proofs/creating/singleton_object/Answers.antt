use Rattle.std.proofs.Common.{arith}
use Rattle.bridge_frames.proofs.CreatingLemmas.{singleton_numbered}
use Rattle.bridge_frames.proofs.creating.singleton_object.Goals as goal

pub returns-in-Ok : goal.returns-in-Ok
returns-in-Ok c =
    singleton_numbered c.args.setting.now.plan c.args.place c.len.result c.in-Ok.number (let long = c.args.setting.now.plan.exports.ok.0 in omega (arith, c.len.ensures, long)) c.in-Ok.ensures.1
