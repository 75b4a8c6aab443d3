use Rattle.std.proofs.Common.{ap, map}
use Rattle.uno_values.specs.References.{ref_of}
use Rattle.uno_values.specs.Values.{plain_of}
use Rattle.bridge_setting.specs.Settings.{setting_of}
use Rattle.bridge_frames.proofs.EffectLemmas.{null_called}
use Rattle.bridge_frames.proofs.applying.apply_call.Goals as goal

pub returns-in-Null-clause-stacks : goal.returns-in-Null-clause-stacks
returns-in-Null-clause-stacks c = λ f fs all.
    null_called (setting_of c.args.setting.now) c.args.tid.now c.args.stacks.now f fs c.args.tables.now.tables (ref_of c.args.target) all (ap ref_of c.in-Null.is) c.args.function (map plain_of c.args.args.items)
