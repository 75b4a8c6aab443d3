use Rattle.std.proofs.Common.{map}
use Rattle.bridge_model.specs.Calls.{calls_own}
use Rattle.bridge_setting.specs.Settings.{setting_of}
use Rattle.uno_values.specs.Values.{plain_of}
use Rattle.bridge_state.proofs.StateLemmas.{begun_above}
use Rattle.bridge_state.proofs.state.State.own_above.Goals as goal

pub returns-clause-begun : goal.returns-clause-begun
returns-clause-begun c =
    begun_above c.args.call.tid.now c.args.root (λ fs t. calls_own (setting_of c.args.setting.now) c.args.call.oid c.args.call.face c.args.call.function (map plain_of c.args.args.items) fs t) c.self.inside.tables c.self.inside.stacks
    c.push.new.self c.self.inside.incoming c.self.inside.outgoing c.self.inside.entries c.self.inside.cause c.args.self.now c.self.view_is c.requires.none c.in_default.ensures.pushed c.begin_here.result
    c.begin_here.new.tables c.begin_here.new.stacks c.begin_here.ensures.stacks c.begin_here.ensures.tables
