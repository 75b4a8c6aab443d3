use Rattle.std.proofs.Common.{rules, sym, ◌∙◌}
use Rattle.bridge_setting.specs.Settings.{setting_of}
use Rattle.bridge_state.proofs.ReapingLemmas.{still_stands, reaped_side}
use Rattle.bridge_state.proofs.state.State.reap.Goals as goal

pub invariant_of-self : goal.invariant_of-self
invariant_of-self c =
    still_stands (setting_of c.args.setting.now) c.self.inside.tables c.reap.new.self c.in_ok-object.object (sym (c.lowest.ensures (setting_of c.args.setting.now) (search rules)) ∙ c.in_ok-object.was) c.reap.ensures
    ∙ c.self.invariant

pub returns-clause-reaped : goal.returns-clause-reaped
returns-clause-reaped c =
    reaped_side (setting_of c.args.setting.now) c.self.inside.tables c.reap.new.self c.in_ok-object.object (sym (c.lowest.ensures (setting_of c.args.setting.now) (search rules)) ∙ c.in_ok-object.was) c.reap.ensures
    c.self.inside.stacks c.self.inside.incoming c.self.inside.outgoing c.self.inside.entries c.self.inside.cause c.args.self.now c.self.view_is c.self.invariant
