use Rattle.std.proofs.Common.{map, ◌∙◌}
use Rattle.uno_values.specs.Values.{plain_of}
use Rattle.bridge_setting.specs.Settings.{setting_of}
use Rattle.bridge_state.proofs.ValueRefsLemmas.{may_given}
use Rattle.bridge_state.proofs.state.State.may_give.Goals as goal

pub returns : goal.returns
returns c = c.gives_each.ensures ∙ may_given (setting_of c.args.setting.now) c.args.root (map plain_of c.args.values.now) c.args.self.now.side
