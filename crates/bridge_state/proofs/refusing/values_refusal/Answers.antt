use Rattle.std.proofs.Common.{map, ap, ◌∙◌}
use Rattle.uno_values.specs.Values.{plain_of}
use Rattle.bridge_model.specs.Receiving.{refs_refusal}
use Rattle.bridge_setting.specs.Settings.{setting_of}
use Rattle.bridge_state.proofs.ValueRefsLemmas.{refs_flat}
use Rattle.bridge_state.proofs.refusing.values_refusal.Goals as goal

pub returns : goal.returns
returns c = c.each_refusal.ensures ∙ ap (refs_refusal (setting_of c.args.setting.now) c.args.tables.now.tables) (refs_flat (map plain_of c.args.values.now))
