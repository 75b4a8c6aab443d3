use Rattle.std.proofs.Common.{ap, ◌∙◌}
use Rattle.bridge_model.specs.Entries.{made}
use Rattle.bridge_model.specs.Steps.{does}
use Rattle.bridge_setting.specs.Settings.{setting_of}
use Rattle.bridge_state.specs.EndSides.{on_side}
use Rattle.bridge_endpoint.specs.Entering.{counts_one}
use Rattle.bridge_endpoint.proofs.MakingLemmas.{few_by}
use Rattle.bridge_endpoint.proofs.making.make_standing.Goals as goal

pub enter-requires-clause-few : goal.enter-requires-clause-few
unfolding does
enter-requires-clause-few c = few_by (setting_of c.args.setting.now) (made c.args.root c.args.behaviour c.args.wanted.now) c.args.state.now c.root_makes.new.self c.in_ok-oid.ensures.made c.requires.few

pub returns-clause-done : goal.returns-clause-done
unfolding does
returns-clause-done c = c.enter.ensures.counted ∙ ap (on_side counts_one) c.in_ok-oid.ensures.made
