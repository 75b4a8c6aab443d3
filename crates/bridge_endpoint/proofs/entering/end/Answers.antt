use Rattle.std.proofs.Common.{◌≡◌, ap, arith}
use Rattle.bridge_model.specs.Ends.{ends_by}
use Rattle.bridge_endpoint.proofs.entering.end.Goals as goal

pub enter-requires-clause-few : goal.enter-requires-clause-few
unfolding ends_by
enter-requires-clause-few c = let same : c.end.new.self.side.entries ≡ c.args.state.now.side.entries = ap (λ e. e.side.entries) c.end.ensures in let few = c.requires.few in omega (arith, same, few)
