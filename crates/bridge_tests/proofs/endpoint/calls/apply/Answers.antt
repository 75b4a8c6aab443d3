use Rattle.bridge_core.proofs.OtherLemmas.{applied_stays}
use Rattle.bridge_tests.proofs.endpoint.calls.apply.Goals as goal

pub returns : goal.returns
returns g c = λ r run. applied_stays c.apply.result c.args.end.now c.apply.new.self _ c.apply.ensures.entered r run
