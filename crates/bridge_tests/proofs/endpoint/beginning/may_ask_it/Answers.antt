use Rattle.std.proofs.Common.{sym}
use Rattle.bridge_endpoint.specs.Journals.{setting_at}
use Rattle.bridge_tests.proofs.Giving.{root_thread}
use Rattle.bridge_tests.proofs.endpoint.beginning.may_ask_it.Goals as goal

pub returns : goal.returns
returns c = λ there.
    let g = setting_at c.args.end.now in
    (c.may_ask.ensures g c.args.root (sym c.registry.ensures.same) (root_thread g c.args.root c.registry.ensures.tag c.ranges.root.fits)).0 there
