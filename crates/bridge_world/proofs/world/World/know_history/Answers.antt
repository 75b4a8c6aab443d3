use Rattle.std.proofs.Common.{subst}
use Rattle.bridge_world.specs.Doing.{IsKnown}
use Rattle.bridge_world.proofs.HistoryLemmas.{both_known}
use Rattle.bridge_world.proofs.world.World.know_history.Goals as goal

pub returns : goal.returns
returns c =
    let w = c.self.inside in
    subst IsKnown c.self.view_is (both_known w.a w.b w.to_a.items w.to_b.items c.self.invariant c.know.ensures.a c.know.ensures.b)
