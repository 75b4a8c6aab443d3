use Rattle.std.proofs.Common.{◌∙◌, sym, ap, length}
use Rattle.world_laws.proofs.MergeLaws.{how_many}
use Rattle.bridge_world.specs.Joined.{Joined, joined}
use Rattle.bridge_world.proofs.doing.WorldPair.entries.Goals as goal

pub returns-clause-count : goal.returns-clause-count
returns-clause-count c =
    let w = c.self.inside in
    c.count.ensures ∙ (sym (how_many (joined w.a w.b).events w.a.entries w.b.entries w.a.stamps w.b.stamps c.self.invariant.merged) ∙ ap (λ (j : Joined). length j.events) c.self.view_is)
