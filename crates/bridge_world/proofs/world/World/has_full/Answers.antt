use Rattle.std.proofs.Common.{◌≡◌, true, sym, ◌∙◌, subst}
use Rattle.world_model.specs.Pairs.{has_full}
use Rattle.bridge_world.specs.Joined.{Joined, world_of}
use Rattle.bridge_world.proofs.Known.{full_first, full_second}
use Rattle.bridge_world.proofs.PipingCalls.{both_known}
use Rattle.bridge_world.proofs.world.World.has_full.Goals as goal

pub returns-then-is_full : goal.returns-then-is_full
returns-then-is_full c =
    let w = c.self.inside in
    let ends = both_known w.a w.b w.to_a.items w.to_b.items c.self.invariant c.know.ensures.a c.know.ensures.b in
    subst (λ (j : Joined). true ≡ has_full (world_of j)) c.self.view_is
    (full_first w.a w.b w.to_a.items w.to_b.items ends c.end.result c.end.ensures (sym c.is_full.ensures ∙ c.if-is_full.true))

pub returns : goal.returns
returns c =
    let w = c.self.inside in
    let ends = both_known w.a w.b w.to_a.items w.to_b.items c.self.invariant c.know.ensures.a c.know.ensures.b in
    subst (λ (j : Joined). c.is_full-2.result ≡ has_full (world_of j)) c.self.view_is
    (c.is_full-2.ensures ∙ full_second w.a w.b w.to_a.items w.to_b.items ends c.end.result c.end-2.result c.end.ensures c.end-2.ensures (sym c.is_full.ensures ∙ c.if-is_full.false))
