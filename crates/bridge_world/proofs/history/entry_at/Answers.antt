use Rattle.std.proofs.Common.{◌∙◌, ap, slice_get}
use Rattle.bridge_journal.specs.Logs.{entry_of}
use Rattle.bridge_world.specs.Joined.{Joined}
use Rattle.bridge_world.proofs.MarkLemmas.{found_a, found_b, found_none, rise_a, rise_b}
use Rattle.bridge_world.proofs.history.entry_at.Goals as goal

pub marked-requires : goal.marked-requires
marked-requires c = let w = c.world.inside in rise_a w.a w.b w.to_a.items w.to_b.items c.world.invariant

pub marked-requires-2 : goal.marked-requires-2
marked-requires-2 c = let w = c.world.inside in rise_b w.a w.b w.to_a.items w.to_b.items c.world.invariant

pub returns-in-Some : goal.returns-in-Some
returns-in-Some c =
    let w = c.world.inside in
    found_a w.a w.b w.to_a.items w.to_b.items c.world.invariant c.args.nth (entry_of c.in-Some.entry.now) c.in-Some.ensures.found ∙ ap (λ (j : Joined). slice_get j.events c.args.nth) c.world.view_is

pub returns-in-Some-marked : goal.returns-in-Some-marked
returns-in-Some-marked c =
    let w = c.world.inside in
    found_b w.a w.b w.to_a.items w.to_b.items c.world.invariant c.args.nth (entry_of c.in-Some-marked.entry.now) c.in-Some-marked.ensures.found ∙ ap (λ (j : Joined). slice_get j.events c.args.nth) c.world.view_is

pub returns : goal.returns
returns c =
    let w = c.world.inside in
    found_none w.a w.b w.to_a.items w.to_b.items c.world.invariant c.args.nth c.in_default.ensures.none c.in_default-marked.ensures.none ∙ ap (λ (j : Joined). slice_get j.events c.args.nth) c.world.view_is
