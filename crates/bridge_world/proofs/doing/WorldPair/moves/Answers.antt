use Rattle.std.proofs.Common.{◌∙◌, List, map, refl, subst}
use Rattle.behaviour.specs.Roots.{run_of}
use Rattle.behaviour.specs.declared.root.RootRun.{RootRun}
use Rattle.move_choice.specs.Choosing.{AreChoices}
use Rattle.world_model.specs.Worlds.{of_a, of_b}
use Rattle.bridge_world.specs.Joined.{settings_of, world_of}
use Rattle.bridge_world.specs.Playing.{progress_of}
use Rattle.bridge_world.proofs.MovesLemmas.{count_both}
use Rattle.bridge_world.proofs.doing.WorldPair.moves.Goals as goal

pub returns : goal.returns
returns c =
    let g = settings_of c.args.self.now in
    let w = world_of c.args.self.now in
    let p = progress_of c.args.runs.now in
    c.saturating_add.ensures
    ∙ count_both g w p c.count-a.result c.count-b.result
    (c.count-a.ensures (of_a g) (of_b g) w.a.now w.b.now p.a
    (subst (λ (rs : List RootRun). AreChoices (of_a g) (of_b g) w.a.now w.b.now (map run_of rs) c.choices.result) c.deref.ensures.value (c.choices.ensures.a refl)))
    (c.count-b.ensures (of_b g) (of_a g) w.b.now w.a.now p.b
    (subst (λ (rs : List RootRun). AreChoices (of_b g) (of_a g) w.b.now w.a.now (map run_of rs) c.choices-2.result) c.deref-2.ensures.value (c.choices-2.ensures.b refl)))
