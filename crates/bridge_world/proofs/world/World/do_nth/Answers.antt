use Rattle.std.proofs.Common.{◌≡◌, ◌-◌, ◌<◌, ◌≤◌, ◌^◌, List, arith, map, refl, subst}
use Rattle.behaviour.specs.Roots.{run_of}
use Rattle.behaviour.specs.declared.root.RootRun.{RootRun}
use Rattle.move_choice.specs.Choosing.{AreChoices}
use Rattle.world_model.specs.Worlds.{of_a, of_b}
use Rattle.bridge_world.specs.Joined.{settings_of, world_of}
use Rattle.bridge_world.specs.Playing.{progress_of}
use Rattle.bridge_world.proofs.DoingLemmas.{moved_a, moved_b, ok_then}
use Rattle.bridge_world.proofs.world.World.do_nth.Goals as goal

pub returns-in-None-clause-moves : goal.returns-in-None-clause-moves
returns-in-None-clause-moves c =
    let j = c.args.self.now in
    let g = settings_of j in
    let w = world_of j in
    let p = progress_of c.args.runs.now in
    let are =
    subst (λ (rs : List RootRun). AreChoices (of_a g) (of_b g) w.a.now w.b.now (map run_of rs) c.choices-a.result) c.deref.ensures.value (c.choices-a.ensures.a refl) in
    let less : c.args.nth < c.count.result = omega arith in
    ok_then c.do_at.result
    (λ does m there. moved_a c.args.cut j c.do_at.new.self p (map run_of c.do_at.new.runs.items) c.deed_at.result c.count.result c.args.nth
    (c.count.ensures (of_a g) (of_b g) w.a.now w.b.now p.a are) less (λ d at. c.deed_at.ensures (of_a g) (of_b g) w.a.now w.b.now p.a d are at) does m there) c.do_at.ensures.does

pub returns-in-Some-clause-moves : goal.returns-in-Some-clause-moves
returns-in-Some-clause-moves c =
    let j = c.args.self.now in
    let g = settings_of j in
    let w = world_of j in
    let p = progress_of c.args.runs.now in
    let first =
    subst (λ (rs : List RootRun). AreChoices (of_a g) (of_b g) w.a.now w.b.now (map run_of rs) c.choices-a.result) c.deref.ensures.value (c.choices-a.ensures.a refl) in
    let second =
    subst (λ (rs : List RootRun). AreChoices (of_b g) (of_a g) w.b.now w.a.now (map run_of rs) c.choices-b.result) c.deref-in-Some.ensures.value (c.choices-b.ensures.b refl) in
    let small : c.args.nth < 2 ^ 32 - 1 = omega arith in
    let most : c.count.result ≤ c.args.nth = omega arith in
    let rest : c.in-Some.nth ≡ c.args.nth - c.count.result = omega arith in
    ok_then c.do_at-in-Some.result
    (λ does m there. moved_b c.args.cut j c.do_at-in-Some.new.self p (map run_of c.do_at-in-Some.new.runs.items) c.deed_at-in-Some.result c.count.result c.args.nth c.in-Some.nth
    (c.count.ensures (of_a g) (of_b g) w.a.now w.b.now p.a first) small most rest (λ d at. c.deed_at-in-Some.ensures (of_b g) (of_a g) w.b.now w.a.now p.b d second at) does m there) c.do_at-in-Some.ensures.does
