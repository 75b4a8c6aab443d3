use Rattle.std.proofs.Common.{sym, subst, map}
use Rattle.behaviour.specs.Roots.{run_of}
use Rattle.bridge_endpoint.specs.Journals.{told_at}
use Rattle.world_laws.proofs.Histories.{one_history}
use Rattle.move_choice.specs.Choosing.{AreChoices}
use Rattle.world_model.specs.Worlds.{of_a, of_b}
use Rattle.bridge_world.specs.Joined.{Joined, joined, settings_of, world_of}
use Rattle.bridge_world.proofs.ChoicesLaws.{choices_a, choices_b}
use Rattle.bridge_world.proofs.PipingCalls.{both_known}
use Rattle.bridge_world.proofs.world.World.choices.Goals as goal

pub choices-requires : goal.choices-requires
choices-requires c =
    let w = c.self.inside in
    let ends = both_known w.a w.b w.to_a.items w.to_b.items c.self.invariant c.know.ensures.a c.know.ensures.b in
    sym (one_history (settings_of (joined w.a w.b)) (joined w.a w.b).events (told_at w.a) (told_at w.b) w.to_a.items w.to_b.items ends).pipe_a

pub choices-requires-in-B : goal.choices-requires-in-B
choices-requires-in-B c =
    let w = c.self.inside in
    let ends = both_known w.a w.b w.to_a.items w.to_b.items c.self.invariant c.know.ensures.a c.know.ensures.b in
    sym (one_history (settings_of (joined w.a w.b)) (joined w.a w.b).events (told_at w.a) (told_at w.b) w.to_a.items w.to_b.items ends).pipe_b

pub returns-in-A-clause-a : goal.returns-in-A-clause-a
returns-in-A-clause-a c at =
    let w = c.self.inside in
    let ends = both_known w.a w.b w.to_a.items w.to_b.items c.self.invariant c.know.ensures.a c.know.ensures.b in
    subst (λ (j : Joined). AreChoices (of_a (settings_of j)) (of_b (settings_of j)) (world_of j).a.now (world_of j).b.now (map run_of c.args.runs.now) c.choices.result) c.self.view_is
    (choices_a w.a w.b w.to_a.items w.to_b.items c.self.invariant ends (map run_of c.args.runs.now) c.choices.result c.choices.ensures)

pub returns-in-B-clause-b : goal.returns-in-B-clause-b
returns-in-B-clause-b c at =
    let w = c.self.inside in
    let ends = both_known w.a w.b w.to_a.items w.to_b.items c.self.invariant c.know.ensures.a c.know.ensures.b in
    subst (λ (j : Joined). AreChoices (of_b (settings_of j)) (of_a (settings_of j)) (world_of j).b.now (world_of j).a.now (map run_of c.args.runs.now) c.choices-in-B.result) c.self.view_is
    (choices_b w.a w.b w.to_a.items w.to_b.items c.self.invariant ends (map run_of c.args.runs.now) c.choices-in-B.result c.choices-in-B.ensures)
