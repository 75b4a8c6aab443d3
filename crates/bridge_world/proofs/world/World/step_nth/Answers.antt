use Rattle.std.proofs.Common.{ap, ◌<◌, length, map, arith}
use Rattle.behaviour.specs.Roots.{run_of}
use Rattle.bridge_endpoint.specs.Journals.{setting_at}
use Rattle.bridge_laws.proofs.TypedGivenLaws.{is_given}
use Rattle.bridge_world.specs.Joined.{end_at}
use Rattle.bridge_world.proofs.StepLaws.{has_stepped, listed_there, not_still, root_within, runs_there, stand_behind, stand_left}
use Rattle.bridge_world.proofs.world.World.step_nth.Goals as goal

pub index_mut-requires : goal.index_mut-requires
index_mut-requires c =
    let e = end_at c.args.self.now c.args.side in
    let xs = c.args.runs.now.items in
    let listed = listed_there c.end_of.result.now e (map run_of c.deref.result.now) (map run_of xs) c.args.nth c.in-Some.place c.end_of.ensures.setting c.end_of.ensures.side (ap (map run_of) c.deref.ensures.value) c.in-Some.ensures in
    let less : c.in-Some.place < length xs = root_within run_of e xs c.args.nth c.in-Some.place listed in
    let long = c.args.runs.now.ok.0 in
    omega (arith, less, long)

pub root_step-requires-clause-run : goal.root_step-requires-clause-run
root_step-requires-clause-run c =
    let e = end_at c.args.self.now c.args.side in
    let xs = c.args.runs.now.items in
    let listed = listed_there c.end_of.result.now e (map run_of c.deref.result.now) (map run_of xs) c.args.nth c.in-Some.place c.end_of.ensures.setting c.end_of.ensures.side (ap (map run_of) c.deref.ensures.value) c.in-Some.ensures in
    runs_there run_of e xs c.args.nth c.in-Some.place listed c.index_mut.result.now c.index_mut.result.now c.index_mut.ensures.value c.requires.stands

pub unreachable-requires : goal.unreachable-requires
unreachable-requires c =
    let e = end_at c.args.self.now c.args.side in
    let xs = c.args.runs.now.items in
    let listed = listed_there c.end_of.result.now e (map run_of c.deref.result.now) (map run_of xs) c.args.nth c.in-Some.place c.end_of.ensures.setting c.end_of.ensures.side (ap (map run_of) c.deref.ensures.value) c.in-Some.ensures in
    not_still run_of e xs c.args.nth c.in-Some.place listed c.index_mut.result.now c.root_step.new.run c.index_mut.ensures.value (end_at c.root_step.new.self c.args.side) c.root_step.result c.in-Waiting.is c.root_step.ensures.step

pub returns-in-Moved-clause-stepped : goal.returns-in-Moved-clause-stepped
returns-in-Moved-clause-stepped c d there =
    let e = end_at c.args.self.now c.args.side in
    let xs = c.args.runs.now.items in
    let listed = listed_there c.end_of.result.now e (map run_of c.deref.result.now) (map run_of xs) c.args.nth c.in-Some.place c.end_of.ensures.setting c.end_of.ensures.side (ap (map run_of) c.deref.ensures.value) c.in-Some.ensures in
    has_stepped run_of e xs c.args.nth c.in-Some.place listed c.index_mut.result.now c.root_step.new.run c.index_mut.ensures.value (end_at c.root_step.new.self c.args.side) c.in-Moved.ensures.step

pub returns-in-Moved-clause-stands : goal.returns-in-Moved-clause-stands
returns-in-Moved-clause-stands c =
    let e = end_at c.args.self.now c.args.side in
    let xs = c.args.runs.now.items in
    let known = c.journal.ensures in
    let listed = listed_there c.end_of.result.now e (map run_of c.deref.result.now) (map run_of xs) c.args.nth c.in-Some.place c.end_of.ensures.setting c.end_of.ensures.side (ap (map run_of) c.deref.ensures.value) c.in-Some.ensures in
    let given = is_given (setting_at e) known.set_up.sound known.built_in known.set_up.names known.set_up.rules known.tag.short in
    stand_behind run_of e xs c.args.nth c.in-Some.place listed c.index_mut.result.now c.root_step.new.run c.index_mut.ensures.value given known.leads c.requires.stands (end_at c.root_step.new.self c.args.side) c.in-Moved.ensures.step

pub returns-in-NoMemory-clause-stands : goal.returns-in-NoMemory-clause-stands
returns-in-NoMemory-clause-stands c =
    let e = end_at c.args.self.now c.args.side in
    let xs = c.args.runs.now.items in
    let listed = listed_there c.end_of.result.now e (map run_of c.deref.result.now) (map run_of xs) c.args.nth c.in-Some.place c.end_of.ensures.setting c.end_of.ensures.side (ap (map run_of) c.deref.ensures.value) c.in-Some.ensures in
    stand_left run_of e xs c.args.nth c.in-Some.place listed c.index_mut.result.now c.root_step.new.run c.index_mut.ensures.value (end_at c.root_step.new.self c.args.side) (end_at c.lacks_memory.new.self c.args.side) c.requires.stands
    c.in-NoMemory.ensures.step c.lacks_memory.ensures.runs
