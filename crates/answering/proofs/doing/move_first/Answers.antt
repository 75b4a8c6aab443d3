use Rattle.std.proofs.Common.{◌≡◌, ◌∙◌, refl, sym, subst, ◌<◌, length, map, arith}
use Rattle.behaviour.specs.Roots.{run_of}
use Rattle.bridge_endpoint.specs.Journals.{Endpoint, setting_at, side_at}
use Rattle.bridge_core.specs.Standing.{IsRunAt}
use Rattle.answering.specs.Running.{AreRoots}
use Rattle.answering.proofs.FirstLaws.{end_there, moves_there, none_there, runs_there}
use Rattle.answering.proofs.RowLaws.{none_first, root_at, set_long}
use Rattle.answering.proofs.RunningLaws.{each_run}
use Rattle.answering.proofs.doing.move_first.Goals as goal

pub loop-place-init : goal.loop-place-init
loop-place-init c = record { end = refl; runs = refl; none = none_first (setting_at c.args.end.now) (side_at c.args.end.now); long = refl }

pub root_step-requires : goal.root_step-requires
root_step-requires c =
    let less = c.loop-place-test.true in
    let end = c.len-place-end.ensures in
    let same = c.loop-place.invariant.long in
    let long = c.args.runs.now.ok.0 in
    let within : c.loop-place.place < length c.loop-place.runs.items = omega (arith, less, end, same, long) in
    subst (λ (z : Endpoint). IsRunAt z (run_of c.index_mut.result.now)) (sym c.loop-place.invariant.end)
    (root_at run_of c.loop-place.runs.items c.loop-place.place c.index_mut.result.now c.index_mut.result.now within c.index_mut.ensures.value
    (IsRunAt c.args.end.now) (each_run c.args.end.now 1 (map run_of c.loop-place.runs.items) (subst (AreRoots c.args.end.now) (sym c.loop-place.invariant.runs) c.requires)))

pub returns-in-Moved : goal.returns-in-Moved
returns-in-Moved c =
    let less = c.loop-place-test.true in
    let end = c.len-place-end.ensures in
    let same = c.loop-place.invariant.long in
    let long = c.args.runs.now.ok.0 in
    let within : c.loop-place.place < length c.loop-place.runs.items = omega (arith, less, end, same, long) in
    moves_there run_of c.args.end.now c.loop-place.end c.root_step.new.end (map run_of c.args.runs.now.items) c.loop-place.runs.items c.loop-place.place c.index_mut.result.now
    c.root_step.new.run c.loop-place.invariant.end c.loop-place.invariant.runs c.loop-place.invariant.none within c.index_mut.ensures.value c.in-Moved.ensures.step

pub loop-place-preserved : goal.loop-place-preserved
loop-place-preserved c =
    let less = c.loop-place-test.true in
    let end = c.len-place-end.ensures in
    let same = c.loop-place.invariant.long in
    let long = c.args.runs.now.ok.0 in
    let within : c.loop-place.place < length c.loop-place.runs.items = omega (arith, less, end, same, long) in
    record {
      end =
          end_there run_of c.args.end.now c.loop-place.end c.root_step.new.end (map run_of c.args.runs.now.items) c.loop-place.runs.items c.loop-place.place c.index_mut.result.now
          c.root_step.new.run c.loop-place.invariant.end c.loop-place.invariant.runs c.loop-place.invariant.none within c.index_mut.ensures.value c.root_step.result c.in-Waiting.is
          c.root_step.ensures.step;
      runs =
          runs_there run_of c.args.end.now c.loop-place.end c.root_step.new.end (map run_of c.args.runs.now.items) c.loop-place.runs.items c.loop-place.place c.index_mut.result.now
          c.root_step.new.run c.loop-place.invariant.end c.loop-place.invariant.runs c.loop-place.invariant.none within c.index_mut.ensures.value c.root_step.result c.in-Waiting.is
          c.root_step.ensures.step;
      none =
          none_there run_of c.args.end.now c.loop-place.end c.root_step.new.end (map run_of c.args.runs.now.items) c.loop-place.runs.items c.loop-place.place c.index_mut.result.now
          c.root_step.new.run c.loop-place.invariant.end c.loop-place.invariant.runs c.loop-place.invariant.none within c.index_mut.ensures.value c.root_step.result c.in-Waiting.is
          c.root_step.ensures.step;
      long = set_long c.loop-place.runs.items c.loop-place.place c.root_step.new.run ∙ c.loop-place.invariant.long;
    }
