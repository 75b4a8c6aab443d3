use Rattle.std.proofs.Common.{length, ◌≤◌, map, subst, arith}
use Rattle.std.proofs.lemmas.List.{take_all}
use Rattle.idl_meaning_model.specs.NameFaults.{refused_types}
use Rattle.idl_names.specs.Collected.{declared_of}
use Rattle.idl_names.specs.Faults.{AddsFaults}
use Rattle.idl_names.proofs.RefusedLemmas.{none_refused, each_refused}
use Rattle.idl_names.proofs.refused.add_refused_types.Goals as goal

pub loop-declared-init : goal.loop-declared-init
loop-declared-init c = λ paths. none_refused paths c.args.faults.now.items

pub loop-declared-preserved : goal.loop-declared-preserved
loop-declared-preserved c = λ paths.
    each_refused paths c.args.all.now c.loop-declared.declared-index c.declared-item.result c.args.faults.now.items c.loop-declared.faults.items c.add_refused_in.new.faults.items
    c.loop-declared-test.true c.declared-item.is (c.loop-declared.invariant paths) c.in_ok-add_refused_in.ensures

pub returns : goal.returns
returns c = λ paths.
    let end : length c.args.all.now ≤ c.loop-declared.declared-index = omega (arith, c.loop-declared-test.false) in
    subst (λ ds. AddsFaults c.args.faults.now.items (refused_types (map (declared_of paths) ds)) c.loop-declared.faults.items) (take_all c.loop-declared.declared-index c.args.all.now end)
    (c.loop-declared.invariant paths)
