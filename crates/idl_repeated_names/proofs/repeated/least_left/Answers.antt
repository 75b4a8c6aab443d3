use Rattle.std.proofs.Common.{◌≤◌, length, arith}
use Rattle.idl_repeated_names.proofs.RepeatedLemmas.{least_begins, least_more, least_of_all}
use Rattle.idl_repeated_names.proofs.repeated.least_left.Goals as goal

pub loop-entry-init : goal.loop-entry-init
loop-entry-init c = λ paths knows so. least_begins paths c.args.entries.now c.args.around.owners.now c.args.around.built_in.now c.args.around.registry.now knows

pub loop-entry-preserved : goal.loop-entry-preserved
loop-entry-preserved c = λ paths knows so.
    least_more paths c.args.entries.now c.args.around.owners.now c.args.around.built_in.now c.args.around.registry.now knows c.loop-entry.entry-index c.entry-item.result
    c.loop-entry.least c.in_ok-least.least c.loop-entry-test.true c.entry-item.is (c.in_ok-least.ensures so) (c.loop-entry.invariant paths knows so)

pub returns : goal.returns
returns c = λ paths knows so.
    let end : length c.args.entries.now ≤ c.loop-entry.entry-index = omega (arith, c.loop-entry-test.false) in
    least_of_all paths c.args.entries.now c.args.around.owners.now c.args.around.built_in.now c.args.around.registry.now knows c.loop-entry.entry-index c.loop-entry.least end
    (c.loop-entry.invariant paths knows so)
