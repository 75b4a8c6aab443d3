use Rattle.idl_joint_places.proofs.LoopLemmas.{no_valued, values_added}
use Rattle.idl_joint_places.proofs.circles.value_places.Goals as goal

pub loop-declared-init : goal.loop-declared-init
loop-declared-init c = λ paths. no_valued c.new-places.ensures.items

pub loop-declared-preserved : goal.loop-declared-preserved
loop-declared-preserved c = λ paths.
    values_added paths c.args.all.now c.loop-declared.declared-index c.declared-item.result c.loop-declared.places.items c.add_places_of.new.places.items
    c.loop-declared-test.true c.declared-item.is (c.loop-declared.invariant paths) c.in_ok-add_places_of.ensures
