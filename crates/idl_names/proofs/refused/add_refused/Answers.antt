use Rattle.std.proofs.Common.{sym, append-nil}
use Rattle.idl_names.specs.Faults.{all_faults_of}
use Rattle.idl_names.proofs.RefusedLemmas.{each_place}
use Rattle.idl_names.proofs.refused.add_refused.Goals as goal
use Rattle.idl_trees.specs.Names.{place_of}

pub loop-place-init : goal.loop-place-init
loop-place-init c = sym (append-nil (all_faults_of c.args.faults.now.items))

pub loop-place-preserved : goal.loop-place-preserved
loop-place-preserved c =
    each_place place_of c.args.places.now c.loop-place.place-index _ c.args.faults.now.items c.loop-place.faults.items c.push.new.self.items c.refused_fault.result
    c.loop-place-test.true c.loop-place.invariant c.in_ok-push.ensures.items c.refused_fault.ensures
