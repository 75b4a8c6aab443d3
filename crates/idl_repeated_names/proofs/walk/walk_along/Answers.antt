use Rattle.idl_repeated_names.proofs.walk.walk_along.Goals as goal

pub loop-place-init : goal.loop-place-init
loop-place-init c = c.no_walk-walk.ensures _

pub loop-place-preserved : goal.loop-place-preserved
loop-place-preserved c = c.in_ok-visit_at.ensures c.loop-place.invariant

pub returns : goal.returns
returns c = c.loop-place.invariant
