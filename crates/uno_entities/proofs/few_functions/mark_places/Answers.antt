use Rattle.std.proofs.lemmas.List.Elements.{Contains-get_or}
use Rattle.std.proofs.Common.{arith}
use Rattle.uno_entities.proofs.ReachLemmas.{more_step}
use Rattle.uno_entities.proofs.few_functions.mark_places.Goals as goal

pub bounds-known-place : goal.bounds-known-place
bounds-known-place c = omega (arith, c.requires _ (Contains-get_or c.args.places.now c.loop-place.place-index 0 c.loop-place-test.true), c.loop-place.invariant.long)

pub loop-place-preserved : goal.loop-place-preserved
loop-place-preserved c = more_step _ _ _ _ (Contains-get_or c.args.places.now c.loop-place.place-index 0 c.loop-place-test.true) c.loop-place.invariant
