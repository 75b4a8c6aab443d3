use Rattle.std.proofs.Common.{length, ◌≤◌, None, arith}
use Rattle.idl_places.proofs.LeastLemmas.{least_in, first_is, one_more_place, places_end}
use Rattle.idl_places.specs.Places.{places_of}
use Rattle.idl_places.proofs.places.least.Goals as goal

pub loop-place-preserved : goal.loop-place-preserved
loop-place-preserved c =
    one_more_place c.args.places.now c.loop-place.place-index _ c.loop-place.least c.lesser.result (least_in None (places_of c.args.places.now)) c.loop-place-test.true c.lesser.ensures
    c.loop-place.invariant

pub returns : goal.returns
returns c =
    let end : length c.args.places.now ≤ c.loop-place.place-index = omega (arith, c.loop-place-test.false) in
    first_is c.loop-place.least c.args.places.now
    (places_end c.args.places.now c.loop-place.place-index c.loop-place.least (least_in None (places_of c.args.places.now)) end c.loop-place.invariant)
