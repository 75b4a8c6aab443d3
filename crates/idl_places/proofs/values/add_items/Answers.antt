use Rattle.std.proofs.Common.{refl, arith}
use Rattle.idl_places.proofs.ValueLemmas.{value_on, values_end}
use Rattle.idl_places.specs.Places.{places_of}
use Rattle.idl_places.specs.ValuedNames.{judged_item}
use Rattle.idl_places.proofs.values.add_items.Goals as goal

pub loop-place-init : goal.loop-place-init
loop-place-init c = refl

pub loop-place-preserved : goal.loop-place-preserved
loop-place-preserved c =
    value_on judged_item c.args.items.now c.args.values.now c.loop-place.place c.index-items-place.result _ _ _ c.loop-place-test.true c.requires.long c.index-items-place.is
    c.loop-place.invariant c.in_ok-add_item.ensures

pub returns : goal.returns
returns c =
    values_end judged_item c.args.items.now c.args.values.now c.loop-place.place (places_of c.args.places.now.items) (places_of c.loop-place.places.items) (omega (arith, c.loop-place-test.false))
    c.loop-place.invariant
