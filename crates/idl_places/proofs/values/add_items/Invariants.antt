use Rattle.std.proofs.Common.{◌≡◌, ◌++◌, drop, map}
use Rattle.idl_places.specs.Places.{places_of}
use Rattle.idl_places.specs.ValuedNames.{judged_item, wrong_values}
use Rattle.idl_places.proofs.values.add_items.Given as goal

abbrev pub invariant-loop-place : goal.invariant-loop-place
invariant-loop-place l = places_of l.places.items ++ wrong_values (drop l.place (map judged_item l.items)) (drop l.place l.values)
    ≡ places_of l.fn.places.items ++ wrong_values (map judged_item l.items) l.values
