use Rattle.std.proofs.Common.{◌≡◌, drop, None, option_map}
use Rattle.idl_places.proofs.LeastLemmas.{least_in}
use Rattle.idl_places.specs.Places.{places_of}
use Rattle.idl_places.proofs.places.least.Given as goal
use Rattle.idl_trees.specs.Names.{place_of}

abbrev pub invariant-loop-place : goal.invariant-loop-place
invariant-loop-place l = least_in (option_map place_of l.least) (places_of (drop l.place-index l.places)) ≡ least_in None (places_of l.places)
