use Rattle.std.proofs.Common.{◌≡◌, take}
use Rattle.idl_values.specs.Graph.{places_from}
use Rattle.idl_values.specs.Origins.{origins_of}
use Rattle.idl_values.specs.Places.{known_by}
use Rattle.idl_values.specs.Told.{number_at}
use Rattle.idl_values.proofs.graph.value_graph.Given as goal

abbrev pub invariant-loop-place : goal.invariant-loop-place
invariant-loop-place l = l.graph ≡ places_from (known_by (number_at l.told.numbers) l.table) 0 (origins_of (take l.place l.origins))
