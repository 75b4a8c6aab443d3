use Rattle.std.proofs.Common.{◌≡◌, take}
use Rattle.std.specs.List.{filter_map}
use Rattle.idl_names.specs.Used.{all_used_of}
use Rattle.idl_values.specs.Graph.{used_place}
use Rattle.idl_values.specs.Places.{known_by}
use Rattle.idl_values.specs.Told.{number_at}
use Rattle.idl_values.proofs.graph.used_row.Given as goal

abbrev pub invariant-loop-used : goal.invariant-loop-used
invariant-loop-used l = l.row.items ≡ filter_map (used_place (known_by (number_at l.told.numbers) l.table)) (all_used_of (take l.used-index l.all))
