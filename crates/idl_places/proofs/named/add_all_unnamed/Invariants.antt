use Rattle.std.proofs.Common.{map, take}
use Rattle.uno_entities.specs.Entities.{entities_of}
use Rattle.idl_places.specs.Places.{wrong_paths}
use Rattle.entity_rules.specs.Wanted.{is_wanted}
use Rattle.idl_places.specs.Places.{AddsPlaces}
use Rattle.idl_trees.specs.Names.{path_of}
use Rattle.idl_places.proofs.named.add_all_unnamed.Given as goal

abbrev pub invariant-loop-path : goal.invariant-loop-path
invariant-loop-path g l = AddsPlaces l.fn.places.items (wrong_paths (g.M.Meanings.telling l.meanings) (entities_of l.entities) (is_wanted l.wanted) (map path_of (take l.path-index l.paths))) l.places.items
