use Rattle.std.proofs.Common.{◌≡◌, map, take}
use Rattle.uno_model.specs.Places.{places_of}
use Rattle.uno_entities.specs.Entities.{entities_of, entity_of}
use Rattle.registry_text_model.specs.NoCircles.{led_on}
use Rattle.registry_rules.proofs.circles.graph_of_places.Given as goal

abbrev pub invariant-loop-entity : goal.invariant-loop-entity
invariant-loop-entity l = l.graph ≡ map (λ e. places_of (entities_of l.entities) (led_on (entities_of l.entities) e.body)) (map entity_of (take l.entity-index l.entities))
