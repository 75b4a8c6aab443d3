use Rattle.std.proofs.Common.{◌≡◌, map, take, Some}
use Rattle.uno_model.specs.Places.{places_of}
use Rattle.uno_model.specs.Registry.{leads_to_body}
use Rattle.uno_entities.specs.Entities.{entities_of, entity_of}
use Rattle.entity_rules.proofs.circles.graph_of_places.Given as goal

abbrev pub invariant-loop-entity : goal.invariant-loop-entity
invariant-loop-entity l = l.graph ≡ map (λ e. places_of (entities_of l.entities) (leads_to_body (Some e))) (map entity_of (take l.entity-index l.entities))
