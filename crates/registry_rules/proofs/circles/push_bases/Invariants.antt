use Rattle.std.proofs.Common.{◌≡◌, ◌++◌, map, take}
use Rattle.uno_model.specs.Places.{places_of}
use Rattle.uno_entities.specs.Entities.{entities_of, base_of}
use Rattle.registry_rules.proofs.circles.push_bases.Given as goal

abbrev pub invariant-loop-base : goal.invariant-loop-base
invariant-loop-base l = l.row.items ≡ l.fn.row.items ++ places_of (entities_of l.entities) (map (λ b. b.name) (map base_of (take l.base-index l.bases)))
