use Rattle.std.proofs.Common.{◌≡◌, ◌++◌, map, take}
use Rattle.uno_model.specs.Places.{places_of}
use Rattle.uno_model.specs.Registry.{contained}
use Rattle.uno_entities.specs.Entities.{entities_of, field_of}
use Rattle.registry_rules.proofs.circles.push_contained.Given as goal

abbrev pub invariant-loop-member : goal.invariant-loop-member
invariant-loop-member l = l.row.items ≡ l.fn.row.items ++ places_of (entities_of l.entities) (contained (map field_of (take l.member-index l.members)))
