use Rattle.std.specs.Prelude.{◌≡◌, map, take}
use Rattle.uno_entities.specs.Entities.{constructor_of}
use Rattle.uno_entities.proofs.entity_copies.copy_constructors.Given as goal

abbrev pub invariant-loop-constructor : goal.invariant-loop-constructor
invariant-loop-constructor l = map constructor_of l.copies.items ≡ map constructor_of (take l.constructor-index l.constructors)
