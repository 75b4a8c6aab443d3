use Rattle.std.specs.Prelude.{◌≡◌, map, take}
use Rattle.uno_entities.specs.Entities.{part_of}
use Rattle.uno_entities.proofs.entity_copies.copy_old_service.Given as goal

abbrev pub invariant-loop-part : goal.invariant-loop-part
invariant-loop-part l = map part_of l.copies.items ≡ map part_of (take l.part-index l.parts)
