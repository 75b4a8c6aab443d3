use Rattle.std.specs.Prelude.{◌≡◌, map, take}
use Rattle.uno_entities.specs.Entities.{base_of}
use Rattle.uno_entities.proofs.entity_copies.copy_bases.Given as goal

abbrev pub invariant-loop-base : goal.invariant-loop-base
invariant-loop-base l = map base_of l.copies.items ≡ map base_of (take l.base-index l.bases)
