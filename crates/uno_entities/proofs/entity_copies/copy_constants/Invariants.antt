use Rattle.std.specs.Prelude.{◌≡◌, map, take}
use Rattle.uno_entities.specs.Entities.{constant_of}
use Rattle.uno_entities.proofs.entity_copies.copy_constants.Given as goal

abbrev pub invariant-loop-constant : goal.invariant-loop-constant
invariant-loop-constant l = map constant_of l.copies.items ≡ map constant_of (take l.constant-index l.constants)
