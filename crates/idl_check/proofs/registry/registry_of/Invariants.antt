use Rattle.std.proofs.Common.{◌≡◌, ◌++◌, ℕ, List, length}
use Rattle.std.specs.Vec.Iter.{into_iter_items, into_iter_len}
use Rattle.uno_entities.specs.Entities.{entities_of}
use Rattle.uno_model.specs.BuiltIn.{built_in}
use Rattle.uno_model.specs.Registry.{find_entity}
use Rattle.idl_check.proofs.registry.registry_of.Given as goal

abbrev pub invariant-loop-entity : goal.invariant-loop-entity
invariant-loop-entity l = (l.yielded ++ into_iter_items l.entity-iterator ≡ into_iter_items l.initial.entity-iterator)
    × ((name : List ℕ) → find_entity name l.registry ≡ find_entity name (built_in ++ entities_of l.yielded))
    × (into_iter_len l.entity-iterator ≡ length (into_iter_items l.entity-iterator))
