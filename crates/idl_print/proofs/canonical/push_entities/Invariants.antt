use Rattle.std.proofs.Common.{◌≡◌, ◌++◌, take}
use Rattle.uno_entities.specs.Entities.{entities_of}
use Rattle.registry_text_model.specs.Canonical.{canonical_unoidl}
use Rattle.idl_print.proofs.canonical.push_entities.Given as goal

abbrev pub invariant-loop-entity : goal.invariant-loop-entity
invariant-loop-entity l = l.text.items ≡ l.fn.text.items ++ canonical_unoidl (entities_of (take l.entity-index l.entities))
