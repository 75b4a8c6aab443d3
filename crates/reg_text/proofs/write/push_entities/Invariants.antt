use Rattle.std.proofs.Common.{◌≡◌, ◌++◌, take}
use Rattle.std.specs.List.{flat_map}
use Rattle.uno_entities.specs.Entities.{entities_of}
use Rattle.registry_text_model.specs.Lines.{entity_lines, written, text_of}
use Rattle.reg_text.proofs.write.push_entities.Given as goal

abbrev pub invariant-loop-entity : goal.invariant-loop-entity
invariant-loop-entity l = l.text.items ≡ l.fn.text.items ++ text_of (flat_map entity_lines (written (entities_of (take l.entity-index l.entities))))
