use Rattle.std.proofs.Common.{◌≡◌, ◌++◌, map, take}
use Rattle.uno_entities.specs.Entities.{part_of}
use Rattle.registry_text_model.specs.Lines.{part_line, text_of}
use Rattle.reg_text.proofs.properties.push_parts.Given as goal

abbrev pub invariant-loop-part : goal.invariant-loop-part
invariant-loop-part l = l.text.items ≡ l.fn.text.items ++ text_of (map part_line (map part_of (take l.part-index l.parts)))
