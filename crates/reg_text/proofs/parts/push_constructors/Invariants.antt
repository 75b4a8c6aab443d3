use Rattle.std.proofs.Common.{◌≡◌, ◌++◌, map, take}
use Rattle.std.specs.List.{flat_map}
use Rattle.uno_entities.specs.Entities.{constructor_of}
use Rattle.registry_text_model.specs.Lines.{constructor_lines, text_of}
use Rattle.reg_text.proofs.parts.push_constructors.Given as goal

abbrev pub invariant-loop-constructor : goal.invariant-loop-constructor
invariant-loop-constructor l = l.text.items ≡ l.fn.text.items ++ text_of (flat_map constructor_lines (map constructor_of (take l.constructor-index l.constructors)))
