use Rattle.std.proofs.Common.{◌≡◌, ◌++◌, map, take}
use Rattle.uno_entities.specs.Entities.{field_of}
use Rattle.registry_text_model.specs.Lines.{given_line, text_of}
use Rattle.reg_text.proofs.parts.push_all_given.Given as goal

abbrev pub invariant-loop-param : goal.invariant-loop-param
invariant-loop-param l = l.text.items ≡ l.fn.text.items ++ text_of (map given_line (map field_of (take l.param-index l.params)))
