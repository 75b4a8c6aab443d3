use Rattle.std.proofs.Common.{◌≡◌, ◌++◌, take}
use Rattle.registry_text_model.specs.Lines.{name_lines, text_of}
use Rattle.reg_text.proofs.line.push_names.Given as goal

abbrev pub invariant-loop-name : goal.invariant-loop-name
invariant-loop-name l = l.text.items ≡ l.fn.text.items ++ text_of (name_lines l.word (take l.name-index l.names))
