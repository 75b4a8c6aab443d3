use Rattle.std.proofs.Common.{◌≡◌, ◌++◌, map, take}
use Rattle.uno_entities.specs.Entities.{base_of}
use Rattle.registry_text_model.specs.Lines.{base_line, text_of}
use Rattle.reg_text.proofs.members.push_bases.Given as goal

abbrev pub invariant-loop-base : goal.invariant-loop-base
invariant-loop-base l = l.text.items ≡ l.fn.text.items ++ text_of (map base_line (map base_of (take l.base-index l.bases)))
