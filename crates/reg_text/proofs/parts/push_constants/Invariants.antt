use Rattle.std.proofs.Common.{◌≡◌, ◌++◌, map, take}
use Rattle.uno_entities.specs.Entities.{constant_of}
use Rattle.registry_text_model.specs.Lines.{constant_line, text_of}
use Rattle.reg_text.proofs.parts.push_constants.Given as goal

abbrev pub invariant-loop-constant : goal.invariant-loop-constant
invariant-loop-constant l = l.text.items ≡ l.fn.text.items ++ text_of (map constant_line (map constant_of (take l.constant-index l.constants)))
