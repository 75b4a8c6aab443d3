use Rattle.std.proofs.Common.{◌≡◌, ◌++◌, map, take}
use Rattle.uno_entities.specs.Entities.{param_of}
use Rattle.registry_text_model.specs.Lines.{param_line, text_of}
use Rattle.reg_text.proofs.members.push_params.Given as goal

abbrev pub invariant-loop-param : goal.invariant-loop-param
invariant-loop-param l = l.text.items ≡ l.fn.text.items ++ text_of (map param_line (map param_of (take l.param-index l.params)))
