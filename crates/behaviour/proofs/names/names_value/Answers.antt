use Rattle.std.proofs.Common.{ap, ◌∙◌, map}
use Rattle.uno_model.specs.Kinds as kd
use Rattle.uno_model.specs.Values.{list, plains, str}
use Rattle.behaviour.proofs.names.names_value.Goals as goal

pub returns : goal.returns
returns c = c.sequence.ensures ∙ ap (λ xs. list kd.str (plains xs)) (c.in_ok-strings.ensures ∙ ap (map str) c.in_ok-names.ensures)
