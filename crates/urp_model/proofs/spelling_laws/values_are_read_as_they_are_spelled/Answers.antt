use Rattle.urp_model.proofs.ValueLaws.{value_agrees}
use Rattle.urp_model.proofs.spelling_laws.values_are_read_as_they_are_spelled.Goals as goal

pub returns : goal.returns
returns c = λ levels reg k s sound. value_agrees levels reg sound.named k s
