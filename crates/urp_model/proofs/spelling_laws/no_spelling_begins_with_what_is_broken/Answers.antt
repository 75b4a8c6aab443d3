use Rattle.urp_model.specs.Agreement.{triple}
use Rattle.urp_model.proofs.FrontLaws.{triple_maker, none_spelled}
use Rattle.urp_model.proofs.ValueLaws.{value_agrees}
use Rattle.urp_model.proofs.spelling_laws.no_spelling_begins_with_what_is_broken.Goals as goal

pub returns : goal.returns
returns c = λ levels reg k s t x bytes more used rest reason sound broken spelled same.
    none_spelled triple triple_maker (value_agrees levels reg sound.named k s) bytes more used rest reason (x, t) broken spelled same
