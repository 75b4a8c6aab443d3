use Rattle.urp_model.specs.Agreement.{triple}
use Rattle.urp_model.proofs.FrontLaws.{triple_maker, short_front}
use Rattle.urp_model.proofs.ValueLaws.{value_agrees}
use Rattle.urp_model.proofs.spelling_laws.a_front_of_a_spelling_is_short.Goals as goal

pub returns : goal.returns
returns c = λ levels reg k s t x front back sound spelled some.
    short_front triple triple_maker (value_agrees levels reg sound.named k s) front back (x, t) spelled some
