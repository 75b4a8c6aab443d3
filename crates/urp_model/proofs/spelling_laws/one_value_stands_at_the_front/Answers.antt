use Rattle.urp_model.specs.Agreement.{triple}
use Rattle.urp_model.proofs.FrontLaws.{triple_maker, one_front}
use Rattle.urp_model.proofs.ValueLaws.{value_agrees}
use Rattle.urp_model.proofs.spelling_laws.one_value_stands_at_the_front.Goals as goal

pub returns : goal.returns
returns c = λ levels reg k s t u x y b d e f sound first second same.
    let one = one_front triple triple_maker (value_agrees levels reg sound.named k s) (x, t) (y, u) b d e f first second same in
    ((λ i. (one.0 i).0), one.1, (λ i. (one.0 i).1), one.2)
