use Rattle.urp_model.proofs.PieceLaws.{kind_is}
use Rattle.urp_model.proofs.sending_laws.a_type_is_spelled.Goals as goal

pub returns : goal.returns
returns c = λ reg k s h sound is answers. kind_is reg s k h sound.named is answers
