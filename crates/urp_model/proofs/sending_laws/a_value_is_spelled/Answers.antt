use Rattle.urp_model.proofs.SentLaws.{value_sent}
use Rattle.urp_model.proofs.SizeLaws.{light_sized}
use Rattle.urp_model.proofs.sending_laws.a_value_is_spelled.Goals as goal

pub returns : goal.returns
returns c = λ reg k v s h sound fits deep light ranged answers. value_sent reg sound.named v 64 k s h deep fits ranged (light_sized reg sound v k fits light) answers
