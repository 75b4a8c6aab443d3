use Rattle.urp_model.proofs.SentLaws.{value_sent}
use Rattle.urp_model.proofs.SizeLaws.{light_sized}
use Rattle.urp_model.proofs.ValueLaws.{value_agrees}
use Rattle.urp_model.specs.Carried.{carried}
use Rattle.urp_model.specs.Writing.{spelling}
use Rattle.urp_model.proofs.sending_laws.a_value_is_read_again.Goals as goal

pub returns : goal.returns
returns c = λ reg k v s h rest sound fits deep light ranged answers.
    let sent = value_sent reg sound.named v 64 k s h deep fits ranged (light_sized reg sound v k fits light) answers in
    (sent.0, (value_agrees 64 reg sound.named k s).complete (carried reg v k, sent.0) (spelling v h) rest sent.1, sent.2)
