use Rattle.urp_model.proofs.WeightLaws.{value_bounded, value_exact}
use Rattle.urp_model.proofs.sending_laws.a_spelling_is_no_longer_than_the_weight.Goals as goal

pub returns : goal.returns
returns c = record { bound = value_bounded; exact = value_exact }
