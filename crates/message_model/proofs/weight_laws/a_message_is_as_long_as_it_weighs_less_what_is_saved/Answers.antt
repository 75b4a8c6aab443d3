use Rattle.message_model.proofs.SavingLaws.{value_saves, message_saves, nothing_saved}
use Rattle.message_model.proofs.weight_laws.a_message_is_as_long_as_it_weighs_less_what_is_saved.Goals as goal

pub returns-clause-value : goal.returns-clause-value
returns-clause-value c = value_saves

pub returns-clause-message : goal.returns-clause-message
returns-clause-message c = message_saves

pub returns-clause-nothing : goal.returns-clause-nothing
returns-clause-nothing c = nothing_saved
