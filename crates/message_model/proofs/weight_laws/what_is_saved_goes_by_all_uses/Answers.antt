use Rattle.message_model.proofs.SavingLaws.{held_by_uses}
use Rattle.message_model.proofs.weight_laws.what_is_saved_goes_by_all_uses.Goals as goal

pub returns : goal.returns
returns c = held_by_uses
