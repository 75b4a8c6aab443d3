use Rattle.bridge_laws.proofs.DebtLaws.{debt_is}
use Rattle.bridge_laws.proofs.debt_laws.what_was_sent_is_released_or_owed.Goals as goal

pub returns : goal.returns
returns c = debt_is
