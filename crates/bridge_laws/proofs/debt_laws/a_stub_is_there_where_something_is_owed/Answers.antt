use Rattle.bridge_laws.proofs.DebtLaws.{stub_where}
use Rattle.bridge_laws.proofs.debt_laws.a_stub_is_there_where_something_is_owed.Goals as goal

pub returns : goal.returns
returns c = stub_where
