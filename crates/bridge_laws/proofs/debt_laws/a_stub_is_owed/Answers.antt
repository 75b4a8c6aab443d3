use Rattle.bridge_laws.proofs.DebtLaws.{each_stub_owed}
use Rattle.bridge_laws.proofs.debt_laws.a_stub_is_owed.Goals as goal

pub returns : goal.returns
returns c = λ g es x p leads up. each_stub_owed g es x leads up p
