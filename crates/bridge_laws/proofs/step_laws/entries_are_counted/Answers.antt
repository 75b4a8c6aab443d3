use Rattle.bridge_laws.proofs.StepLaws.{one_counted, none_counted}
use Rattle.bridge_laws.proofs.step_laws.entries_are_counted.Goals as goal

pub returns-clause-one : goal.returns-clause-one
returns-clause-one c = one_counted

pub returns-clause-none : goal.returns-clause-none
returns-clause-none c = none_counted
