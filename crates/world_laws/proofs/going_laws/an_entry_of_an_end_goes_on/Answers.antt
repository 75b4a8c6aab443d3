use Rattle.world_laws.proofs.GoingOn.{a_goes_on, b_goes_on}
use Rattle.world_laws.proofs.going_laws.an_entry_of_an_end_goes_on.Goals as goal

pub returns-clause-a : goal.returns-clause-a
returns-clause-a c = a_goes_on

pub returns-clause-b : goal.returns-clause-b
returns-clause-b c = b_goes_on
