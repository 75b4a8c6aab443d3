use Rattle.world_laws.proofs.CarriedLaws.{whole_met}
use Rattle.world_laws.proofs.history_laws.every_history_is_a_run_of_messages.Goals as goal

pub returns-clause-met : goal.returns-clause-met
returns-clause-met c g ready es well w runs = (whole_met g ready es well w runs).met

pub returns-clause-there : goal.returns-clause-there
returns-clause-there c g ready es well w runs = (whole_met g ready es well w runs).there

pub returns-clause-back : goal.returns-clause-back
returns-clause-back c g ready es well w runs = (whole_met g ready es well w runs).back
