use Rattle.urp_model.proofs.NamingLaws.{held, arrives, named}
use Rattle.urp_model.proofs.naming_laws.a_value_names_what_arrives.Goals as goal

pub returns-clause-held : goal.returns-clause-held
returns-clause-held c = held

pub returns-clause-arrives : goal.returns-clause-arrives
returns-clause-arrives c = arrives

pub returns-clause-named : goal.returns-clause-named
returns-clause-named c = named
