use Rattle.message_model.proofs.MessageNamingLaws.{message_held, message_arrives, message_named, same_address}
use Rattle.message_model.proofs.naming_laws.a_message_names_what_arrives.Goals as goal

pub returns-clause-held : goal.returns-clause-held
returns-clause-held c = message_held

pub returns-clause-arrives : goal.returns-clause-arrives
returns-clause-arrives c = message_arrives

pub returns-clause-named : goal.returns-clause-named
returns-clause-named c = message_named

pub returns-clause-address : goal.returns-clause-address
returns-clause-address c = same_address
