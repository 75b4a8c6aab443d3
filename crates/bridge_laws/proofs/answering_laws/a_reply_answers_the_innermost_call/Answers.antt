use Rattle.bridge_laws.proofs.ServingLaws.{fate_serves, serves_innermost}
use Rattle.bridge_laws.proofs.answering_laws.a_reply_answers_the_innermost_call.Goals as goal

pub returns-clause-statement : goal.returns-clause-statement
returns-clause-statement c g tid method served fs below e t a is = fate_serves g tid method served fs below e t a is

pub returns-clause-message : goal.returns-clause-message
returns-clause-message c reg tid a b fs below served is = serves_innermost reg tid a b fs below served is
