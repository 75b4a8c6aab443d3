use Rattle.bridge_laws.proofs.RaisingLaws.{statement_raises, reply_raises}
use Rattle.bridge_laws.proofs.raising_laws.an_exception_that_a_root_gets_is_one_that_its_call_may_raise.Goals as goal

pub returns-clause-statement : goal.returns-clause-statement
returns-clause-statement c = statement_raises

pub returns-clause-message : goal.returns-clause-message
returns-clause-message c = reply_raises
