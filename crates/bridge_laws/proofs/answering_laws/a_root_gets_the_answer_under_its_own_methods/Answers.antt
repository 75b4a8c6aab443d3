use Rattle.bridge_laws.proofs.ServingLaws.{fate_root, roots_under}
use Rattle.bridge_laws.proofs.answering_laws.a_root_gets_the_answer_under_its_own_methods.Goals as goal

pub returns-clause-statement : goal.returns-clause-statement
returns-clause-statement c g tid method root fs e t a is = fate_root g tid method root fs e t a is

pub returns-clause-message : goal.returns-clause-message
returns-clause-message c reg tid a b fs root is = roots_under reg tid a b fs root is
