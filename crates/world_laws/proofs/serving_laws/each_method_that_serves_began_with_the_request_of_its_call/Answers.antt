use Rattle.world_laws.proofs.ServedRuns.{each_serves_a, each_serves_b}
use Rattle.world_laws.proofs.serving_laws.each_method_that_serves_began_with_the_request_of_its_call.Goals as goal

pub returns-clause-a : goal.returns-clause-a
returns-clause-a c = each_serves_a

pub returns-clause-b : goal.returns-clause-b
returns-clause-b c = each_serves_b
