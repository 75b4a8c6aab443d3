use Rattle.bridge_laws.proofs.StackShapes.{threads_are, stacks_are_apart}
use Rattle.bridge_laws.proofs.stack_laws.a_stack_is_a_roots_or_the_peers.Goals as goal

pub returns-clause-thread : goal.returns-clause-thread
returns-clause-thread c = threads_are

pub returns-clause-one : goal.returns-clause-one
returns-clause-one c = stacks_are_apart
