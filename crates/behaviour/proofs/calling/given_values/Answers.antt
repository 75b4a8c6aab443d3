use Rattle.behaviour.proofs.GivingLemmas.{given_done}
use Rattle.behaviour.proofs.calling.given_values.Goals as goal

pub returns : goal.returns
returns c = given_done _ c.args.arguments.now c.loop-argument.argument-index _ _ c.loop-argument-test.false c.loop-argument.invariant
