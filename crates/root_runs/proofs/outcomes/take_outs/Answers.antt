use Rattle.std.proofs.Common.{map}
use Rattle.behaviour.specs.Roots.{run_of}
use Rattle.bridge_model.specs.RootRuns.{puts_outs}
use Rattle.frame_variables.specs.Given.{left}
use Rattle.plan_types.specs.Expressions.{argument_of}
use Rattle.uno_values.specs.Values.{plain_of}
use Rattle.root_runs.proofs.OutsLemmas.{outs_done}
use Rattle.root_runs.proofs.outcomes.take_outs.Goals as goal

pub returns-clause-taken : goal.returns-clause-taken
returns-clause-taken c =
    outs_done c.args.arguments.now c.loop-argument.argument-index (left c.loop-argument.given) (run_of c.loop-argument.run)
    (puts_outs (map argument_of c.args.arguments.now) (map plain_of c.args.outs.items) (run_of c.args.run.now)) c.loop-argument-test.false c.loop-argument.invariant.taken
