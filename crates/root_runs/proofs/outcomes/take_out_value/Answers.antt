use Rattle.behaviour.specs.Roots.{run_of}
use Rattle.frame_variables.specs.Given.{left}
use Rattle.root_runs.proofs.OutsLemmas.{out_put}
use Rattle.root_runs.proofs.outcomes.take_out_value.Goals as goal

pub returns-in-Out-clause-taken : goal.returns-in-Out-clause-taken
returns-in-Out-clause-taken c = λ args.
    out_put c.args.argument.now c.in-Out.name args (left c.args.given.now) (left c.put_next.new.given) (run_of c.args.run.now) (run_of c.put_next.new.run) c.in-Out.is c.put_next.ensures.rest c.put_next.ensures.put
