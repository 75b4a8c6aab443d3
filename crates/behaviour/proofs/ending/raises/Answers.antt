use Rattle.behaviour.proofs.EndingLemmas.{raised_leaves}
use Rattle.behaviour.proofs.ending.raises.Goals as goal
use Rattle.behaviour.specs.Answers.{raised_of}
use Rattle.behaviour.specs.Running.{running_of}

pub returns : goal.returns
returns c =
    raised_leaves c.args.registry.now (running_of c.args.running.now) (raised_of c.in_ok-leaves.leaves) (raised_of c.in_ok-exception.exception) _ (c.in_ok-leaves.ensures c.args.running.now.face.now c.args.running.now.number)
    c.in_ok-exception.ensures
