use Rattle.behaviour.specs.Roots.{run_of}
use Rattle.bridge_core.proofs.RunAtLemmas.{run_behind}
use Rattle.bridge_core.proofs.stepping.root_step.Goals as goal

pub returns-clause-stands : goal.returns-clause-stands
returns-clause-stands c = run_behind c.args.end.now c.know_history.ensures c.step.new.end (run_of c.args.run.now) (run_of c.step.new.run) c.step.result c.step.ensures.step c.requires
