use Rattle.std.proofs.Common.{refl}
use Rattle.behaviour.specs.Roots.{run_of}
use Rattle.bridge_endpoint.specs.Journals.{setting_at, side_at}
use Rattle.bridge_core.proofs.AskLemmas.{waits_so}
use Rattle.bridge_core.proofs.stepping.step.Goals as goal

pub returns-in-Waits-clause-step : goal.returns-in-Waits-clause-step
returns-in-Waits-clause-step c = (waits_so (setting_at c.args.end.now) (side_at c.args.end.now) (run_of c.args.run.now) c.in-Waits.ensures, refl, refl)
