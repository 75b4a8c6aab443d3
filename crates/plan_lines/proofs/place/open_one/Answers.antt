use Rattle.std.proofs.Common.{◌∙◌, ap}
use Rattle.plan_lines.specs.Opened.{opened}
use Rattle.plan_lines.proofs.StepLemmas.{opened_more}
use Rattle.plan_lines.proofs.place.open_one.Goals as goal

pub returns-clause-stack : goal.returns-clause-stack
returns-clause-stack c = ap opened c.in_ok-push.ensures.items ∙ opened_more c.args.stack.now.items c.args.one
