use Rattle.std.proofs.Common.{arith}
use Rattle.plan_checks.proofs.MakingLemmas.{last_left, last_taken}
use Rattle.plan_checks.proofs.typing.making.take_last.Goals as goal

pub returns-clause-all : goal.returns-clause-all
returns-clause-all c = last_taken c.args.made.now.items c.args.count _ c.requires (omega (arith, c.requires)) _ c.in_ok-all.ensures.tail

pub returns-clause-rest : goal.returns-clause-rest
returns-clause-rest c = last_left c.args.made.now.items c.args.count _ c.requires (omega (arith, c.requires)) _ c.in_ok-all.ensures.items
