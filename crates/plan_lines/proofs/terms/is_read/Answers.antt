use Rattle.std.proofs.Common.{ap}
use Rattle.plan_lines.specs.Opened.{place_of}
use Rattle.plan_lines.proofs.LoopLemmas.{read_if_empty}
use Rattle.plan_lines.proofs.terms.is_read.Goals as goal

pub returns-in-After : goal.returns-in-After
returns-in-After c = read_if_empty (place_of c.args.place) _ c.args.stack.now c.is_empty.result (ap place_of c.in-After.is) c.is_empty.ensures
