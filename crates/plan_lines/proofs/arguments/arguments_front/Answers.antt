use Rattle.std.proofs.Common.{map, ap}
use Rattle.plan_lines.specs.Terms.{term_of}
use Rattle.plan_lines.proofs.TermLemmas.{first_arguments}
use Rattle.plan_lines.proofs.arguments.arguments_front.Goals as goal

pub returns-in-Ok : goal.returns-in-Ok
returns-in-Ok c = first_arguments c.args.words.now c.args.bytes.now _ c.in-Some.first.now _ _ c.in-Ok.rest.now c.in-Some.ensures.cases.0 c.if-first-eq41.false (ap (map term_of) c.new-arguments.ensures.items) c.in-Ok.ensures
