use Rattle.plan_lines.specs.Terms.{term_of}
use Rattle.behaviour_text.proofs.NestingLemmas.{flat_so}
use Rattle.behaviour_text.proofs.limits.is_flat.Goals as goal

pub returns : goal.returns
returns c = flat_so (term_of c.args.term.now) _ _ _ c.are_within.ensures c.in_ok-levels.ensures.depth c.in_ok-levels.ensures.parentheses
