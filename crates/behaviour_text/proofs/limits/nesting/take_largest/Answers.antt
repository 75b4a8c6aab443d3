use Rattle.std.proofs.Common.{reverse, sym, ◌∙◌, arith}
use Rattle.behaviour_text.proofs.NestingLemmas.{drop_end, largest_end, taken_on, taken_rest}
use Rattle.behaviour_text.proofs.limits.nesting.take_largest.Goals as goal

pub loop-left-preserved : goal.loop-left-preserved
loop-left-preserved c =
    record {
      depth = taken_on (λ l. l.depth) _ _ _ _ _ _ _ c.loop-left-test.true c.in-Some.ensures.items c.max-depth.ensures c.loop-left.invariant.depth;
      parentheses = taken_on (λ l. l.parentheses) _ _ _ _ _ _ _ c.loop-left-test.true c.in-Some.ensures.items c.max-parentheses.ensures c.loop-left.invariant.parentheses;
      rest = taken_rest _ _ _ _ _ c.loop-left-test.true c.in-Some.ensures.items c.loop-left.invariant.rest;
      enough = omega (arith, c.loop-left-test.true, c.loop-left.invariant.enough, c.in-Some.ensures.cases);
    }

pub returns-clause-depth : goal.returns-clause-depth
returns-clause-depth c = sym (largest_end _ _ _ (omega (arith, c.loop-left-test.false))) ∙ c.loop-left.invariant.depth

pub returns-clause-parentheses : goal.returns-clause-parentheses
returns-clause-parentheses c = sym (largest_end _ _ _ (omega (arith, c.loop-left-test.false))) ∙ c.loop-left.invariant.parentheses

pub returns-clause-rest : goal.returns-clause-rest
returns-clause-rest c = sym (drop_end c.loop-left.left (reverse c.loop-left.levels.items) (omega (arith, c.loop-left-test.false))) ∙ c.loop-left.invariant.rest
