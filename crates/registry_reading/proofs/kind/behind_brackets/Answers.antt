use Rattle.std.proofs.Common.{rules, ◌∙◌, sym}
use Rattle.registry_reading.proofs.KindLemmas.{on_rest, on_levels, at_most, no_bracket, kept_levels}
use Rattle.registry_reading.proofs.kind.behind_brackets.Goals as goal

pub loop-behind-preserved : goal.loop-behind-preserved
loop-behind-preserved c = (
  search rules,
  on_rest c.args.text.now c.loop-behind.rest.now c.in-Some.behind.now c.in-Some.ensures c.loop-behind.invariant.1,
  on_levels c.args.text.now c.loop-behind.rest.now c.in-Some.behind.now c.loop-behind.levels c.one_more-levels.result c.in-Some.ensures c.one_more-levels.ensures c.loop-behind.invariant.2,
  at_most _ _ c.one_more-levels.ensures,
)

pub returns-clause-rest : goal.returns-clause-rest
returns-clause-rest c = sym (no_bracket c.loop-behind.rest.now c.in_default.ensures).1 ∙ c.loop-behind.invariant.1

pub returns-clause-levels : goal.returns-clause-levels
returns-clause-levels c = kept_levels _ _ _ c.loop-behind.invariant.2 c.loop-behind.invariant.3 (no_bracket c.loop-behind.rest.now c.in_default.ensures).0
