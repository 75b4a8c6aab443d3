use Rattle.std.proofs.Common.{rules, sym, ◌∙◌}
use Rattle.plan_lines.proofs.NameLemmas.{type_behind, type_alone}
use Rattle.plan_lines.proofs.types.is_type.Goals as goal

pub loop-behind-preserved : goal.loop-behind-preserved
loop-behind-preserved c = (search rules, sym (type_behind c.loop-behind.rest.now c.in-Some.behind.now c.in-Some.ensures) ∙ c.loop-behind.invariant.1)

pub returns : goal.returns
returns c = c.is_plain_type.ensures ∙ sym (type_alone c.loop-behind.rest.now c.in_default.ensures) ∙ c.loop-behind.invariant.1
