use Rattle.std.proofs.Common.{sym, ◌∙◌}
use Rattle.rules_over_bases.proofs.FewLemmas.{twins_in_front, one_less, none_left}
use Rattle.rules_over_bases.proofs.named.few_differ.Goals as goal

pub returns-then-is_among : goal.returns-then-is_among
returns-then-is_among g c =
    twins_in_front g.T.Named.named c.args.things.now _ _ _ _ c.in-Some.ensures.cases.0 c.name.ensures (sym c.is_among.ensures ∙ c.if-is_among.true) c.loop-first.invariant

pub loop-first-preserved : goal.loop-first-preserved
loop-first-preserved g c =
    one_less g.T.Named.named c.args.things.now _ _ _ _ c.in-Some.ensures.cases.0 c.name.ensures (sym c.is_among.ensures ∙ c.if-is_among.false) c.loop-first.invariant

pub returns : goal.returns
returns g c = none_left g.T.Named.named c.args.things.now _ c.in_default.ensures.cases c.loop-first.invariant
