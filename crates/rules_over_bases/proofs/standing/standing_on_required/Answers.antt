use Rattle.std.proofs.Common.{sym, subst, ◌∙◌}
use Rattle.uno_entities.specs.Entities.{entities_of}
use Rattle.rules_over_bases.specs.Standing.{IsStanding}
use Rattle.rules_over_bases.proofs.StandingLemmas.{optional_first, required_first, no_bases}
use Rattle.rules_over_bases.proofs.standing.standing_on_required.Goals as goal

pub returns-then-not-base : goal.returns-then-not-base
returns-then-not-base c =
    subst (λ bs. IsStanding (entities_of c.args.entities.now) bs c.standing_on_first.result) (sym (required_first _ _ _ c.in-Some.ensures.cases.0) ∙ c.loop-base.invariant)
    c.standing_on_first.ensures

pub loop-base-preserved : goal.loop-base-preserved
loop-base-preserved c = sym (optional_first _ _ _ c.in-Some.ensures.cases.0 c.if-not-base.false) ∙ c.loop-base.invariant

pub returns : goal.returns
returns c = sym c.loop-base.invariant ∙ no_bases _ c.in_default.ensures.cases
