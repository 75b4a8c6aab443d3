use Rattle.std.proofs.Common.{[], ◌∷◌, sym, ap, subst, ◌∙◌}
use Rattle.uno_entities.specs.Entities.{entities_of}
use Rattle.rules_over_bases.specs.Standing.{IsStanding}
use Rattle.rules_over_bases.proofs.StandingLemmas.{first_alone}
use Rattle.rules_over_bases.proofs.standing.standing_on_first.Goals as goal

pub returns : goal.returns
returns c =
    subst (λ bs. IsStanding (entities_of c.args.entities.now) bs c.standing_on.result)
    (ap (λ n. n ∷ []) c.as_str.ensures ∙ sym (first_alone c.args.base.now c.args.behind.now c.requires.required (sym c.all_optional.ensures ∙ c.if-not-all_optional.false)))
    c.standing_on.ensures
