use Rattle.std.proofs.Common.{sym, ap, ◌∙◌, map, subst, IsSome}
use Rattle.plan_model.specs.Services as plain
use Rattle.plan_types.specs.Frames.{variables_of}
use Rattle.plan_types.specs.Plans.{plan_of, offer_of}
use Rattle.uno_entities.specs.Entities.{field_of}
use Rattle.uno_values.specs.Values.{plain_of}
use Rattle.service_manager.specs.Answers.{IsFresh}
use Rattle.service_manager.proofs.ArgumentLaws.{all_taken_is}
use Rattle.service_manager.proofs.creating.fresh.Goals as goal

pub given-requires : goal.given-requires
given-requires c =
    subst IsSome (all_taken_is c.args.registry.now (map field_of c.args.constructor.now.params.items) c.args.constructor.now.rest (map plain_of c.args.args.now) c.requires.takes) c.requires.takes

pub returns : goal.returns
returns c =
    let reg = c.args.registry.now in
    let taken = all_taken_is reg (map field_of c.args.constructor.now.params.items) c.args.constructor.now.rest (map plain_of c.args.args.now) c.requires.takes ∙ c.in_ok-variables.ensures in
    subst (λ xs. IsFresh reg (plan_of c.args.plan.now) (offer_of c.args.offer.now) xs (plain.fresh c.args.offer.now.behaviour (map plain_of c.in_ok-fields.fields.items))) (sym taken)
    (ap (plain.fresh c.args.offer.now.behaviour) (c.in_ok-fields.ensures ∙ λ i. plain.fields_with reg (variables_of (c.deref.ensures.value i)) (c.fields_of.ensures i)))
