use Rattle.std.proofs.Common.{◌≡◌, ◌++◌, sym, ap, ◌∙◌}
use Rattle.uno_model.specs.Registry.{stands_on}
use Rattle.uno_types.specs.NearBases.{names_in}
use Rattle.uno_types.proofs.NearLemmas.{walk_begins, walk_goes_on, walk_finds, names_popped}
use Rattle.uno_types.proofs.near_bases.near_base.Goals as goal

pub steps-init : goal.steps-init
steps-init c =
    walk_begins c.args.registry.now c.args.to.now c.args.from.now _ _ (sym c.eq.ensures ∙ c.if-eq.false) (ap names_in c.new-pending.ensures) c.if-not-push_bases.ensures

pub returns-then-eq-2 : goal.returns-then-eq-2
returns-then-eq-2 c =
    let popped = names_popped _ _ _ _ _ c.pop.ensures.items c.in-Some.is c.in_ok-name.was in
    walk_finds c.args.registry.now c.args.to.now _ _ _ _ c.steps.invariant popped (rw c.as_str.ensures at (sym c.eq-in-steps.ensures ∙ c.if-eq-2.true))

pub steps-preserved : goal.steps-preserved
steps-preserved c =
    let popped = names_popped _ _ _ _ _ c.pop.ensures.items c.in-Some.is c.in_ok-name.was in
    let rest = names_in c.pop.new.self.items in
    let pushed : names_in c.push_bases-in-steps.new.pending.items ≡ rest ++ stands_on c.args.registry.now c.as_str-in-steps.result.now =
    c.if-not-push_bases-2.ensures in
    walk_goes_on c.args.registry.now c.args.to.now _ _ _ _ _ c.steps.invariant popped (rw c.as_str.ensures at (sym c.eq-in-steps.ensures ∙ c.if-eq-2.false))
    (pushed ∙ ap (λ n. rest ++ stands_on c.args.registry.now n) c.as_str-in-steps.ensures)
