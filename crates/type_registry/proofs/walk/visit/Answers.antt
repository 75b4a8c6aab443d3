use Rattle.std.proofs.Common.{refl, sym, ◌∙◌, arith}
use Rattle.std.proofs.lemmas.Result.{on_ok_weaker}
use Rattle.type_registry.proofs.TaskLemmas.{nothing_done, over_none, was_met, some_cost, bases_first, costs_less, popped}
use Rattle.type_registry.proofs.walk.visit.Goals as goal

pub returns-in_default-clause-done : goal.returns-in_default-clause-done
returns-in_default-clause-done c = nothing_done _ _ _ _ _ _ refl (over_none _ _ _ _ (omega (arith, c.in_default.ensures)))

pub returns-in_default-clause-less : goal.returns-in_default-clause-less
returns-in_default-clause-less c = omega (arith, some_cost c.args.registry.now c.args.levels c.args.name.now)

pub returns-then-has-clause-done : goal.returns-then-has-clause-done
returns-then-has-clause-done c = nothing_done _ _ _ _ _ _ refl (was_met _ _ _ _ (omega (arith, c.in-Some.ensures.0)) (sym c.has.ensures ∙ c.if-has.true))

pub returns-then-has-clause-less : goal.returns-then-has-clause-less
returns-then-has-clause-less c = omega (arith, some_cost c.args.registry.now c.args.levels c.args.name.now)

pub returns-clause-done : goal.returns-clause-done
returns-clause-done c =
    on_ok_weaker _ (bases_first _ _ _ _ _ _ _ _ (omega (arith, c.in-Some.ensures.0, c.in-Some.ensures.1)) (sym c.has.ensures ∙ c.if-has.false)
    (popped _ _ _ _ c.in_ok-push.ensures.items refl)) c.push_visits.ensures

pub returns-clause-less : goal.returns-clause-less
returns-clause-less c =
    on_ok_weaker _ (costs_less _ _ _ _ _ _ _ (omega (arith, c.in-Some.ensures.0, c.in-Some.ensures.1)) (popped _ _ _ _ c.in_ok-push.ensures.items refl)) c.push_visits.ensures
