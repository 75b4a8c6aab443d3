use Rattle.std.proofs.Common.{ap, ◌∙◌}
use Rattle.plan_model.specs.Plans.{supports}
use Rattle.plan_types.specs.Plans.{plan_of}
use Rattle.bridge_setting.proofs.SupportLemmas.{manager_supports, behaviour_supports}
use Rattle.bridge_setting.proofs.supporting.supports.Goals as goal

pub returns-then-behaviour-eq-MANAGER : goal.returns-then-behaviour-eq-MANAGER
returns-then-behaviour-eq-MANAGER c =
    manager_supports c.args.registry.now (plan_of c.args.plan.now) c.args.behaviour c.args.wanted.now _ c.if-behaviour-eq-MANAGER.true c.is_base_of.ensures

pub returns : goal.returns
returns c =
    behaviour_supports c.args.registry.now (plan_of c.args.plan.now) c.args.behaviour c.args.wanted.now _ c.if-behaviour-eq-MANAGER.false
    (c.is_reached.ensures ∙ ap (λ faces. supports c.args.registry.now faces c.args.wanted.now) c.faces_in.ensures)
