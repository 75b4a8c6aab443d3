use Rattle.std.proofs.Common.{rules, ap, ◌∙◌}
use Rattle.plan_model.specs.Plans.{faces_of, supports}
use Rattle.plan_types.specs.Plans.{plan_of}
use Rattle.bridge_core.proofs.GivingLemmas.{made_supported, may_make, no_manager, no_manager_made}
use Rattle.bridge_core.proofs.giving.may_make.Goals as goal

pub returns-then-behaviour-eq-MANAGER : goal.returns-then-behaviour-eq-MANAGER
returns-then-behaviour-eq-MANAGER c = no_manager_made c.args.registry.now (plan_of c.args.plan.now) c.args.behaviour c.args.wanted.now c.if-behaviour-eq-MANAGER.true

pub returns : goal.returns
returns c = (
  λ there. (
    no_manager c.args.behaviour c.if-behaviour-eq-MANAGER.false,
    may_make c.args.registry.now (plan_of c.args.plan.now) c.args.behaviour c.args.wanted.now (search rules) (search rules) (search rules),
  ),
  λ both. c.supports.ensures ∙ ap (supports c.args.registry.now (faces_of (plan_of c.args.plan.now) c.args.behaviour)) c.as_str-2.ensures
      ∙ made_supported c.args.registry.now (plan_of c.args.plan.now) c.args.behaviour c.args.wanted.now (search rules) both.1,
)
