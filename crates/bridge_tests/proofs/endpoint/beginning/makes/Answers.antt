use Rattle.std.proofs.Common.{subst}
use Rattle.bridge_endpoint.specs.Journals.{setting_at}
use Rattle.plan_typing.specs.Effects.{MakingFits}
use Rattle.bridge_tests.proofs.endpoint.beginning.makes.Goals as goal

pub returns : goal.returns
returns c = λ root there.
    subst (λ reg. MakingFits reg (setting_at c.args.end.now).plan c.args.behaviour c.args.wanted.now) c.registry.ensures.same
    (subst (λ plan. MakingFits c.registry.result.now plan c.args.behaviour c.args.wanted.now) c.plan.ensures (c.may_make.ensures.0 there).1)
