use Rattle.std.proofs.Common.{sym, ◌∙◌}
use Rattle.uno_model.specs.Reaches.{is_base_of}
use Rattle.behaviour.proofs.RaisingLemmas.{base_behind, base_here, base_nowhere}
use Rattle.behaviour.proofs.exceptions.is_declared.Goals as goal

pub returns-then-has_base : goal.returns-then-has_base
returns-then-has_base c =
    base_here (λ base. is_base_of c.args.registry.now base c.args.name.now) c.args.declared.now c.loop-base.base-index c.base-item.result _ c.loop-base-test.true c.base-item.is
    (rw (← c.as_str.ensures) (sym c.has_base.ensures ∙ c.if-has_base.true)) c.loop-base.invariant

pub loop-base-preserved : goal.loop-base-preserved
loop-base-preserved c =
    base_behind (λ base. is_base_of c.args.registry.now base c.args.name.now) c.args.declared.now c.loop-base.base-index c.base-item.result _ c.loop-base-test.true c.base-item.is
    (rw (← c.as_str.ensures) (sym c.has_base.ensures ∙ c.if-has_base.false)) c.loop-base.invariant

pub returns : goal.returns
returns c = base_nowhere (λ base. is_base_of c.args.registry.now base c.args.name.now) c.args.declared.now c.loop-base.base-index _ c.loop-base-test.false c.loop-base.invariant
