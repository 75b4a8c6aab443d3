use Rattle.std.proofs.Common.{◌≡◌, ◌∙◌, arith, subst}
use Rattle.idl_types.specs.Bodies.{bodies_of, steps_below, told_at}
use Rattle.idl_types.proofs.StepLemmas.{next_step, no_steps}
use Rattle.idl_types.proofs.ends.steps.Goals as goal

pub loop-number-init : goal.loop-number-init
loop-number-init c = c.new-steps.ensures.items ∙ no_steps (told_at c.args.told.now) (bodies_of c.args.all.now) c.args.table.now

pub loop-number-preserved : goal.loop-number-preserved
loop-number-preserved c =
    next_step (told_at c.args.told.now) (bodies_of c.args.all.now) c.args.table.now c.loop-number.number c.loop-number.steps.items c.push.new.self.items c.step.result
    c.loop-number.invariant c.in_ok-push.ensures.items c.step.ensures

pub returns : goal.returns
returns c =
    let end : c.loop-number.number ≡ c.args.count = omega (arith, c.loop-number-test.false, c.loop-number.auto.number-end) in
    subst (λ n. c.loop-number.steps.items ≡ steps_below (told_at c.args.told.now) (bodies_of c.args.all.now) c.args.table.now n) end c.loop-number.invariant
