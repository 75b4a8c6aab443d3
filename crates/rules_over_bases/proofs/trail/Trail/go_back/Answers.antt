use Rattle.std.proofs.Common.{subst}
use Rattle.rules_over_bases.specs.Seen.{TakesBack}
use Rattle.rules_over_bases.proofs.TrailLemmas.{fewer_steps, found_back, last_read}
use Rattle.rules_over_bases.proofs.trail.Trail.go_back.Goals as goal

pub returns-then-step-place : goal.returns-then-step-place
returns-then-step-place c =
    found_back c.args.self.now (record { steps = c.loop-step.self.steps; seen = c.take_back.new.self }) _ c.in-Some.step c.args.place c.loop-step.invariant.steps
    (last_read c.loop-step.self.steps.items c.deref.result.now _ c.in-Some.step c.deref.ensures.value c.last.ensures.value c.in-Some.ensures) c.if-step-place.true
    (subst (λ s. TakesBack s c.take_back.new.self c.in-Some.step.names) c.loop-step.invariant.seen c.take_back.ensures)

pub loop-step-preserved : goal.loop-step-preserved
loop-step-preserved c = record { steps = fewer_steps _ _ _ _ c.loop-step.invariant.steps c.pop.ensures.items; seen = c.loop-step.invariant.seen }
