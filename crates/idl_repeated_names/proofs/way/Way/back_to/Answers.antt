use Rattle.std.proofs.Common.{refl, sym, ◌∙◌}
use Rattle.std.proofs.lemmas.Slice.Eq.{bytes_eq-Decides}
use Rattle.idl_repeated_names.proofs.WayLemmas.{all_first, fewer_steps, found_back}
use Rattle.idl_repeated_names.proofs.way.Way.back_to.Goals as goal

pub loop-step-init : goal.loop-step-init
loop-step-init c = record { steps = all_first c.args.self.now.steps.items; twins = refl }

pub returns-then-eq : goal.returns-then-eq
returns-then-eq c = λ there.
    found_back c.args.self.now (record { steps = c.pop.new.self; twins = c.loop-step.self.twins }) c.stand.new.self c.loop-step.self.steps.items c.in-Some.step c.args.name.now
    c.loop-step.invariant.steps c.in-Some.ensures.items c.loop-step.invariant.twins ((bytes_eq-Decides c.in-Some.step.name.now c.args.name.now).0 (sym c.eq.ensures ∙ c.if-eq.true)) c.in_ok-stand.ensures

pub loop-step-preserved : goal.loop-step-preserved
loop-step-preserved c = record {
  steps = fewer_steps c.args.self.now.steps.items c.loop-step.self.steps.items c.pop.new.self.items c.in-Some.step c.loop-step.invariant.steps c.in-Some.ensures.items;
  twins = c.loop-step.invariant.twins;
}
