use Rattle.std.proofs.Common.{sym, ap, ◌∙◌, arith}
use Rattle.std.specs.Str.{bytes_eq}
use Rattle.plan_model.specs.Plans as plain
use Rattle.plan_types.specs.Plans.{behaviour_of}
use Rattle.plan_types.specs.declared.plan.Behaviour.{Behaviour}
use Rattle.plan_checks.proofs.FindLemmas.{position_map, place_begins, place_here, place_later, place_nowhere}
use Rattle.plan_checks.proofs.behaviours.place_of.Goals as goal

pub loop-place-init : goal.loop-place-init
loop-place-init c = place_begins (λ (b : Behaviour). bytes_eq c.args.name.now b.name) c.args.behaviours.now

pub returns-then-eq : goal.returns-then-eq
returns-then-eq c =
    place_here (λ (b : Behaviour). bytes_eq c.args.name.now b.name) c.args.behaviours.now c.loop-place.place c.index-behaviours-place.result _ (omega arith)
    (ap (bytes_eq c.args.name.now) (sym c.as_str.ensures) ∙ sym c.eq.ensures ∙ c.if-eq.true) c.loop-place.invariant
    ∙ sym (position_map (λ (b : plain.Behaviour). bytes_eq c.args.name.now b.name) behaviour_of c.args.behaviours.now)

pub loop-place-preserved : goal.loop-place-preserved
loop-place-preserved c =
    place_later (λ (b : Behaviour). bytes_eq c.args.name.now b.name) c.args.behaviours.now c.loop-place.place c.index-behaviours-place.result _ (omega arith)
    (ap (bytes_eq c.args.name.now) (sym c.as_str.ensures) ∙ sym c.eq.ensures ∙ c.if-eq.false) c.loop-place.invariant

pub returns : goal.returns
returns c =
    place_nowhere (λ (b : Behaviour). bytes_eq c.args.name.now b.name) c.args.behaviours.now c.loop-place.place _ (omega arith) c.loop-place.invariant
    ∙ sym (position_map (λ (b : plain.Behaviour). bytes_eq c.args.name.now b.name) behaviour_of c.args.behaviours.now)
