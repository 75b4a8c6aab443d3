use Rattle.std.proofs.Common.{map, ap, ◌∙◌}
use Rattle.std.specs.List.{position}
use Rattle.std.specs.Str.{bytes_eq}
use Rattle.plan_model.specs.Contexts.{open_behaviours}
use Rattle.plan_model.specs.Plans as plain
use Rattle.plan_types.specs.Plans.{behaviour_of}
use Rattle.plan_checks.proofs.FindLemmas.{first_place, then_place}
use Rattle.plan_checks.specs.Contexts.{block_of}
use Rattle.plan_checks.proofs.behaviours.behaviour_number.Goals as goal

pub returns-in-Some : goal.returns-in-Some
returns-in-Some c =
    first_place (λ (b : plain.Behaviour). bytes_eq c.args.name.now b.name) (map behaviour_of c.args.context.now.plan.behaviours.items) (open_behaviours (block_of c.args.context.now.block)) _
    (c.in-Some.ensures ∙ ap (λ bs. position (λ (b : plain.Behaviour). bytes_eq c.args.name.now b.name) (map behaviour_of bs)) c.deref.ensures.value)

pub returns-in-None : goal.returns-in-None
returns-in-None c =
    then_place (λ (b : plain.Behaviour). bytes_eq c.args.name.now b.name) (map behaviour_of c.args.context.now.plan.behaviours.items) (open_behaviours (block_of c.args.context.now.block)) _
    (c.in-None.ensures ∙ ap (λ bs. position (λ (b : plain.Behaviour). bytes_eq c.args.name.now b.name) (map behaviour_of bs)) c.deref.ensures.value) c.open_number.ensures
