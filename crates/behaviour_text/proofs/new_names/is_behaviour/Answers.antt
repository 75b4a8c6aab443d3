use Rattle.std.proofs.Common.{◌∙◌}
use Rattle.std.specs.Str.{bytes_eq}
use Rattle.plan_model.specs.Contexts.{behaviours_before}
use Rattle.plan_model.specs.Plans as plain
use Rattle.plan_checks.proofs.FindLemmas.{any_place}
use Rattle.plan_checks.specs.Contexts.{context_of}
use Rattle.behaviour_text.proofs.new_names.is_behaviour.Goals as goal

pub returns : goal.returns
returns c = rw (← c.as_str.ensures) (c.is_behaviour_known.ensures ∙ any_place (λ (b : plain.Behaviour). bytes_eq c.as_str.result.now b.name) (behaviours_before (context_of c.args.context.now)))
