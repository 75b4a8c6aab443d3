use Rattle.plan_model.specs.Contexts.{parameters}
use Rattle.std.specs.Prelude.{drop, map, ◌++◌, ◌+◌, ◌≡◌}
use Rattle.uno_entities.specs.Entities.{param_of}
use Rattle.behaviour_text.proofs.building.parameters.Given as goal

abbrev pub invariant-loop-param : goal.invariant-loop-param
invariant-loop-param l = l.variables ++ parameters (map param_of (drop l.param-index l.params)) ≡ parameters (map param_of l.params)
