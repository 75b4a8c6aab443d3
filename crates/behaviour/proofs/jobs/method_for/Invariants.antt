use Rattle.std.specs.Prelude.{◌≡◌, map, drop}
use Rattle.plan_model.specs.Effects.{method_for}
use Rattle.plan_types.specs.Plans.{method_of}
use Rattle.type_registry.specs.Functions.{lent_function}
use Rattle.behaviour.proofs.jobs.method_for.Given as goal

-- no method so far is written for the function
abbrev pub invariant-loop-method : goal.invariant-loop-method
invariant-loop-method l = method_for (lent_function l.function) (map method_of (drop l.method-index l.methods)) ≡ method_for (lent_function l.function) (map method_of l.methods)
