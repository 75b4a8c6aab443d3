use Rattle.plan_checks.specs.LentBehaviours.{lent_behaviour}
use Rattle.plan_model.specs.Fitting.{serves}
use Rattle.std.specs.List.{list_all}
use Rattle.std.specs.Prelude.{drop, map, ◌≡◌}
use Rattle.uno_entities.specs.Entities.{constructor_of}
use Rattle.plan_checks.proofs.fitting.serves_each.Given as goal

abbrev pub invariant-loop-constructor : goal.invariant-loop-constructor
invariant-loop-constructor l = list_all (serves (lent_behaviour l.behaviour)) (map constructor_of (drop l.constructor-index l.constructors)) ≡ list_all (serves (lent_behaviour l.behaviour)) (map constructor_of l.constructors)
