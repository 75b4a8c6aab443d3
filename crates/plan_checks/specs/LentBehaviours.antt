-- Behaviours that are lent, as plain trees.
use Rattle.std.specs.Prelude.{List, [], ◌∷◌, map, Option, None, Some}
use Rattle.plan_model.specs.Plans as plain
use Rattle.plan_types.specs.Plans.{method_of}
use Rattle.uno_entities.specs.Entities.{field_of}
use Rattle.plan_checks.specs.declared.behaviours.BehaviourRef.{BehaviourRef}

abbrev pub lent_behaviour : BehaviourRef → plain.Behaviour
lent_behaviour b = record { name = b.name.now; faces = b.faces.now; fields = map field_of b.fields.now; methods = map method_of b.methods.now }

-- what is there, or nothing
abbrev pub listed : {X : Type 0} → Option X → List X
listed None = []
listed (Some x) = x ∷ []
