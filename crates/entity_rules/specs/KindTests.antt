-- The tests of the types that an entity writes.
use Rattle.std.specs.Prelude.{Bool}
use Rattle.uno_model.specs.Kinds.{Kind}
use Rattle.uno_model.specs.Sound.{kind_known, is_value, elements_storable, is_target, is_namable}
use Rattle.uno_model.specs.Registry.{IsRising}
use Rattle.uno_entities.specs.Entities.{entities_of}
use Rattle.entity_rules.specs.declared.types.KindTest.{KindTest}
use Rattle.entity_rules.specs.declared.types.KindTest.TheVariants as test

-- what the test asks of a type
abbrev pub passes : KindTest → Kind → Bool
passes (test.Known entities) = kind_known (entities_of entities.now)
passes test.Value = is_value
passes test.Result = elements_storable
passes test.Target = is_target
passes test.Namable = is_namable

-- the entities that are asked rise
abbrev pub IsAskable : KindTest → Type 0
IsAskable (test.Known entities) = IsRising (entities_of entities.now)
IsAskable _ = Unit
