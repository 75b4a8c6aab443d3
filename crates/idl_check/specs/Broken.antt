-- Where declarations break a rule that is asked of each by itself.
use Rattle.std.specs.Prelude.{ℤ, List, map, Option}
use Rattle.idl_entities.specs.Telling.{Telling, valued_told}
use Rattle.idl_meaning_model.specs.ConstantsMeant.{value_meant}
use Rattle.idl_meaning_model.specs.Declarations.{all_valued}
use Rattle.idl_model.specs.Places.{Place}
use Rattle.idl_rules_model.specs.CheckVerdicts.{broken_by}
use Rattle.registry_text_model.specs.Rules.{Rule}
use Rattle.uno_model.specs.Entities.{Entity}

-- where a declaration that is told breaks a rule, in the registry of all
abbrev pub broken_told : Rule → List Entity → Telling → List Place
broken_told r reg t = broken_by r t.all reg t.declared

-- the values of its constants or items
abbrev pub values_told : Telling → List (Option ℤ)
values_told t = map (value_meant (all_valued t.all)) (valued_told t)
