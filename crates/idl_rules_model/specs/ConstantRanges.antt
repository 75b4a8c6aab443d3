-- The seventh rule: a constant is of type boolean, byte or one of the six other whole types, and its expression has a value in the range of that; at its name.
use Rattle.std.specs.Prelude.{List, []}
use Rattle.uno_model.specs.Entities.{Entity}
use Rattle.registry_text_model.specs.ConstantValues.{is_in_range}
use Rattle.idl_model.specs.Places.{Place}
use Rattle.idl_model.specs.Trees.{Constant, Declaration, constants}
use Rattle.idl_meaning_model.specs.Declarations.{Declared, all_valued, constant_valued}
use Rattle.idl_meaning_model.specs.ConstantsMeant.{value_meant}
use Rattle.idl_meaning_model.specs.Meaning.{type_meant}
use Rattle.idl_rules_model.specs.ItemValues.{passes}
use Rattle.idl_rules_model.specs.WherePaths.{failing}

abbrev pub constants_in : Declaration → List Constant
constants_in (constants cs) = cs
constants_in _ = []

unfoldable pub wrong_constants : List Declared → List Entity → Declared → List Place
wrong_constants ds reg d =
    failing (λ c. passes (is_in_range (type_meant ds d.modules c.type)) (value_meant (all_valued ds) (constant_valued d c))) (λ c. c.name.place) (constants_in d.body)
