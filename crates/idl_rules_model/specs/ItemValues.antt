-- The sixth rule: an item of an enum has a value, which is one of `long`; at the item's name.
use Rattle.std.specs.Prelude.{ℤ, Bool, false, List, [], Option, None, Some}
use Rattle.uno_model.specs.Entities.{Entity}
use Rattle.registry_text_model.specs.EnumValues.{is_long}
use Rattle.idl_model.specs.Places.{Place}
use Rattle.idl_model.specs.Trees.{Declaration, enum}
use Rattle.idl_meaning_model.specs.Declarations.{Declared, Valued, first_item, items_valued, all_valued}
use Rattle.idl_meaning_model.specs.ConstantsMeant.{value_meant}
use Rattle.idl_rules_model.specs.WherePaths.{failing}

abbrev pub passes : (ℤ → Bool) → Option ℤ → Bool
passes test None = false
passes test (Some n) = test n

abbrev pub items_in : Declared → Declaration → List Valued
items_in d (enum items) = items_valued d first_item items
items_in d _ = []

unfoldable pub wrong_items : List Declared → List Entity → Declared → List Place
wrong_items ds reg d = failing (λ v. passes is_long (value_meant (all_valued ds) v)) (λ v. v.name.place) (items_in d d.body)
