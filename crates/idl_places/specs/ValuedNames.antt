-- Names, each with its value, if it has one: those whose value is wrong.
use Rattle.std.specs.Prelude.{ℤ, Bool, List, [], ◌∷◌, ◌++◌, Option}
use Rattle.idl_entities.specs.Telling.{Telling}
use Rattle.idl_meaning_model.specs.ConstantsMeant.{value_meant}
use Rattle.idl_meaning_model.specs.Declarations.{all_valued, constant_valued}
use Rattle.idl_meaning_model.specs.Meaning.{type_meant}
use Rattle.idl_model.specs.Places.{Place}
use Rattle.idl_model.specs.Trees.{Declaration}
use Rattle.idl_rules_model.specs.ConstantRanges.{constants_in}
use Rattle.idl_rules_model.specs.ItemValues.{items_in, passes}
use Rattle.idl_rules_model.specs.TypePlaces.{at_unless}
use Rattle.idl_rules_model.specs.WherePaths.{failing}
use Rattle.idl_trees.specs.Names.{place_of}
use Rattle.idl_trees.specs.Types.{type_of}
use Rattle.idl_trees.specs.declared.member.Constant.{Constant}
use Rattle.idl_trees.specs.declared.member.Item.{Item}
use Rattle.registry_text_model.specs.ConstantValues.{is_in_range}
use Rattle.registry_text_model.specs.EnumValues.{is_long}

-- a place, and whether a value is right there
abbrev pub Judged : Type 0
Judged = Place × (Option ℤ → Bool)

unfoldable pub wrong_values : List Judged → List (Option ℤ) → List Place
wrong_values [] vs = []
wrong_values (p ∷ ps) [] = []
wrong_values (p ∷ ps) (v ∷ vs) = at_unless p.0 (p.1 v) ++ wrong_values ps vs

-- an item of an enum, and a constant of a group
abbrev pub judged_item : Item → Judged
judged_item i = (place_of i.name.place, passes is_long)

abbrev pub judged_constant : Telling → Constant → Judged
judged_constant t c = (place_of c.name.place, passes (is_in_range (type_meant t.all t.declared.modules (type_of c.kind))))

-- the items and the constants of a declaration whose value is wrong
abbrev pub wrong_items_of : Telling → Declaration → List Place
wrong_items_of t body = failing (λ v. passes is_long (value_meant (all_valued t.all) v)) (λ v. v.name.place) (items_in t.declared body)

abbrev pub wrong_constants_of : Telling → Declaration → List Place
wrong_constants_of t body =
    failing (λ c. passes (is_in_range (type_meant t.all t.declared.modules c.type)) (value_meant (all_valued t.all) (constant_valued t.declared c))) (λ c. c.name.place) (constants_in body)
