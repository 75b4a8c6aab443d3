-- What the rules ask of declarations that their entities do not show: an entity has all its bases in one row, 0 for a value that is missing, and no type of a
-- parameter that takes the rest.
use Rattle.std.specs.Prelude.{ℕ, Bool, true, not, ◌&&◌, ◌||◌, List, [], ◌∷◌, is_some}
use Rattle.std.specs.List.{list_all}
use Rattle.uno_model.specs.Sound.{is_some_list}
use Rattle.registry_text_model.specs.Rules.{Rule}
use Rattle.registry_text_model.specs.Rules as rule
use Rattle.idl_model.specs.Trees.{ConstructorParameter, Declaration, interface, struct, exception, new_service, Tree}
use Rattle.idl_meaning_model.specs.Declarations.{Declared, declarations, entities_declared, valued_in, constant_valued, all_valued}
use Rattle.idl_meaning_model.specs.ConstantsMeant.{value_meant}
use Rattle.idl_meaning_model.specs.Meaning.{type_meant}
use Rattle.idl_rules_model.specs.Bases.{bases_in}
use Rattle.idl_rules_model.specs.Circles.{value_comes_back}
use Rattle.idl_rules_model.specs.ConstantRanges.{constants_in}
use Rattle.idl_rules_model.specs.ItemValues.{items_in}
use Rattle.idl_rules_model.specs.TypePlaces.{is_any}

-- bases stand behind `:` or among the members
abbrev pub bases_stand_in_one_way : Declaration → Bool
bases_stand_in_one_way (interface base members) = not (is_some_list (bases_in members)) || not (is_some base)
bases_stand_in_one_way _ = true

-- `...` stands at the last parameter alone, and behind any
unfoldable pub rest_is_last : List Declared → List (List ℕ) → List ConstructorParameter → Bool
rest_is_last ds modules [] = true
rest_is_last ds modules (p ∷ []) = not p.rest || is_any (type_meant ds modules p.type)
rest_is_last ds modules (p ∷ q ∷ ps) = not p.rest && rest_is_last ds modules (q ∷ ps)

abbrev pub rests_are_last : List Declared → List (List ℕ) → Declaration → Bool
rests_are_last ds modules (new_service base constructors) = list_all (λ c. rest_is_last ds modules c.parameters) constructors
rests_are_last ds modules _ = true

-- each type of members has a name behind it, as in every file
abbrev pub members_have_names : Declaration → Bool
members_have_names (struct base members) = list_all (λ m. is_some_list m.names) members
members_have_names (exception base members) = list_all (λ m. is_some_list m.names) members
members_have_names _ = true

-- a declaration keeps what its entity does not show of a rule
abbrev pub keeps_unshown : Rule → List Declared → Declared → Bool
keeps_unshown rule.bases ds d = bases_stand_in_one_way d.body
keeps_unshown rule.circles ds d = list_all (λ v. not (value_comes_back (all_valued ds) v)) (valued_in d d.body)
keeps_unshown rule.values ds d = list_all (λ v. is_some (value_meant (all_valued ds) v)) (items_in d d.body)
keeps_unshown rule.constant_values ds d = list_all (λ c. is_some (value_meant (all_valued ds) (constant_valued d c))) (constants_in d.body)
keeps_unshown rule.types ds d = rests_are_last ds d.modules d.body
keeps_unshown _ ds d = true

-- all declarations of files do
unfoldable pub all_keep_unshown : Rule → List Tree → Bool
all_keep_unshown r trees = list_all (keeps_unshown r (declarations trees)) (entities_declared (declarations trees))
