-- The third rule is broken at the same places among entities whose types and numbers are others.
use Rattle.std.proofs.Common.{◌≡◌, refl, sym, ap, ap₂, ◌∙◌, ℕ, zero, suc, List, [], ◌∷◌, ◌++◌, length, map, Option, None, Some, option_map}
use Rattle.std.proofs.lemmas.List.{length-map}
use Rattle.std.specs.List.{flat_map}
use Rattle.uno_model.specs.Entities.{Body, Entity, exception, interface, struct}
use Rattle.uno_model.specs.Functions.{interfaces_of}
use Rattle.uno_model.specs.Registry.{find_entity, member_bases}
use Rattle.uno_model.proofs.MemberLaws.{flat_map_same}
use Rattle.registry_reading_model.specs.Changes.{Change, body_changed, entity_changed}
use Rattle.registry_reading_model.proofs.ChangedRegistries.{all_changed, find_changed, interfaces_of_changed}
use Rattle.idl_meaning_model.specs.Declarations.{Declared, full_name}
use Rattle.idl_meaning_model.specs.Scopes.{declared_as}
use Rattle.idl_model.specs.Trees as tree
use Rattle.idl_rules_model.specs.NamesDiffer.{all_fields, all_functions, fields_of, fields_within, functions_of_owner, member_name, name_lists, parameter_names, repeated_names, second_names}

module _ (c : Change) (ds : List Declared) (reg : List Entity) where
  bases_of_body : (e : Entity) (b : Body) → member_bases (Some (record { name = e.name; published = e.published; body = body_changed c b })) ≡ member_bases (Some (record { name = e.name; published = e.published; body = b }))
  bases_of_body e (interface bases members) = refl
  bases_of_body e _ = refl

  bases_same : (o : Option Entity) → member_bases (option_map (entity_changed c) o) ≡ member_bases o
  bases_same None = refl
  bases_same (Some e) = bases_of_body e e.body

  within_same : (levels : ℕ) (name : List ℕ) → fields_within levels ds (all_changed c reg) name ≡ fields_within levels ds reg name
  unfolding fields_within
  within_same zero name = refl
  within_same (suc levels) name =
      ap (λ fs. fs ++ fields_of name (declared_as ds name))
      (ap (flat_map (fields_within levels ds (all_changed c reg))) (ap member_bases (find_changed c name reg) ∙ bases_same (find_entity name reg))
      ∙ flat_map_same (fields_within levels ds (all_changed c reg)) (fields_within levels ds reg) (member_bases (find_entity name reg)) (λ base has. within_same levels base))

  fields_same : (name : List ℕ) → all_fields ds (all_changed c reg) name ≡ all_fields ds reg name
  unfolding all_fields
  fields_same name = ap (λ n. fields_within (suc n) ds (all_changed c reg) name) (length-map reg (entity_changed c)) ∙ within_same (suc (length reg)) name

  functions_same : (name : List ℕ) → all_functions ds (all_changed c reg) name ≡ all_functions ds reg name
  unfolding all_functions
  functions_same name = ap (flat_map (λ owner. functions_of_owner owner (declared_as ds owner))) (interfaces_of_changed c reg name)

  lists_same : (name : List ℕ) (body : tree.Declaration) → name_lists ds (all_changed c reg) name body ≡ name_lists ds reg name body
  lists_same name (tree.interface base members) = ap (λ fs. flat_map member_name members ∷ (fs ∷ map parameter_names members)) (functions_same name)
  lists_same name (tree.struct base members) = ap (λ fs. fs ∷ []) (fields_same name)
  lists_same name (tree.exception base members) = ap (λ fs. fs ∷ []) (fields_same name)
  lists_same name _ = refl

  pub repeated_alike : (d : Declared) → repeated_names ds (all_changed c reg) d ≡ repeated_names ds reg d
  unfolding repeated_names
  repeated_alike d = ap (flat_map (second_names d.name.place)) (lists_same (full_name d) d.body)
