-- The eighth and the ninth rule are kept by the entities meant exactly where no place breaks them.
use Rattle.std.proofs.Common.{◌≡◌, ℕ, Bool, true, false, ◌&&◌, List, [], ◌∷◌, ◌++◌, map, refl, sym, ap, ap₂, ◌∙◌}
use Rattle.std.proofs.lemmas.Bool.{and_parts, and_from}
use Rattle.std.specs.List.{list_all, flat_map}
use Rattle.uno_model.specs.Entities.{Entity}
use Rattle.uno_model.specs.Sound.{is_there, is_interface, is_service}
use Rattle.uno_model.specs.Uses.{interfaces_of_part, services_of_part}
use Rattle.registry_text_model.specs.ServiceParts.{parts_of_service_known}
use Rattle.registry_text_model.specs.SingletonTargets.{target_known}
use Rattle.idl_model.specs.Trees.{ServiceMember, Declaration}
use Rattle.idl_model.specs.Trees as tree
use Rattle.idl_meaning_model.specs.Declarations.{Declared}
use Rattle.idl_meaning_model.specs.Meaning.{part_meant, body_meant}
use Rattle.idl_meaning_model.proofs.EachLaws.{append_none}
use Rattle.idl_rules_model.specs.Services.{face_in, subservice_in, wrong_parts_in}
use Rattle.idl_rules_model.specs.Singletons.{wrong_targets_in}
use Rattle.idl_rules_model.specs.WherePaths.{names, not_named}
use Rattle.idl_rules_model.proofs.FailingLaws.{all_pass, none_fail}

module _ (ds : List Declared) (reg : List Entity) (modules : List (List ℕ)) where
  faces_known : (members : List ServiceMember) → list_all (is_there reg is_interface) (flat_map interfaces_of_part (map (part_meant ds modules) members)) ≡ list_all (names ds reg is_interface modules) (flat_map face_in members)
  faces_known [] = refl
  faces_known (tree.face optional path ∷ ms) = ap (λ b. names ds reg is_interface modules path && b) (faces_known ms)
  faces_known (tree.subservice optional path ∷ ms) = faces_known ms
  faces_known (tree.property p ∷ ms) = faces_known ms

  subservices_known : (members : List ServiceMember) → list_all (is_there reg is_service) (flat_map services_of_part (map (part_meant ds modules) members)) ≡ list_all (names ds reg is_service modules) (flat_map subservice_in members)
  subservices_known [] = refl
  subservices_known (tree.face optional path ∷ ms) = subservices_known ms
  subservices_known (tree.subservice optional path ∷ ms) = ap (λ b. names ds reg is_service modules path && b) (subservices_known ms)
  subservices_known (tree.property p ∷ ms) = subservices_known ms

  one_known : (b : Bool) → (b && true) ≡ true → b ≡ true
  one_known true is = refl
  one_known false is = is

module _ (ds : List Declared) (reg : List Entity) (d : Declared) where
  pub parts_kept : (body : Declaration) → wrong_parts_in ds reg d.modules body ≡ [] → parts_of_service_known reg (body_meant ds d body) ≡ true
  unfolding body_meant
  parts_kept tree.forward none = refl
  parts_kept (tree.interface base members) none = refl
  parts_kept (tree.struct base members) none = refl
  parts_kept (tree.exception base members) none = refl
  parts_kept (tree.enum items) none = refl
  parts_kept (tree.constants cs) none = refl
  parts_kept (tree.typedef t) none = refl
  parts_kept (tree.new_service base constructors) none =
      one_known ds reg d.modules (names ds reg is_interface d.modules base) (all_pass (names ds reg is_interface d.modules) (λ path. path.place) (base ∷ []) none)
  parts_kept (tree.old_service members) none =
      let parts = append_none (not_named ds reg is_interface d.modules (flat_map face_in members)) (not_named ds reg is_service d.modules (flat_map subservice_in members)) none in
      and_from (list_all (is_there reg is_interface) (flat_map interfaces_of_part (map (part_meant ds d.modules) members))) (list_all (is_there reg is_service) (flat_map services_of_part (map (part_meant ds d.modules) members)))
      (faces_known ds reg d.modules members ∙ all_pass (names ds reg is_interface d.modules) (λ path. path.place) (flat_map face_in members) parts.0)
      (subservices_known ds reg d.modules members ∙ all_pass (names ds reg is_service d.modules) (λ path. path.place) (flat_map subservice_in members) parts.1)
  parts_kept (tree.new_singleton base) none = refl
  parts_kept (tree.old_singleton service) none = refl

  pub no_wrong_parts : (body : Declaration) → parts_of_service_known reg (body_meant ds d body) ≡ true → wrong_parts_in ds reg d.modules body ≡ []
  unfolding body_meant
  no_wrong_parts tree.forward known = refl
  no_wrong_parts (tree.interface base members) known = refl
  no_wrong_parts (tree.struct base members) known = refl
  no_wrong_parts (tree.exception base members) known = refl
  no_wrong_parts (tree.enum items) known = refl
  no_wrong_parts (tree.constants cs) known = refl
  no_wrong_parts (tree.typedef t) known = refl
  no_wrong_parts (tree.new_service base constructors) known =
      none_fail (names ds reg is_interface d.modules) (λ path. path.place) (base ∷ []) (ap (λ b. b && true) known)
  no_wrong_parts (tree.old_service members) known =
      let parts = and_parts (list_all (is_there reg is_interface) (flat_map interfaces_of_part (map (part_meant ds d.modules) members))) (list_all (is_there reg is_service) (flat_map services_of_part (map (part_meant ds d.modules) members))) known in
      ap₂ (λ ps qs. ps ++ qs) (none_fail (names ds reg is_interface d.modules) (λ path. path.place) (flat_map face_in members) (sym (faces_known ds reg d.modules members) ∙ parts.0))
      (none_fail (names ds reg is_service d.modules) (λ path. path.place) (flat_map subservice_in members) (sym (subservices_known ds reg d.modules members) ∙ parts.1))
  no_wrong_parts (tree.new_singleton base) known = refl
  no_wrong_parts (tree.old_singleton service) known = refl

  pub targets_kept : (body : Declaration) → wrong_targets_in ds reg d.modules body ≡ [] → target_known reg (body_meant ds d body) ≡ true
  unfolding body_meant
  targets_kept tree.forward none = refl
  targets_kept (tree.interface base members) none = refl
  targets_kept (tree.struct base members) none = refl
  targets_kept (tree.exception base members) none = refl
  targets_kept (tree.enum items) none = refl
  targets_kept (tree.constants cs) none = refl
  targets_kept (tree.typedef t) none = refl
  targets_kept (tree.new_service base constructors) none = refl
  targets_kept (tree.old_service members) none = refl
  targets_kept (tree.new_singleton base) none =
      one_known ds reg d.modules (names ds reg is_interface d.modules base) (all_pass (names ds reg is_interface d.modules) (λ path. path.place) (base ∷ []) none)
  targets_kept (tree.old_singleton service) none =
      one_known ds reg d.modules (names ds reg is_service d.modules service) (all_pass (names ds reg is_service d.modules) (λ path. path.place) (service ∷ []) none)

  pub no_wrong_targets : (body : Declaration) → target_known reg (body_meant ds d body) ≡ true → wrong_targets_in ds reg d.modules body ≡ []
  unfolding body_meant
  no_wrong_targets tree.forward known = refl
  no_wrong_targets (tree.interface base members) known = refl
  no_wrong_targets (tree.struct base members) known = refl
  no_wrong_targets (tree.exception base members) known = refl
  no_wrong_targets (tree.enum items) known = refl
  no_wrong_targets (tree.constants cs) known = refl
  no_wrong_targets (tree.typedef t) known = refl
  no_wrong_targets (tree.new_service base constructors) known = refl
  no_wrong_targets (tree.old_service members) known = refl
  no_wrong_targets (tree.new_singleton base) known = none_fail (names ds reg is_interface d.modules) (λ path. path.place) (base ∷ []) (ap (λ b. b && true) known)
  no_wrong_targets (tree.old_singleton service) known = none_fail (names ds reg is_service d.modules) (λ path. path.place) (service ∷ []) (ap (λ b. b && true) known)
