-- In a sound registry each type that an entity writes is one of the registry, and those of members and parameters are neither void nor an exception.
use Rattle.std.proofs.Common.{◌≡◌, ℕ, Bool, true, false, not, ◌||◌, ◌&&◌, List, [], ◌∷◌, ◌++◌, None, Some, refl, sym, subst, if◌then◌else◌}
use Rattle.std.specs.List.{list_all}
use Rattle.std.specs.Str.{bytes_eq}
use Rattle.std.proofs.lemmas.Bool.{and_parts}
use Rattle.std.proofs.lemmas.Slice.Eq.{bytes_eq-Decides}
use Rattle.uno_model.specs.Entities.{Entity, Body}
use Rattle.uno_model.specs.Kinds.{Kind}
use Rattle.uno_model.specs.Registry.{find_entity}
use Rattle.uno_model.specs.Sound.{IsSound, types_known, types_allowed, is_within_limits, is_storable, elements_storable, is_value, is_target, is_namable, kind_known}
use Rattle.uno_model.specs.Sound.{few_modules, short_name, few_params, is_type_body}
use Rattle.uno_model.specs.Types.{is_type, is_formed}
use Rattle.uno_model.specs.Uses.{value_kinds, result_kinds, target_kinds, kinds_in, param_counts}
use Rattle.uno_model.proofs.AllLaws.{all_both, each_of_both, of_append}
use Rattle.uno_model.proofs.Options.{same_some, none_some}

-- what all entities are, the one that is found is, and it has the name that was asked
pub found_entity : (P : Entity → Bool) (name : List ℕ) (reg : List Entity) (e : Entity) → list_all P reg ≡ true → find_entity name reg ≡ Some e → (P e ≡ true) × (e.name ≡ name)
unfolding find_entity
found_entity P name [] e all found = absurd (none_some found)
found_entity P name (d ∷ ds) e all found = by_test (bytes_eq name d.name) refl (found_entity P name ds e (and_parts (P d) (list_all P ds) all).1) found
  where
    by_test : (t : Bool) → bytes_eq name d.name ≡ t → (find_entity name ds ≡ Some e → (P e ≡ true) × (e.name ≡ name)) → (if t then Some d else find_entity name ds) ≡ Some e
        → (P e ≡ true) × (e.name ≡ name)
    by_test true same behind is =
        subst (λ x. (P x ≡ true) × (x.name ≡ name)) (same_some is) ((and_parts (P d) (list_all P ds) all).0, sym ((bytes_eq-Decides name d.name).0 same))
    by_test false other behind is = behind is

-- what a member may be: a type of the registry, neither void nor an exception
abbrev pub is_member : List Entity → Kind → Bool
is_member reg k = is_storable k && is_type reg k

module _ (reg : List Entity) where
  -- types whose names are known and short, and whose elements are allowed
  all_types : (ks : List Kind) → list_all (kind_known reg) ks ≡ true → list_all is_namable ks ≡ true → list_all elements_storable ks ≡ true → list_all (is_type reg) ks ≡ true
  all_types ks known namable plain = all_both (is_formed reg) is_namable ks (all_both (kind_known reg) elements_storable ks known plain) namable

  all_members_are : (ks : List Kind) → list_all (kind_known reg) ks ≡ true → list_all is_namable ks ≡ true → list_all is_value ks ≡ true → list_all (is_member reg) ks ≡ true
  all_members_are ks known namable values =
      let parts = each_of_both is_storable elements_storable ks values in
      all_both is_storable (is_type reg) ks parts.0 (all_types ks known namable parts.1)

  module _ (sound : IsSound reg) (name : List ℕ) (e : Entity) (found : find_entity name reg ≡ Some e) where
    -- of all its types: that they are known, and that they are short
    known : list_all (kind_known reg) (kinds_in e.body) ≡ true
    known = (found_entity (λ d. types_known reg d.body) name reg e sound.types found).0

    namable : list_all is_namable (kinds_in e.body) ≡ true
    namable =
        let own = few_modules e.name && (not (is_type_body e.body) || short_name e.name) in
        let namable = list_all is_namable (kinds_in e.body) in
        let params = list_all few_params (param_counts e.body) in
        (and_parts namable params (and_parts own (namable && params) (found_entity is_within_limits name reg e sound.limits found).0).1).0

    allowed : (list_all is_value (value_kinds e.body) ≡ true) × (list_all elements_storable (result_kinds e.body) ≡ true)
    allowed =
        let values = list_all is_value (value_kinds e.body) in
        let results = list_all elements_storable (result_kinds e.body) in
        let targets = list_all is_target (target_kinds e.body) in
        let parts = and_parts values (results && targets) (found_entity (λ d. types_allowed d.body) name reg e sound.allowed found).0 in
        (parts.0, (and_parts results targets parts.1).0)

    pub value_kinds_are : list_all (is_member reg) (value_kinds e.body) ≡ true
    value_kinds_are =
        let others = result_kinds e.body ++ target_kinds e.body in
        all_members_are (value_kinds e.body) (of_append (kind_known reg) (value_kinds e.body) others known).0 (of_append is_namable (value_kinds e.body) others namable).0 allowed.0

    pub result_kinds_are : list_all (is_type reg) (result_kinds e.body) ≡ true
    result_kinds_are =
        let results = result_kinds e.body in
        let others = results ++ target_kinds e.body in
        let known_others = (of_append (kind_known reg) (value_kinds e.body) others known).1 in
        let namable_others = (of_append is_namable (value_kinds e.body) others namable).1 in
        all_types results (of_append (kind_known reg) results (target_kinds e.body) known_others).0 (of_append is_namable results (target_kinds e.body) namable_others).0 allowed.1
