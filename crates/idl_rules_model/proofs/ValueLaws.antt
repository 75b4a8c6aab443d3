-- The sixth and the seventh rule are kept by the entities meant where no place breaks them; an entity does not show that a value is missing.
use Rattle.std.proofs.Common.{◌≡◌, ℤ, pos, Bool, true, List, [], ◌∷◌, map, None, Some, Option, is_some, refl, sym, ◌∙◌}
use Rattle.std.proofs.lemmas.Bool.{and_parts, and_from}
use Rattle.std.specs.List.{list_all}
use Rattle.std.specs.Prelude.{unwrap_or}
use Rattle.std.proofs.lemmas.List.Folds.{list_all-map}
use Rattle.uno_model.specs.Entities.{Entity}
use Rattle.registry_text_model.specs.EnumValues.{is_long, items_are_long, values_are_long}
use Rattle.registry_text_model.specs.ConstantValues.{is_in_range, body_is_in_range, constants_are_in_range}
use Rattle.idl_model.specs.Trees.{Constant, Declaration}
use Rattle.idl_model.specs.Trees as tree
use Rattle.idl_meaning_model.specs.Declarations.{Declared, Valued, all_valued, constant_valued, items_valued, first_item}
use Rattle.idl_meaning_model.specs.ConstantsMeant.{value_meant}
use Rattle.idl_meaning_model.specs.Meaning.{type_meant, number_meant, item_meant, constant_meant, body_meant, entity_meant}
use Rattle.idl_rules_model.specs.ItemValues.{passes, items_in, wrong_items}
use Rattle.idl_rules_model.specs.ConstantRanges.{constants_in, wrong_constants}
use Rattle.idl_rules_model.proofs.FailingLaws.{all_pass, none_fail, all_weaker}

-- a value that passes, and the number that stands for it
number_passes : (test : ℤ → Bool) (o : Option ℤ) → passes test o ≡ true → test (unwrap_or o (pos 0)) ≡ true
number_passes test None passes = let bad : ⊥ = cc in absurd bad
number_passes test (Some n) passes = passes

passes_from : (test : ℤ → Bool) (o : Option ℤ) → is_some o ≡ true → test (unwrap_or o (pos 0)) ≡ true → passes test o ≡ true
passes_from test None there right = there
passes_from test (Some n) there right = right

module _ (ds : List Declared) (reg : List Entity) where
  items_long : (vs : List Valued) → list_all (λ i. is_long i.number) (map (item_meant (all_valued ds)) vs) ≡ list_all (λ v. is_long (number_meant (all_valued ds) v)) vs
  items_long vs = list_all-map (λ i. is_long i.number) (item_meant (all_valued ds)) vs

  body_items : (d : Declared) (body : Declaration) → items_are_long (body_meant ds d body) ≡ list_all (λ v. is_long (number_meant (all_valued ds) v)) (items_in d body)
  unfolding body_meant
  body_items d tree.forward = refl
  body_items d (tree.interface base members) = refl
  body_items d (tree.struct base members) = refl
  body_items d (tree.exception base members) = refl
  body_items d (tree.enum items) = items_long (items_valued d first_item items)
  body_items d (tree.constants cs) = refl
  body_items d (tree.typedef t) = refl
  body_items d (tree.new_service base constructors) = refl
  body_items d (tree.old_service members) = refl
  body_items d (tree.new_singleton base) = refl
  body_items d (tree.old_singleton service) = refl

  abbrev has_value : Valued → Bool
  has_value v = is_some (value_meant (all_valued ds) v)

  pub items_kept : (d : Declared) → wrong_items ds reg d ≡ [] → values_are_long (entity_meant ds d) ≡ true
  unfolding wrong_items values_are_long
  items_kept d none =
      body_items d d.body
      ∙ all_weaker (λ v. passes is_long (value_meant (all_valued ds) v)) (λ v. is_long (number_meant (all_valued ds) v)) (items_in d d.body)
      (λ v right. number_passes is_long (value_meant (all_valued ds) v) right)
      (all_pass (λ v. passes is_long (value_meant (all_valued ds) v)) (λ v. v.name.place) (items_in d d.body) none)

  -- of each item a value is known, and it is the one that the entity has
  pub no_wrong_items : (d : Declared) → values_are_long (entity_meant ds d) ≡ true → list_all has_value (items_in d d.body) ≡ true → wrong_items ds reg d ≡ []
  unfolding wrong_items values_are_long
  no_wrong_items d kept there =
      none_fail (λ v. passes is_long (value_meant (all_valued ds) v)) (λ v. v.name.place) (items_in d d.body)
      (both (items_in d d.body) (sym (body_items d d.body) ∙ kept) there)
    where
      both : (vs : List Valued) → list_all (λ v. is_long (number_meant (all_valued ds) v)) vs ≡ true → list_all has_value vs ≡ true → list_all (λ v. passes is_long (value_meant (all_valued ds) v)) vs ≡ true
      both [] long there = refl
      both (v ∷ vs) long there =
          let l = and_parts (is_long (number_meant (all_valued ds) v)) (list_all (λ w. is_long (number_meant (all_valued ds) w)) vs) long in
          let t = and_parts (has_value v) (list_all has_value vs) there in
          and_from (passes is_long (value_meant (all_valued ds) v)) (list_all (λ w. passes is_long (value_meant (all_valued ds) w)) vs) (passes_from is_long (value_meant (all_valued ds) v) t.0 l.0) (both vs l.1 t.1)

  abbrev in_range : Declared → Constant → ℤ → Bool
  in_range d c n = is_in_range (type_meant ds d.modules c.type) n

  abbrev constant_value : Declared → Constant → Option ℤ
  constant_value d c = value_meant (all_valued ds) (constant_valued d c)

  constants_ranged : (d : Declared) (cs : List Constant) → list_all (λ c. is_in_range c.kind c.number) (map (constant_meant ds d) cs) ≡ list_all (λ c. in_range d c (number_meant (all_valued ds) (constant_valued d c))) cs
  constants_ranged d cs = list_all-map (λ c. is_in_range c.kind c.number) (constant_meant ds d) cs

  body_constants : (d : Declared) (body : Declaration) → body_is_in_range (body_meant ds d body) ≡ list_all (λ c. in_range d c (number_meant (all_valued ds) (constant_valued d c))) (constants_in body)
  unfolding body_meant
  body_constants d tree.forward = refl
  body_constants d (tree.interface base members) = refl
  body_constants d (tree.struct base members) = refl
  body_constants d (tree.exception base members) = refl
  body_constants d (tree.enum items) = refl
  body_constants d (tree.constants cs) = constants_ranged d cs
  body_constants d (tree.typedef t) = refl
  body_constants d (tree.new_service base constructors) = refl
  body_constants d (tree.old_service members) = refl
  body_constants d (tree.new_singleton base) = refl
  body_constants d (tree.old_singleton service) = refl

  pub constants_kept : (d : Declared) → wrong_constants ds reg d ≡ [] → constants_are_in_range (entity_meant ds d) ≡ true
  unfolding wrong_constants constants_are_in_range
  constants_kept d none =
      body_constants d d.body
      ∙ all_weaker (λ c. passes (in_range d c) (constant_value d c)) (λ c. in_range d c (number_meant (all_valued ds) (constant_valued d c))) (constants_in d.body)
      (λ c right. number_passes (in_range d c) (constant_value d c) right)
      (all_pass (λ c. passes (in_range d c) (constant_value d c)) (λ c. c.name.place) (constants_in d.body) none)

  pub no_wrong_constants : (d : Declared) → constants_are_in_range (entity_meant ds d) ≡ true → list_all (λ c. is_some (constant_value d c)) (constants_in d.body) ≡ true → wrong_constants ds reg d ≡ []
  unfolding wrong_constants constants_are_in_range
  no_wrong_constants d kept there =
      none_fail (λ c. passes (in_range d c) (constant_value d c)) (λ c. c.name.place) (constants_in d.body)
      (both (constants_in d.body) (sym (body_constants d d.body) ∙ kept) there)
    where
      both : (cs : List Constant) → list_all (λ c. in_range d c (number_meant (all_valued ds) (constant_valued d c))) cs ≡ true → list_all (λ c. is_some (constant_value d c)) cs ≡ true
          → list_all (λ c. passes (in_range d c) (constant_value d c)) cs ≡ true
      both [] range there = refl
      both (c ∷ cs) range there =
          let r = and_parts (in_range d c (number_meant (all_valued ds) (constant_valued d c))) (list_all (λ k. in_range d k (number_meant (all_valued ds) (constant_valued d k))) cs) range in
          let t = and_parts (is_some (constant_value d c)) (list_all (λ k. is_some (constant_value d k)) cs) there in
          and_from (passes (in_range d c) (constant_value d c)) (list_all (λ k. passes (in_range d k) (constant_value d k)) cs) (passes_from (in_range d c) (constant_value d c) t.0 r.0) (both cs r.1 t.1)
