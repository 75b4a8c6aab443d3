-- An entity whose types and numbers all stay is not changed.
use Rattle.std.proofs.Common.{◌≡◌, ℤ, Bool, true, ◌&&◌, List, ◌++◌, map, refl, sym, ap, ap₂, ◌∙◌}
use Rattle.std.specs.List.{list_all, flat_map}
use Rattle.std.proofs.lemmas.Bool.{and_parts}
use Rattle.std.proofs.lemmas.List.Folds.{list_all-map}
use Rattle.uno_model.specs.Entities.{Field, Param, Member, attribute, method, Item, Constant, Constructor, Part, face, subservice, property}
use Rattle.uno_model.specs.Entities.{Body, interface, struct, exception, enum, constants, typedef, new_service, old_service, new_singleton}
use Rattle.uno_model.specs.Entities.{old_singleton, Entity}
use Rattle.uno_model.specs.Kinds.{Kind}
use Rattle.uno_model.specs.Uses.{value_kinds_of, result_kinds_of, property_kinds, value_kinds, result_kinds, target_kinds, kinds_in}
use Rattle.uno_model.proofs.AllLaws.{all_both, of_append, of_flat}
use Rattle.registry_reading_model.specs.Changes.{Change, field_changed, param_changed, member_changed, item_changed, constant_changed}
use Rattle.registry_reading_model.specs.Changes.{constructor_changed, part_changed, body_changed, entity_changed}
use Rattle.registry_reading_model.proofs.Mapped.{map_stays}

module _ (c : Change) (good : Kind → Bool) (stays : (k : Kind) → good k ≡ true → c.kind k ≡ k)
    (item_good : ℤ → Bool) (item_same : (n : ℤ) → item_good n ≡ true → c.item n ≡ n)
    (within : Kind → ℤ → Bool) (number_same : (k : Kind) (n : ℤ) → within k n ≡ true → c.constant n ≡ n) where
  field_stays : (f : Field) → good f.kind ≡ true → field_changed c f ≡ f
  field_stays f passed = ap (λ k. record { name = f.name; kind = k }) (stays f.kind passed)

  fields_stay : (fs : List Field) → list_all good (map (λ f. f.kind) fs) ≡ true → map (field_changed c) fs ≡ fs
  fields_stay fs passed =
      map_stays (field_changed c) (λ f. good f.kind) field_stays fs (sym (list_all-map good (λ (f : Field). f.kind) fs) ∙ passed)

  -- ---- interfaces

  param_stays : (p : Param) → good p.kind ≡ true → param_changed c p ≡ p
  param_stays p passed = ap (λ k. record { way = p.way; name = p.name; kind = k }) (stays p.kind passed)

  params_stay : (ps : List Param) → list_all good (map (λ p. p.kind) ps) ≡ true → map (param_changed c) ps ≡ ps
  params_stay ps passed =
      map_stays (param_changed c) (λ p. good p.kind) param_stays ps (sym (list_all-map good (λ (p : Param). p.kind) ps) ∙ passed)

  -- the types of values that a member has, and that of its result
  abbrev values_pass : Member → Bool
  values_pass m = list_all good (value_kinds_of m)

  abbrev result_passes : Member → Bool
  result_passes m = list_all good (result_kinds_of m)

  member_stays : (m : Member) → (values_pass m && result_passes m) ≡ true → member_changed c m ≡ m
  member_stays (attribute a) passed =
      let own = and_parts (good a.kind) true (and_parts (good a.kind && true) true passed).0 in
      ap (λ k. attribute (record {
        name = a.name;
        read_only = a.read_only;
        kind = k;
        get_raises = a.get_raises;
        set_raises = a.set_raises;
      })) (stays a.kind own.0)
  member_stays (method m) passed =
      let parts = and_parts (values_pass (method m)) (good m.result_kind && true) passed in
      let result = and_parts (good m.result_kind) true parts.1 in
      ap₂ (λ k ps. method (record { name = m.name; oneway = m.oneway; result_kind = k; params = ps; raises = m.raises }))
      (stays m.result_kind result.0) (params_stay m.params parts.0)

  members_stay : (ms : List Member) → list_all good (flat_map value_kinds_of ms) ≡ true → list_all good (flat_map result_kinds_of ms) ≡ true
      → map (member_changed c) ms ≡ ms
  members_stay ms values results =
      map_stays (member_changed c) (λ m. values_pass m && result_passes m) member_stays ms
      (all_both values_pass result_passes ms (of_flat good value_kinds_of ms values) (of_flat good result_kinds_of ms results))

  -- ---- enums, constants and services

  item_stays : (i : Item) → item_good i.number ≡ true → item_changed c i ≡ i
  item_stays i long = ap (λ n. record { name = i.name; number = n }) (item_same i.number long)

  constant_stays : (d : Constant) → (good d.kind && within d.kind d.number) ≡ true → constant_changed c d ≡ d
  constant_stays d passed =
      let parts = and_parts (good d.kind) (within d.kind d.number) passed in
      ap₂ (λ k n. record { name = d.name; number = n; kind = k }) (stays d.kind parts.0) (number_same d.kind d.number parts.1)

  constants_stay : (ds : List Constant) → list_all good (map (λ d. d.kind) ds) ≡ true → list_all (λ d. within d.kind d.number) ds ≡ true
      → map (constant_changed c) ds ≡ ds
  constants_stay ds passed inside =
      map_stays (constant_changed c) (λ d. good d.kind && within d.kind d.number) constant_stays ds
      (all_both (λ (d : Constant). good d.kind) (λ (d : Constant). within d.kind d.number) ds
      (sym (list_all-map good (λ (d : Constant). d.kind) ds) ∙ passed) inside)

  constructor_stays : (k : Constructor) → list_all good (map (λ p. p.kind) k.params) ≡ true → constructor_changed c k ≡ k
  constructor_stays k passed = ap (λ ps. record { name = k.name; params = ps; rest = k.rest; raises = k.raises }) (fields_stay k.params passed)

  constructors_stay : (ks : List Constructor) → list_all good (flat_map (λ k. map (λ p. p.kind) k.params) ks) ≡ true
      → map (constructor_changed c) ks ≡ ks
  constructors_stay ks passed =
      map_stays (constructor_changed c) (λ k. list_all good (map (λ p. p.kind) k.params)) constructor_stays ks
      (of_flat good (λ (k : Constructor). map (λ (p : Field). p.kind) k.params) ks passed)

  part_stays : (p : Part) → list_all good (property_kinds p) ≡ true → part_changed c p ≡ p
  part_stays (face optional name) passed = refl
  part_stays (subservice optional name) passed = refl
  part_stays (property name flags k) passed = ap (property name flags) (stays k (and_parts (good k) true passed).0)

  parts_stay : (ps : List Part) → list_all good (flat_map property_kinds ps) ≡ true → map (part_changed c) ps ≡ ps
  parts_stay ps passed =
      map_stays (part_changed c) (λ p. list_all good (property_kinds p)) part_stays ps (of_flat good property_kinds ps passed)

  -- ---- bodies and entities

  -- the numbers of an enum and of constants
  abbrev pub items_pass : Body → Bool
  items_pass (enum items) = list_all (λ i. item_good i.number) items
  items_pass _ = true

  abbrev pub constants_pass : Body → Bool
  constants_pass (constants ds) = list_all (λ d. within d.kind d.number) ds
  constants_pass _ = true

  body_stays : (b : Body) → list_all good (value_kinds b) ≡ true → list_all good (result_kinds b) ≡ true → list_all good (target_kinds b) ≡ true
      → constants_pass b ≡ true → items_pass b ≡ true → body_changed c b ≡ b
  body_stays (interface bases members) values results targets inside long = ap (interface bases) (members_stay members values results)
  body_stays (struct base members) values results targets inside long = ap (struct base) (fields_stay members values)
  body_stays (exception base members) values results targets inside long = ap (exception base) (fields_stay members values)
  body_stays (enum items) values results targets inside long = ap enum (map_stays (item_changed c) (λ i. item_good i.number) item_stays items long)
  body_stays (constants ds) values results targets inside long = ap constants (constants_stay ds values inside)
  body_stays (typedef k) values results targets inside long = ap typedef (stays k (and_parts (good k) true targets).0)
  body_stays (new_service base constructors) values results targets inside long = ap (new_service base) (constructors_stay constructors values)
  body_stays (old_service parts) values results targets inside long = ap old_service (parts_stay parts values)
  body_stays (new_singleton base) values results targets inside long = refl
  body_stays (old_singleton service) values results targets inside long = refl

  pub entity_stays : (e : Entity) → list_all good (kinds_in e.body) ≡ true → constants_pass e.body ≡ true → items_pass e.body ≡ true
      → entity_changed c e ≡ e
  entity_stays e passed inside long =
      let parts = of_append good (value_kinds e.body) (result_kinds e.body ++ target_kinds e.body) passed in
      let others = of_append good (result_kinds e.body) (target_kinds e.body) parts.1 in
      ap (λ b. record { name = e.name; published = e.published; body = b }) (body_stays e.body parts.0 others.0 others.1 inside long)
