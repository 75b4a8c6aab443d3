-- The third rule is kept by the entities meant exactly where no place breaks it: the names that are compared are those of the entities.
use Rattle.std.proofs.Common.{◌≡◌, ℕ, zero, suc, Bool, true, false, not, ◌&&◌, ◌||◌, List, [], ◌∷◌, ◌++◌, map, length, None, Some, Option, refl, sym, ap, ap₂, ◌∙◌, codes, if◌then◌else◌}
use Rattle.std.proofs.lemmas.Bool.{and_parts, and_from, both_ways, not-true, not_from_false}
use Rattle.std.proofs.lemmas.List.{map-append}
use Rattle.std.specs.Prelude.{unwrap_or}
use Rattle.std.specs.List.{list_all, list_any, filter_map, flat_map}
use Rattle.std.specs.Option.{option_or}
use Rattle.std.specs.Str.{bytes_eq}
use Rattle.uno_model.specs.BuiltIn.{built_in}
use Rattle.uno_model.specs.Entities.{Field}
use Rattle.uno_model.specs.Functions.{Function, getter, setter, accessors_of, calls_of, declared_in, declared_by, interfaces_of, functions_of}
use Rattle.uno_model.specs.Registry.{find_entity, at_most_one, own_members, member_bases, members_within, all_members}
use Rattle.uno_model.specs.Sound.{all_differ}
use Rattle.uno_model.specs.Uses.{part_names}
use Rattle.registry_text_model.specs.NamesDiffer.{declared_name, params_differ, given_differ, own_names_differ, all_names_differ, names_differ}
use Rattle.idl_model.specs.Places.{Place}
use Rattle.idl_model.specs.Trees.{Id, Item, Constant, Fields, Parameter, Constructor, ConstructorParameter, ServiceMember, InterfaceMember, Declaration}
use Rattle.idl_model.specs.Trees as tree
use Rattle.idl_meaning_model.specs.Declarations.{Declared, Origin, full_name, is_forward, first_item, item_before, items_valued, all_valued}
use Rattle.idl_meaning_model.specs.FromFiles.{leaf_places, are_apart}
use Rattle.idl_meaning_model.specs.Meaning.{type_meant, fields_meant, is_read_only, attribute_meant, parameter_meant, member_meant, item_meant, constant_meant, parameters_before, rest_parameter, constructor_meant}
use Rattle.idl_meaning_model.specs.Meaning.{with_create, part_meant, body_meant, entity_meant, registry_of}
use Rattle.idl_meaning_model.specs.NameFaults.{declared_twice}
use Rattle.idl_meaning_model.specs.Scopes.{declared_as}
use Rattle.idl_meaning_model.proofs.EachLaws.{append_none}
use Rattle.idl_meaning_model.proofs.RegistryLaws.{found_of_declared, found_of_others}
use Rattle.idl_rules_model.specs.NamesDiffer.{NameAt, written_at, without_place, place_of_second, second_names, own_fields, fields_of, fields_within, all_fields}
use Rattle.idl_rules_model.specs.NamesDiffer.{accessor_at, accessors, calls, own_functions, functions_of_owner, all_functions, member_name, parameter_names, property_name, name_lists, repeated_names}

-- ---- names of which none is a second

abbrev pub texts : List NameAt → List (List ℕ)
texts names = map (λ n. n.name) names

none_second : (own : Place) (first : NameAt) (names : List NameAt) → flat_map (place_of_second own first) names ≡ [] → list_any (bytes_eq first.name) (texts names) ≡ false
none_second own first [] none = refl
none_second own first (n ∷ ns) none = by_test (bytes_eq first.name n.name) none (none_second own first ns)
  where
    by_test : (b : Bool) → (if b then unwrap_or (option_or n.place first.place) own ∷ [] else []) ++ flat_map (place_of_second own first) ns ≡ []
        → (flat_map (place_of_second own first) ns ≡ [] → list_any (bytes_eq first.name) (texts ns) ≡ false) → (b || list_any (bytes_eq first.name) (texts ns)) ≡ false
    by_test true none rest = let bad : ⊥ = cc in absurd bad
    by_test false none rest = rest none

pub texts_differ : (own : Place) (names : List NameAt) → second_names own names ≡ [] → all_differ (texts names) ≡ true
unfolding second_names all_differ
texts_differ own [] none = refl
texts_differ own (n ∷ ns) none =
    let parts = append_none (flat_map (place_of_second own n) ns) (second_names own ns) none in
    and_from (not (list_any (bytes_eq n.name) (texts ns))) (all_differ (texts ns)) (not_from_false (list_any (bytes_eq n.name) (texts ns)) (none_second own n ns parts.0)) (texts_differ own ns parts.1)

second_none : (own : Place) (first : NameAt) (names : List NameAt) → list_any (bytes_eq first.name) (texts names) ≡ false → flat_map (place_of_second own first) names ≡ []
second_none own first [] none = refl
second_none own first (n ∷ ns) none = by_test (bytes_eq first.name n.name) none (second_none own first ns)
  where
    by_test : (b : Bool) → (b || list_any (bytes_eq first.name) (texts ns)) ≡ false → (list_any (bytes_eq first.name) (texts ns) ≡ false → flat_map (place_of_second own first) ns ≡ [])
        → (if b then unwrap_or (option_or n.place first.place) own ∷ [] else []) ++ flat_map (place_of_second own first) ns ≡ []
    by_test true none rest = absurd (both_ways true none refl)
    by_test false none rest = rest none

pub no_second : (own : Place) (names : List NameAt) → all_differ (texts names) ≡ true → second_names own names ≡ []
unfolding second_names all_differ
no_second own [] differ = refl
no_second own (n ∷ ns) differ =
    let parts = and_parts (not (list_any (bytes_eq n.name) (texts ns))) (all_differ (texts ns)) differ in
    ap₂ (λ ps qs. ps ++ qs) (second_none own n ns (not-true (list_any (bytes_eq n.name) (texts ns)) parts.0)) (no_second own ns parts.1)

-- ---- two lists of one row of names

module _ {X Y Z : Type 0} (f : X → List Y) (g : X → List Z) (n : Y → List ℕ) (m : Z → List ℕ) where
  pub same_rows : (xs : List X) → ((x : X) → map n (f x) ≡ map m (g x)) → map n (flat_map f xs) ≡ map m (flat_map g xs)
  same_rows [] same = refl
  same_rows (x ∷ xs) same = map-append n (f x) (flat_map f xs) ∙ ap₂ (λ a b. a ++ b) (same x) (same_rows xs same) ∙ sym (map-append m (g x) (flat_map g xs))

module _ {X Y Z : Type 0} (f : X → Y) (g : X → Z) (n : Y → List ℕ) (m : Z → List ℕ) where
  pub same_row : (xs : List X) → ((x : X) → n (f x) ≡ m (g x)) → map n (map f xs) ≡ map m (map g xs)
  same_row [] same = refl
  same_row (x ∷ xs) same = ap₂ (λ a b. a ∷ b) (same x) (same_row xs same)

abbrev text : NameAt → List ℕ
text n = n.name

abbrev field_name : Field → List ℕ
field_name f = f.name

abbrev function_name : Function → List ℕ
function_name f = f.name

module _ (ds : List Declared) (modules : List (List ℕ)) where
  ids_named : (type : tree.WrittenType) (names : List Id) → map text (map written_at names) ≡ map field_name (map (λ (id : Id). record { name = id.name; kind = type_meant ds modules type }) names)
  ids_named type [] = refl
  ids_named type (n ∷ ns) = ap (λ ns. n.name ∷ ns) (ids_named type ns)

  fields_named : (members : List Fields) → map text (flat_map (λ (m : Fields). map written_at m.names) members) ≡ map field_name (flat_map (fields_meant ds modules) members)
  fields_named members = same_rows (λ (m : Fields). map written_at m.names) (fields_meant ds modules) text field_name members (λ m. ids_named m.type m.names)

  members_named : (members : List InterfaceMember) → texts (flat_map member_name members) ≡ map declared_name (filter_map (member_meant ds modules) members)
  members_named [] = refl
  members_named (tree.base_member optional path ∷ ms) = members_named ms
  members_named (tree.attribute a ∷ ms) = ap (λ ns. a.name.name ∷ ns) (members_named ms)
  members_named (tree.method m ∷ ms) = ap (λ ns. m.name.name ∷ ns) (members_named ms)

  parameters_named : (ps : List Parameter) → texts (map (λ (p : Parameter). written_at p.name) ps) ≡ map (λ p. p.name) (map (parameter_meant ds modules) ps)
  parameters_named ps = same_row (λ (p : Parameter). written_at p.name) (parameter_meant ds modules) text (λ p. p.name) ps (λ p. refl)

  methods_differ : (own : Place) (members : List InterfaceMember) → flat_map (second_names own) (map parameter_names members) ≡ [] → list_all params_differ (filter_map (member_meant ds modules) members) ≡ true
  methods_differ own [] none = refl
  methods_differ own (tree.base_member optional path ∷ ms) none = methods_differ own ms (append_none (second_names own []) (flat_map (second_names own) (map parameter_names ms)) none).1
  methods_differ own (tree.attribute a ∷ ms) none = methods_differ own ms (append_none (second_names own []) (flat_map (second_names own) (map parameter_names ms)) none).1
  methods_differ own (tree.method m ∷ ms) none =
      let parts = append_none (second_names own (map (λ (p : Parameter). written_at p.name) m.parameters)) (flat_map (second_names own) (map parameter_names ms)) none in
      let here : all_differ (map (λ p. p.name) (map (parameter_meant ds modules) m.parameters)) ≡ true =
      ap all_differ (sym (parameters_named m.parameters)) ∙ texts_differ own (map (λ (p : Parameter). written_at p.name) m.parameters) parts.0 in
      and_from (all_differ (map (λ p. p.name) (map (parameter_meant ds modules) m.parameters))) (list_all params_differ (filter_map (member_meant ds modules) ms)) here (methods_differ own ms parts.1)

  abbrev parameters_written : List Parameter → List NameAt
  parameters_written ps = map (λ (p : Parameter). written_at p.name) ps

  methods_once : (own : Place) (members : List InterfaceMember) → list_all params_differ (filter_map (member_meant ds modules) members) ≡ true → flat_map (second_names own) (map parameter_names members) ≡ []
  unfolding second_names
  methods_once own [] differ = refl
  methods_once own (tree.base_member optional path ∷ ms) differ = methods_once own ms differ
  methods_once own (tree.attribute a ∷ ms) differ = methods_once own ms differ
  methods_once own (tree.method m ∷ ms) differ =
      let parts = and_parts (all_differ (map (λ p. p.name) (map (parameter_meant ds modules) m.parameters))) (list_all params_differ (filter_map (member_meant ds modules) ms)) differ in
      ap₂ (λ ps qs. ps ++ qs) (no_second own (parameters_written m.parameters) (ap all_differ (parameters_named m.parameters) ∙ parts.0)) (methods_once own ms parts.1)

  -- ---- functions

  accessors_named : (owner : List ℕ) (members : List InterfaceMember) → map text (flat_map accessors members) ≡ map function_name (flat_map (accessors_of owner) (filter_map (member_meant ds modules) members))
  accessors_named owner [] = refl
  accessors_named owner (tree.base_member optional path ∷ ms) = accessors_named owner ms
  accessors_named owner (tree.attribute a ∷ ms) = by_access (is_read_only a) (accessors_named owner ms)
    where
      by_access : (b : Bool) → map text (flat_map accessors ms) ≡ map function_name (flat_map (accessors_of owner) (filter_map (member_meant ds modules) ms))
          → map text ((if b then accessor_at (codes "get:") a.name ∷ [] else accessor_at (codes "get:") a.name ∷ (accessor_at (codes "set:") a.name ∷ [])) ++ flat_map accessors ms)
          ≡ map function_name ((if b then getter owner (attribute_meant ds modules a) ∷ [] else getter owner (attribute_meant ds modules a) ∷ (setter owner (attribute_meant ds modules a) ∷ []))
          ++ flat_map (accessors_of owner) (filter_map (member_meant ds modules) ms))
      by_access true rest = ap (λ ns. (codes "get:" ++ a.name.name) ∷ ns) rest
      by_access false rest = ap (λ ns. (codes "get:" ++ a.name.name) ∷ ((codes "set:" ++ a.name.name) ∷ ns)) rest
  accessors_named owner (tree.method m ∷ ms) = accessors_named owner ms

  calls_named : (owner : List ℕ) (members : List InterfaceMember) → map text (flat_map calls members) ≡ map function_name (flat_map (calls_of owner) (filter_map (member_meant ds modules) members))
  calls_named owner [] = refl
  calls_named owner (tree.base_member optional path ∷ ms) = calls_named owner ms
  calls_named owner (tree.attribute a ∷ ms) = calls_named owner ms
  calls_named owner (tree.method m ∷ ms) = ap (λ ns. m.name.name ∷ ns) (calls_named owner ms)

  -- ---- the other declarations

  before_and_rest : (ps : List ConstructorParameter) → texts (map (λ (p : ConstructorParameter). written_at p.name) ps)
      ≡ map (λ (f : Field). f.name) (map (λ (p : ConstructorParameter). record { name = p.name.name; kind = type_meant ds modules p.type }) (parameters_before ps)) ++ at_most_one (rest_parameter ps)
  before_and_rest [] = refl
  before_and_rest (p ∷ []) = by_rest p.rest
    where
      by_rest : (b : Bool) → p.name.name ∷ []
          ≡ map (λ (f : Field). f.name) (map (λ (q : ConstructorParameter). record { name = q.name.name; kind = type_meant ds modules q.type }) (if b then [] else p ∷ [])) ++ at_most_one (if b then Some p.name.name else None)
      by_rest true = refl
      by_rest false = refl
  before_and_rest (p ∷ (q ∷ ps)) = ap (λ ns. p.name.name ∷ ns) (before_and_rest (q ∷ ps))

  constructors_differ : (own : Place) (cs : List Constructor) → flat_map (second_names own) (map (λ (c : Constructor). map (λ (p : ConstructorParameter). written_at p.name) c.parameters) cs) ≡ []
      → list_all given_differ (map (constructor_meant ds modules) cs) ≡ true
  constructors_differ own [] none = refl
  constructors_differ own (c ∷ cs) none =
      let names = map (λ (p : ConstructorParameter). written_at p.name) c.parameters in
      let parts = append_none (second_names own names) (flat_map (second_names own) (map (λ (k : Constructor). map (λ (p : ConstructorParameter). written_at p.name) k.parameters) cs)) none in
      and_from (given_differ (constructor_meant ds modules c)) (list_all given_differ (map (constructor_meant ds modules) cs))
      (ap all_differ (sym (before_and_rest c.parameters)) ∙ texts_differ own names parts.0) (constructors_differ own cs parts.1)

  constructors_once : (own : Place) (cs : List Constructor) → list_all given_differ (map (constructor_meant ds modules) cs) ≡ true
      → flat_map (second_names own) (map (λ (c : Constructor). map (λ (p : ConstructorParameter). written_at p.name) c.parameters) cs) ≡ []
  constructors_once own [] differ = refl
  constructors_once own (c ∷ cs) differ =
      let parts = and_parts (given_differ (constructor_meant ds modules c)) (list_all given_differ (map (constructor_meant ds modules) cs)) differ in
      ap₂ (λ ps qs. ps ++ qs)
      (no_second own (map (λ (p : ConstructorParameter). written_at p.name) c.parameters) (ap all_differ (before_and_rest c.parameters) ∙ parts.0)) (constructors_once own cs parts.1)

  parts_named : (members : List ServiceMember) → texts (flat_map property_name members) ≡ flat_map part_names (map (part_meant ds modules) members)
  parts_named [] = refl
  parts_named (tree.face optional path ∷ ms) = parts_named ms
  parts_named (tree.subservice optional path ∷ ms) = parts_named ms
  parts_named (tree.property p ∷ ms) = ap (λ ns. p.name.name ∷ ns) (parts_named ms)

module _ (ds : List Declared) where
  items_named : (d : Declared) (without : Origin) (items : List Item) → texts (map (λ (i : Item). written_at i.name) items) ≡ map (λ i. i.name) (map (item_meant (all_valued ds)) (items_valued d without items))
  unfolding items_valued
  items_named d without [] = refl
  items_named d without (i ∷ is) = ap (λ ns. i.name.name ∷ ns) (items_named d (item_before i.name.place) is)

-- ---- names of bases too

module _ (ds : List Declared) (apart : are_apart (leaf_places ds) ≡ true) (none : declared_twice ds ≡ []) where
  fields_of_body : (d : Declared) (body : Declaration) → map text (own_fields body) ≡ map field_name (own_members (Some (record { name = full_name d; published = d.published; body = body_meant ds d body })))
  unfolding body_meant
  fields_of_body d tree.forward = refl
  fields_of_body d (tree.interface base members) = refl
  fields_of_body d (tree.struct base members) = fields_named ds d.modules members
  fields_of_body d (tree.exception base members) = fields_named ds d.modules members
  fields_of_body d (tree.enum items) = refl
  fields_of_body d (tree.constants cs) = refl
  fields_of_body d (tree.typedef t) = refl
  fields_of_body d (tree.new_service base constructors) = refl
  fields_of_body d (tree.old_service members) = refl
  fields_of_body d (tree.new_singleton base) = refl
  fields_of_body d (tree.old_singleton service) = refl

  built_in_fields : (fs : List Field) → map text (map (λ (f : Field). without_place f.name) fs) ≡ map field_name fs
  built_in_fields [] = refl
  built_in_fields (f ∷ fs) = ap (λ ns. f.name ∷ ns) (built_in_fields fs)

  own_fields_named : (name : List ℕ) (o : Option Declared) → declared_as ds name ≡ o → map text (fields_of name o) ≡ map field_name (own_members (find_entity name (registry_of ds)))
  own_fields_named name (Some d) found = fields_of_body d d.body ∙ ap (λ e. map field_name (own_members e)) (sym (found_of_declared ds apart none name d found))
  own_fields_named name None found = built_in_fields (own_members (find_entity name built_in)) ∙ ap (λ e. map field_name (own_members e)) (sym (found_of_others ds apart none name found))

  fields_within_named : (levels : ℕ) (name : List ℕ) → map text (fields_within levels ds (registry_of ds) name) ≡ map field_name (members_within levels (registry_of ds) name)
  unfolding fields_within members_within
  fields_within_named zero name = refl
  fields_within_named (suc levels) name =
      map-append text (flat_map (fields_within levels ds (registry_of ds)) (member_bases (find_entity name (registry_of ds)))) (fields_of name (declared_as ds name))
      ∙ ap₂ (λ a b. a ++ b)
      (same_rows (fields_within levels ds (registry_of ds)) (members_within levels (registry_of ds)) text field_name (member_bases (find_entity name (registry_of ds))) (fields_within_named levels))
      (own_fields_named name (declared_as ds name) refl)
      ∙ sym (map-append field_name (flat_map (members_within levels (registry_of ds)) (member_bases (find_entity name (registry_of ds)))) (own_members (find_entity name (registry_of ds))))

  pub all_fields_named : (name : List ℕ) → texts (all_fields ds (registry_of ds) name) ≡ map (λ f. f.name) (all_members (registry_of ds) name)
  unfolding all_fields
  all_fields_named name = fields_within_named (suc (length (registry_of ds))) name

  functions_of_body : (owner : List ℕ) (d : Declared) (body : Declaration) → map text (own_functions body) ≡ map function_name (declared_in owner (body_meant ds d body))
  unfolding body_meant
  functions_of_body owner d tree.forward = refl
  functions_of_body owner d (tree.interface base members) =
      map-append text (flat_map accessors members) (flat_map calls members) ∙ ap₂ (λ a b. a ++ b) (accessors_named ds d.modules owner members) (calls_named ds d.modules owner members)
      ∙ sym (map-append function_name (flat_map (accessors_of owner) (filter_map (member_meant ds d.modules) members)) (flat_map (calls_of owner) (filter_map (member_meant ds d.modules) members)))
  functions_of_body owner d (tree.struct base members) = refl
  functions_of_body owner d (tree.exception base members) = refl
  functions_of_body owner d (tree.enum items) = refl
  functions_of_body owner d (tree.constants cs) = refl
  functions_of_body owner d (tree.typedef t) = refl
  functions_of_body owner d (tree.new_service base constructors) = refl
  functions_of_body owner d (tree.old_service members) = refl
  functions_of_body owner d (tree.new_singleton base) = refl
  functions_of_body owner d (tree.old_singleton service) = refl

  built_in_functions : (fs : List Function) → map text (map (λ (f : Function). without_place f.name) fs) ≡ map function_name fs
  built_in_functions [] = refl
  built_in_functions (f ∷ fs) = ap (λ ns. f.name ∷ ns) (built_in_functions fs)

  functions_named : (owner : List ℕ) (o : Option Declared) → declared_as ds owner ≡ o → map text (functions_of_owner owner o) ≡ map function_name (declared_by owner (find_entity owner (registry_of ds)))
  functions_named owner (Some d) found = functions_of_body owner d d.body ∙ ap (λ e. map function_name (declared_by owner e)) (sym (found_of_declared ds apart none owner d found))
  functions_named owner None found = built_in_functions (declared_by owner (find_entity owner built_in)) ∙ ap (λ e. map function_name (declared_by owner e)) (sym (found_of_others ds apart none owner found))

  pub all_functions_named : (name : List ℕ) → texts (all_functions ds (registry_of ds) name) ≡ map (λ f. f.name) (functions_of (registry_of ds) name)
  unfolding all_functions
  all_functions_named name =
      same_rows (λ owner. functions_of_owner owner (declared_as ds owner)) (λ owner. declared_by owner (find_entity owner (registry_of ds))) text function_name (interfaces_of (registry_of ds) name)
      (λ owner. functions_named owner (declared_as ds owner) refl)

  -- ---- the rule

  one_list : (own : Place) (names : List NameAt) → flat_map (second_names own) (names ∷ []) ≡ [] → second_names own names ≡ []
  one_list own names none = (append_none (second_names own names) [] none).0

  names_kept_in : (d : Declared) (own : Place) (body : Declaration) → is_forward body ≡ false → flat_map (second_names own) (name_lists ds (registry_of ds) (full_name d) body) ≡ []
      → (own_names_differ (body_meant ds d body) && all_names_differ (registry_of ds) (full_name d) (body_meant ds d body)) ≡ true
  unfolding body_meant with_create all_differ
  names_kept_in d own tree.forward entity nothing = let bad : ⊥ = cc in absurd bad
  names_kept_in d own (tree.interface base members) entity nothing =
      let rest = map parameter_names members in
      let first = append_none (second_names own (flat_map member_name members)) (second_names own (all_functions ds (registry_of ds) (full_name d)) ++ flat_map (second_names own) rest) nothing in
      let second = append_none (second_names own (all_functions ds (registry_of ds) (full_name d))) (flat_map (second_names own) rest) first.1 in
      and_from (all_differ (map declared_name (filter_map (member_meant ds d.modules) members)) && list_all params_differ (filter_map (member_meant ds d.modules) members)) (all_differ (map (λ f. f.name) (functions_of (registry_of ds) (full_name d))))
      (and_from (all_differ (map declared_name (filter_map (member_meant ds d.modules) members))) (list_all params_differ (filter_map (member_meant ds d.modules) members))
      (ap all_differ (sym (members_named ds d.modules members)) ∙ texts_differ own (flat_map member_name members) first.0) (methods_differ ds d.modules own members second.1))
      (ap all_differ (sym (all_functions_named (full_name d))) ∙ texts_differ own (all_functions ds (registry_of ds) (full_name d)) second.0)
  names_kept_in d own (tree.struct base members) entity nothing =
      ap all_differ (sym (all_fields_named (full_name d))) ∙ texts_differ own (all_fields ds (registry_of ds) (full_name d)) (one_list own (all_fields ds (registry_of ds) (full_name d)) nothing)
  names_kept_in d own (tree.exception base members) entity nothing =
      ap all_differ (sym (all_fields_named (full_name d))) ∙ texts_differ own (all_fields ds (registry_of ds) (full_name d)) (one_list own (all_fields ds (registry_of ds) (full_name d)) nothing)
  names_kept_in d own (tree.enum items) entity nothing =
      and_from (all_differ (map (λ i. i.name) (map (item_meant (all_valued ds)) (items_valued d first_item items)))) true
      (ap all_differ (sym (items_named ds d first_item items)) ∙ texts_differ own (map (λ (i : Item). written_at i.name) items) (one_list own (map (λ (i : Item). written_at i.name) items) nothing)) refl
  names_kept_in d own (tree.constants cs) entity nothing =
      and_from (all_differ (map (λ c. c.name) (map (constant_meant ds d) cs))) true
      (ap all_differ (sym (same_row (λ (c : Constant). written_at c.name) (constant_meant ds d) text (λ c. c.name) cs (λ c. refl)))
      ∙ texts_differ own (map (λ (c : Constant). written_at c.name) cs) (one_list own (map (λ (c : Constant). written_at c.name) cs) nothing)) refl
  names_kept_in d own (tree.typedef t) entity nothing = refl
  names_kept_in d own (tree.new_service base []) entity nothing = refl
  names_kept_in d own (tree.new_service base (c ∷ cs)) entity nothing =
      let names = map (λ (k : Constructor). written_at k.name) (c ∷ cs) in
      let parts = append_none (second_names own names) (flat_map (second_names own) (map (λ (k : Constructor). map (λ (p : ConstructorParameter). written_at p.name) k.parameters) (c ∷ cs))) nothing in
      let row : texts names ≡ map (λ k. k.name) (map (constructor_meant ds d.modules) (c ∷ cs)) = same_row (λ (k : Constructor). written_at k.name) (constructor_meant ds d.modules) text (λ k. k.name) (c ∷ cs) (λ k. refl) in
      let own_names : all_differ (map (λ k. k.name) (map (constructor_meant ds d.modules) (c ∷ cs))) ≡ true = ap all_differ (sym row) ∙ texts_differ own names parts.0 in
      and_from (all_differ (map (λ k. k.name) (map (constructor_meant ds d.modules) (c ∷ cs))) && list_all given_differ (map (constructor_meant ds d.modules) (c ∷ cs))) true
      (and_from (all_differ (map (λ k. k.name) (map (constructor_meant ds d.modules) (c ∷ cs)))) (list_all given_differ (map (constructor_meant ds d.modules) (c ∷ cs)))
      own_names (constructors_differ ds d.modules own (c ∷ cs) parts.1)) refl
  names_kept_in d own (tree.old_service members) entity nothing =
      and_from (all_differ (flat_map part_names (map (part_meant ds d.modules) members))) true
      (ap all_differ (sym (parts_named ds d.modules members)) ∙ texts_differ own (flat_map property_name members) (one_list own (flat_map property_name members) nothing)) refl
  names_kept_in d own (tree.new_singleton base) entity nothing = refl
  names_kept_in d own (tree.old_singleton service) entity nothing = refl

  pub names_kept : (d : Declared) → is_forward d.body ≡ false → repeated_names ds (registry_of ds) d ≡ [] → names_differ (registry_of ds) (entity_meant ds d) ≡ true
  unfolding repeated_names names_differ
  names_kept d entity nothing = names_kept_in d d.name.place d.body entity nothing

  -- ---- and the other way

  abbrev Seconds : Place → Declared → Declaration → Type 0
  Seconds own d body = flat_map (second_names own) (name_lists ds (registry_of ds) (full_name d) body) ≡ []

  abbrev Differ : Declared → Declaration → Type 0
  Differ d body = (own_names_differ (body_meant ds d body) && all_names_differ (registry_of ds) (full_name d) (body_meant ds d body)) ≡ true

  from_one_list : (own : Place) (names : List NameAt) → all_differ (texts names) ≡ true → flat_map (second_names own) (names ∷ []) ≡ []
  from_one_list own names differ = ap (λ ps. ps ++ []) (no_second own names differ)

  one_part : (b : Bool) → (b && true) ≡ true → b ≡ true
  one_part b both = (and_parts b true both).0

  no_names : (own : Place) → second_names own [] ++ [] ≡ []
  unfolding second_names
  no_names own = refl

  constructors_apart : (d : Declared) (own : Place) (base : tree.Path) (c : Constructor) (cs : List Constructor) → Differ d (tree.new_service base (c ∷ cs)) → Seconds own d (tree.new_service base (c ∷ cs))
  unfolding body_meant with_create
  constructors_apart d own base c cs differ =
      let names = map (λ (k : Constructor). written_at k.name) (c ∷ cs) in
      let own_part = one_part (all_differ (map (λ k. k.name) (map (constructor_meant ds d.modules) (c ∷ cs))) && list_all given_differ (map (constructor_meant ds d.modules) (c ∷ cs))) differ in
      let both = and_parts (all_differ (map (λ k. k.name) (map (constructor_meant ds d.modules) (c ∷ cs)))) (list_all given_differ (map (constructor_meant ds d.modules) (c ∷ cs))) own_part in
      let row : texts names ≡ map (λ k. k.name) (map (constructor_meant ds d.modules) (c ∷ cs)) = same_row (λ (k : Constructor). written_at k.name) (constructor_meant ds d.modules) text (λ k. k.name) (c ∷ cs) (λ k. refl) in
      ap₂ (λ ps qs. ps ++ qs) (no_second own names (ap all_differ row ∙ both.0)) (constructors_once ds d.modules own (c ∷ cs) both.1)

  no_seconds_in : (d : Declared) (own : Place) (body : Declaration) → Differ d body → Seconds own d body
  unfolding body_meant
  no_seconds_in d own tree.forward differ = refl
  no_seconds_in d own (tree.interface base members) differ =
      let rest = map parameter_names members in
      let both = and_parts (all_differ (map declared_name (filter_map (member_meant ds d.modules) members)) && list_all params_differ (filter_map (member_meant ds d.modules) members)) (all_differ (map (λ f. f.name) (functions_of (registry_of ds) (full_name d)))) differ in
      let first = and_parts (all_differ (map declared_name (filter_map (member_meant ds d.modules) members))) (list_all params_differ (filter_map (member_meant ds d.modules) members)) both.0 in
      ap₂ (λ ps qs. ps ++ qs) (no_second own (flat_map member_name members) (ap all_differ (members_named ds d.modules members) ∙ first.0))
      (ap₂ (λ ps qs. ps ++ qs) (no_second own (all_functions ds (registry_of ds) (full_name d)) (ap all_differ (all_functions_named (full_name d)) ∙ both.1)) (methods_once ds d.modules own members first.1))
  no_seconds_in d own (tree.struct base members) differ =
      from_one_list own (all_fields ds (registry_of ds) (full_name d)) (ap all_differ (all_fields_named (full_name d)) ∙ differ)
  no_seconds_in d own (tree.exception base members) differ =
      from_one_list own (all_fields ds (registry_of ds) (full_name d)) (ap all_differ (all_fields_named (full_name d)) ∙ differ)
  no_seconds_in d own (tree.enum items) differ =
      from_one_list own (map (λ (i : Item). written_at i.name) items)
      (ap all_differ (items_named ds d first_item items) ∙ one_part (all_differ (map (λ i. i.name) (map (item_meant (all_valued ds)) (items_valued d first_item items)))) differ)
  no_seconds_in d own (tree.constants cs) differ =
      from_one_list own (map (λ (c : Constant). written_at c.name) cs)
      (ap all_differ (same_row (λ (c : Constant). written_at c.name) (constant_meant ds d) text (λ c. c.name) cs (λ c. refl)) ∙ one_part (all_differ (map (λ c. c.name) (map (constant_meant ds d) cs))) differ)
  no_seconds_in d own (tree.typedef t) differ = refl
  no_seconds_in d own (tree.new_service base []) differ = no_names own
  no_seconds_in d own (tree.new_service base (c ∷ cs)) differ = constructors_apart d own base c cs differ
  no_seconds_in d own (tree.old_service members) differ =
      from_one_list own (flat_map property_name members) (ap all_differ (parts_named ds d.modules members) ∙ one_part (all_differ (flat_map part_names (map (part_meant ds d.modules) members))) differ)
  no_seconds_in d own (tree.new_singleton base) differ = refl
  no_seconds_in d own (tree.old_singleton service) differ = refl

  pub no_repeated_names : (d : Declared) → names_differ (registry_of ds) (entity_meant ds d) ≡ true → repeated_names ds (registry_of ds) d ≡ []
  unfolding repeated_names names_differ
  no_repeated_names d differ = no_seconds_in d d.name.place d.body differ
