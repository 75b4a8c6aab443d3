-- The entities of declarations whose names are identifiers have names that are names.
use Rattle.std.proofs.Common.{◌≡◌, ℕ, Bool, true, false, not, ◌&&◌, ◌==◌, List, [], ◌∷◌, ◌++◌, map, None, Some, refl, sym, ap, subst, ◌∙◌, if◌then◌else◌}
use Rattle.std.proofs.lemmas.Bool.{and_parts, and_from, both_ways, not-true, eqb-true}
use Rattle.std.proofs.lemmas.List.Folds.{list_all-append, list_all-map}
use Rattle.std.specs.List.{list_all, filter_map, flat_map}
use Rattle.uno_model.specs.Entities.{Field}
use Rattle.uno_model.specs.Names.{goes_on_identifier, is_identifier, is_entity_name, parts_of}
use Rattle.uno_model.specs.Registry.{at_most_one}
use Rattle.uno_model.specs.Sound.{is_named}
use Rattle.uno_model.specs.Uses.{member_names, constructor_names, part_names, inner_names}
use Rattle.registry_reading_model.proofs.WordLaws.{identifier_all}
use Rattle.idl_model.specs.Trees.{Id, WrittenType, Item, Fields, Parameter, Constructor, ConstructorParameter, InterfaceMember, ServiceMember, Declaration}
use Rattle.idl_model.specs.Trees as tree
use Rattle.idl_meaning_model.specs.Declarations.{Declared, Origin, dotted, full_name, first_item, item_before, items_valued, all_valued}
use Rattle.idl_meaning_model.specs.FromFiles.{member_ids, constructor_ids, service_ids, inner_ids, is_spelled, has_identifiers}
use Rattle.idl_meaning_model.specs.Meaning.{type_meant, fields_meant, parameter_meant, member_meant, item_meant, constant_meant, parameters_before, rest_parameter, constructor_meant, with_create, part_meant, body_meant, entity_meant}
use Rattle.idl_rules_model.proofs.FailingLaws.{joined}

-- ---- identifiers joined by points

abbrev no_point : ℕ → Bool
no_point c = not (c == 46)

identifier_byte : (c : ℕ) → goes_on_identifier c ≡ true → no_point c ≡ true
identifier_byte c on = by_test (c == 46) refl
  where
    by_test : (b : Bool) → (c == 46) ≡ b → not b ≡ true
    by_test true is = let bad : false ≡ true = subst (λ x. goes_on_identifier x ≡ true) (eqb-true c 46 is) on in absurd (both_ways true (sym bad) refl)
    by_test false is = refl

without_points : (x : List ℕ) → is_identifier x ≡ true → list_all no_point x ≡ true
without_points x is = identifier_all no_point identifier_byte x is

one_part : (x : List ℕ) → list_all no_point x ≡ true → parts_of x ≡ x ∷ []
unfolding parts_of
one_part [] none = refl
one_part (c ∷ cs) none =
    let parts = and_parts (no_point c) (list_all no_point cs) none in
    rw (not-true (c == 46) parts.0, one_part cs parts.1) refl

first_part : (x rest : List ℕ) → list_all no_point x ≡ true → parts_of (x ++ 46 ∷ rest) ≡ x ∷ parts_of rest
unfolding parts_of
first_part [] rest none = refl
first_part (c ∷ cs) rest none =
    let parts = and_parts (no_point c) (list_all no_point cs) none in
    rw (not-true (c == 46) parts.0, first_part cs rest parts.1) refl

-- identifiers are the parts of what they are joined to
joined_parts : (x : List ℕ) (xs : List (List ℕ)) → list_all is_identifier (x ∷ xs) ≡ true → parts_of (dotted (x ∷ xs)) ≡ x ∷ xs
unfolding dotted
joined_parts x [] all = one_part x (without_points x (and_parts (is_identifier x) true all).0)
joined_parts x (y ∷ ys) all =
    let parts = and_parts (is_identifier x) (list_all is_identifier (y ∷ ys)) all in
    first_part x (dotted (y ∷ ys)) (without_points x parts.0) ∙ ap (λ ps. x ∷ ps) (joined_parts y ys parts.1)

dotted_named : (xs : List (List ℕ)) (x : List ℕ) → list_all is_identifier xs ≡ true → is_identifier x ≡ true → is_entity_name (dotted (xs ++ x ∷ [])) ≡ true
dotted_named [] x all last = let row : list_all is_identifier (x ∷ []) ≡ true = and_from (is_identifier x) true last refl in rw (joined_parts x [] row) row
dotted_named (y ∷ ys) x all last =
    let row : list_all is_identifier (y ∷ (ys ++ x ∷ [])) ≡ true =
    list_all-append is_identifier (y ∷ ys) (x ∷ []) ∙ and_from (list_all is_identifier (y ∷ ys)) (list_all is_identifier (x ∷ [])) all (and_from (is_identifier x) true last refl) in
    rw (joined_parts y (ys ++ x ∷ []) row) row

-- ---- the names inside

module _ (ds : List Declared) (modules : List (List ℕ)) where
  parameters_spelled : (ps : List Parameter) → list_all is_identifier (map (λ p. p.name) (map (parameter_meant ds modules) ps)) ≡ list_all is_spelled (map (λ (p : Parameter). p.name) ps)
  parameters_spelled [] = refl
  parameters_spelled (p ∷ ps) = ap (λ b. is_identifier p.name.name && b) (parameters_spelled ps)

  members_spelled : (members : List InterfaceMember) → list_all is_identifier (flat_map member_names (filter_map (member_meant ds modules) members)) ≡ list_all is_spelled (flat_map member_ids members)
  members_spelled [] = refl
  members_spelled (tree.base_member optional path ∷ ms) = members_spelled ms
  members_spelled (tree.attribute a ∷ ms) = ap (λ b. is_identifier a.name.name && b) (members_spelled ms)
  members_spelled (tree.method m ∷ ms) =
      joined is_identifier is_spelled (m.name.name ∷ map (λ p. p.name) (map (parameter_meant ds modules) m.parameters)) (flat_map member_names (filter_map (member_meant ds modules) ms))
      (m.name ∷ map (λ (p : Parameter). p.name) m.parameters) (flat_map member_ids ms) (ap (λ b. is_identifier m.name.name && b) (parameters_spelled m.parameters)) (members_spelled ms)

  abbrev field_spelled : Field → Bool
  field_spelled f = is_identifier f.name

  ids_spelled : (type : WrittenType) (names : List Id) → list_all field_spelled (map (λ (id : Id). record { name = id.name; kind = type_meant ds modules type }) names) ≡ list_all is_spelled names
  ids_spelled type [] = refl
  ids_spelled type (n ∷ ns) = ap (λ b. is_identifier n.name && b) (ids_spelled type ns)

  each_field_spelled : (members : List Fields) → list_all field_spelled (flat_map (fields_meant ds modules) members) ≡ list_all is_spelled (flat_map (λ (m : Fields). m.names) members)
  each_field_spelled [] = refl
  each_field_spelled (m ∷ ms) =
      joined field_spelled is_spelled (fields_meant ds modules m) (flat_map (fields_meant ds modules) ms) m.names (flat_map (λ (k : Fields). k.names) ms) (ids_spelled m.type m.names) (each_field_spelled ms)

  fields_spelled : (members : List Fields) → list_all is_identifier (map (λ (f : Field). f.name) (flat_map (fields_meant ds modules) members)) ≡ list_all is_spelled (flat_map (λ (m : Fields). m.names) members)
  fields_spelled members = list_all-map is_identifier (λ (f : Field). f.name) (flat_map (fields_meant ds modules) members) ∙ each_field_spelled members

  abbrev given : List ConstructorParameter → List Field
  given ps = map (λ (p : ConstructorParameter). record { name = p.name.name; kind = type_meant ds modules p.type }) ps

  given_spelled : (ps : List ConstructorParameter) → list_all is_identifier (map (λ (f : Field). f.name) (given (parameters_before ps)) ++ at_most_one (rest_parameter ps)) ≡ list_all is_spelled (map (λ (p : ConstructorParameter). p.name) ps)
  given_spelled [] = refl
  given_spelled (p ∷ []) = by_rest p.rest
    where
      by_rest : (b : Bool) → list_all is_identifier (map (λ (f : Field). f.name) (given (if b then [] else p ∷ [])) ++ at_most_one (if b then Some p.name.name else None)) ≡ (is_identifier p.name.name && true)
      by_rest true = refl
      by_rest false = refl
  given_spelled (p ∷ (q ∷ ps)) = ap (λ b. is_identifier p.name.name && b) (given_spelled (q ∷ ps))

  constructors_spelled : (cs : List Constructor) → list_all is_identifier (flat_map constructor_names (map (constructor_meant ds modules) cs)) ≡ list_all is_spelled (flat_map constructor_ids cs)
  constructors_spelled [] = refl
  constructors_spelled (c ∷ cs) =
      joined is_identifier is_spelled (constructor_names (constructor_meant ds modules c)) (flat_map constructor_names (map (constructor_meant ds modules) cs)) (constructor_ids c) (flat_map constructor_ids cs)
      (ap (λ b. is_identifier c.name.name && b) (given_spelled c.parameters)) (constructors_spelled cs)

  parts_spelled : (members : List ServiceMember) → list_all is_identifier (flat_map part_names (map (part_meant ds modules) members)) ≡ list_all is_spelled (flat_map service_ids members)
  parts_spelled [] = refl
  parts_spelled (tree.face optional path ∷ ms) = parts_spelled ms
  parts_spelled (tree.subservice optional path ∷ ms) = parts_spelled ms
  parts_spelled (tree.property p ∷ ms) = ap (λ b. is_identifier p.name.name && b) (parts_spelled ms)

module _ (ds : List Declared) where
  items_spelled : (d : Declared) (without : Origin) (items : List Item) → list_all is_identifier (map (λ i. i.name) (map (item_meant (all_valued ds)) (items_valued d without items))) ≡ list_all is_spelled (map (λ (i : Item). i.name) items)
  unfolding items_valued
  items_spelled d without [] = refl
  items_spelled d without (i ∷ is) = ap (λ b. is_identifier i.name.name && b) (items_spelled d (item_before i.name.place) is)

  constants_spelled : (d : Declared) (cs : List tree.Constant) → list_all is_identifier (map (λ c. c.name) (map (constant_meant ds d) cs)) ≡ list_all is_spelled (map (λ (c : tree.Constant). c.name) cs)
  constants_spelled d [] = refl
  constants_spelled d (c ∷ cs) = ap (λ b. is_identifier c.name.name && b) (constants_spelled d cs)

  body_spelled : (d : Declared) (body : Declaration) → list_all is_spelled (inner_ids body) ≡ true → list_all is_identifier (inner_names (body_meant ds d body)) ≡ true
  unfolding body_meant inner_ids with_create
  body_spelled d tree.forward all = refl
  body_spelled d (tree.interface base members) all = members_spelled ds d.modules members ∙ all
  body_spelled d (tree.struct base members) all = fields_spelled ds d.modules members ∙ all
  body_spelled d (tree.exception base members) all = fields_spelled ds d.modules members ∙ all
  body_spelled d (tree.enum items) all = items_spelled d first_item items ∙ all
  body_spelled d (tree.constants cs) all = constants_spelled d cs ∙ all
  body_spelled d (tree.typedef t) all = refl
  body_spelled d (tree.new_service base []) all = refl
  body_spelled d (tree.new_service base (c ∷ cs)) all = constructors_spelled ds d.modules (c ∷ cs) ∙ all
  body_spelled d (tree.old_service members) all = parts_spelled ds d.modules members ∙ all
  body_spelled d (tree.new_singleton base) all = refl
  body_spelled d (tree.old_singleton service) all = refl

  pub entity_named : (d : Declared) → has_identifiers d ≡ true → is_named (entity_meant ds d) ≡ true
  unfolding has_identifiers
  entity_named d all =
      let parts = and_parts (list_all is_identifier d.modules && is_spelled d.name) (list_all is_spelled (inner_ids d.body)) all in
      let front = and_parts (list_all is_identifier d.modules) (is_spelled d.name) parts.0 in
      and_from (is_entity_name (full_name d)) (list_all is_identifier (inner_names (body_meant ds d d.body))) (dotted_named d.modules d.name.name front.0 front.1) (body_spelled d d.body parts.1)
