-- Names of the language are identifiers, and so have keys with texts that no others have.
use Rattle.std.proofs.Common.{◌≡◌, refl, sym, ap, ◌∙◌, ℕ, Bool, true, false, List, [], ◌∷◌, ◌++◌, map, None, Some, if◌then◌else◌}
use Rattle.std.proofs.lemmas.Bool.{and_parts}
use Rattle.std.proofs.lemmas.List.Folds.{list_all-append}
use Rattle.std.specs.List.{AllByRecursion, flat_map, list_all}
use Rattle.std.specs.Str.{bytes_eq}
use Rattle.idl_meaning_model.specs.FromFiles.{constructor_ids, inner_ids, is_spelled, member_ids, service_ids}
use Rattle.idl_meaning_model.specs.Meaning.{is_read_only}
use Rattle.idl_model.specs.Trees as tree
use Rattle.idl_repeated_names.specs.Meeting.{accessors_named, arguments_named, at_accessor, at_id, calls_named, line_named, member_named, members_named, methods_named, own_fields_named, own_functions_named, own_lists, parameters_named, property_named}
use Rattle.idl_repeated_names.specs.Twins.{HaveKeys, Named}
use Rattle.idl_repeated_names.proofs.MeetingLemmas.{keys_both}
use Rattle.rules_over_bases.specs.OwnNames.{getter_name, setter_name}
use Rattle.rules_over_bases.specs.Seen.{IsPlain}
use Rattle.uno_model.specs.BuiltIn.{built_in}
use Rattle.uno_model.specs.Entities as uno
use Rattle.uno_model.specs.Entities.{Entity}
use Rattle.uno_model.specs.Names.{is_identifier}
use Rattle.uno_model.specs.Registry.{find_entity}

-- ---- identifiers

no_getter : (name : List ℕ) → is_identifier (getter_name name) ≡ false
unfolding getter_name
no_getter name = refl

no_setter : (name : List ℕ) → is_identifier (setter_name name) ≡ false
unfolding setter_name
no_setter name = refl

pub spelled_plain : (name : List ℕ) → is_identifier name ≡ true → IsPlain name
spelled_plain name spelled =
    record {
      reads_none = λ a is. let bad : true ≡ false = sym spelled ∙ ap (λ (n : List ℕ). is_identifier n) is ∙ no_getter a in absurd cc;
      writes_none = λ a is. let bad : true ≡ false = sym spelled ∙ ap (λ (n : List ℕ). is_identifier n) is ∙ no_setter a in absurd cc;
    }

-- ---- lists

pub all_parts : {X : Type 0} (p : X → Bool) (xs ys : List X) → list_all p (xs ++ ys) ≡ true → (list_all p xs ≡ true) × (list_all p ys ≡ true)
all_parts p xs ys all = and_parts (list_all p xs) (list_all p ys) (sym (list_all-append p xs ys) ∙ all)

pub keys_joined : {X : Type 0} (f : X → List Named) (xs : List X) → ((x : X) → HaveKeys (f x)) → HaveKeys (flat_map f xs)
keys_joined f [] have = tt
keys_joined f (x ∷ xs) have = keys_both (f x) (flat_map f xs) (have x) (keys_joined f xs have)

-- names of what is declared inside
ids_keys : {X : Type 0} (id : X → tree.Id) (xs : List X) → list_all is_spelled (map id xs) ≡ true → HaveKeys (map (λ x. at_id (id x)) xs)
ids_keys id [] all = tt
ids_keys id (x ∷ xs) all =
    let parts = and_parts (is_spelled (id x)) (list_all is_spelled (map id xs)) all in
    (spelled_plain (id x).name parts.0, ids_keys id xs parts.1)

-- ---- interfaces

members_keys : (ms : List tree.InterfaceMember) → list_all is_spelled (flat_map member_ids ms) ≡ true → HaveKeys (flat_map member_named ms)
members_keys [] all = tt
members_keys (tree.base_member optional path ∷ ms) all = members_keys ms all
members_keys (tree.attribute a ∷ ms) all =
    let parts = and_parts (is_spelled a.name) (list_all is_spelled (flat_map member_ids ms)) all in
    (spelled_plain a.name.name parts.0, members_keys ms parts.1)
members_keys (tree.method m ∷ ms) all =
    let ids : List tree.Id = map (λ p. p.name) m.parameters in
    let parts = and_parts (is_spelled m.name) (list_all is_spelled (ids ++ flat_map member_ids ms)) all in
    let rest = all_parts is_spelled ids (flat_map member_ids ms) parts.1 in
    (spelled_plain m.name.name parts.0, members_keys ms rest.1)

parameters_keys : (ms : List tree.InterfaceMember) → list_all is_spelled (flat_map member_ids ms) ≡ true → AllByRecursion HaveKeys (map parameters_named ms)
parameters_keys [] all = tt
parameters_keys (tree.base_member optional path ∷ ms) all = (tt, parameters_keys ms all)
parameters_keys (tree.attribute a ∷ ms) all = (tt, parameters_keys ms (and_parts (is_spelled a.name) (list_all is_spelled (flat_map member_ids ms)) all).1)
parameters_keys (tree.method m ∷ ms) all =
    let ids : List tree.Id = map (λ p. p.name) m.parameters in
    let parts = and_parts (is_spelled m.name) (list_all is_spelled (ids ++ flat_map member_ids ms)) all in
    let rest = all_parts is_spelled ids (flat_map member_ids ms) parts.1 in
    (ids_keys (λ (p : tree.Parameter). p.name) m.parameters rest.0, parameters_keys ms rest.1)

calls_keys : (ms : List tree.InterfaceMember) → list_all is_spelled (flat_map member_ids ms) ≡ true → HaveKeys (flat_map calls_named ms)
calls_keys [] all = tt
calls_keys (tree.base_member optional path ∷ ms) all = calls_keys ms all
calls_keys (tree.attribute a ∷ ms) all = calls_keys ms (and_parts (is_spelled a.name) (list_all is_spelled (flat_map member_ids ms)) all).1
calls_keys (tree.method m ∷ ms) all =
    let ids : List tree.Id = map (λ p. p.name) m.parameters in
    let parts = and_parts (is_spelled m.name) (list_all is_spelled (ids ++ flat_map member_ids ms)) all in
    let rest = all_parts is_spelled ids (flat_map member_ids ms) parts.1 in
    (spelled_plain m.name.name parts.0, calls_keys ms rest.1)

accessors_keys : (m : tree.InterfaceMember) → HaveKeys (accessors_named m)
accessors_keys (tree.base_member optional path) = tt
accessors_keys (tree.method m) = tt
accessors_keys (tree.attribute a) = by_access (is_read_only a)
  where
    by_access : (b : Bool) → HaveKeys (if b then at_accessor 1 a.name ∷ [] else at_accessor 1 a.name ∷ (at_accessor 2 a.name ∷ []))
    by_access true = (tt, tt)
    by_access false = (tt, (tt, tt))

-- ---- others

lines_keys : (ms : List tree.Fields) → list_all is_spelled (flat_map (λ (m : tree.Fields). m.names) ms) ≡ true → HaveKeys (flat_map line_named ms)
lines_keys [] all = tt
lines_keys (m ∷ ms) all =
    let parts = all_parts is_spelled m.names (flat_map (λ (k : tree.Fields). k.names) ms) all in
    keys_both (line_named m) (flat_map line_named ms) (line_keys m.names parts.0) (lines_keys ms parts.1)
  where
    line_keys : (ids : List tree.Id) → list_all is_spelled ids ≡ true → HaveKeys (map at_id ids)
    line_keys [] every = tt
    line_keys (i ∷ is) every =
        let both = and_parts (is_spelled i) (list_all is_spelled is) every in
        (spelled_plain i.name both.0, line_keys is both.1)

constructors_keys : (cs : List tree.Constructor) → list_all is_spelled (flat_map constructor_ids cs) ≡ true → HaveKeys (map (λ (c : tree.Constructor). at_id c.name) cs)
constructors_keys [] all = tt
constructors_keys (c ∷ cs) all =
    let ids : List tree.Id = map (λ p. p.name) c.parameters in
    let parts = and_parts (is_spelled c.name) (list_all is_spelled (ids ++ flat_map constructor_ids cs)) all in
    let rest = all_parts is_spelled ids (flat_map constructor_ids cs) parts.1 in
    (spelled_plain c.name.name parts.0, constructors_keys cs rest.1)

arguments_keys : (cs : List tree.Constructor) → list_all is_spelled (flat_map constructor_ids cs) ≡ true → AllByRecursion HaveKeys (map arguments_named cs)
arguments_keys [] all = tt
arguments_keys (c ∷ cs) all =
    let ids : List tree.Id = map (λ p. p.name) c.parameters in
    let parts = and_parts (is_spelled c.name) (list_all is_spelled (ids ++ flat_map constructor_ids cs)) all in
    let rest = all_parts is_spelled ids (flat_map constructor_ids cs) parts.1 in
    (ids_keys (λ (p : tree.ConstructorParameter). p.name) c.parameters rest.0, arguments_keys cs rest.1)

properties_keys : (ms : List tree.ServiceMember) → list_all is_spelled (flat_map service_ids ms) ≡ true → HaveKeys (flat_map property_named ms)
properties_keys [] all = tt
properties_keys (tree.property p ∷ ms) all =
    let parts = and_parts (is_spelled p.name) (list_all is_spelled (flat_map service_ids ms)) all in
    (spelled_plain p.name.name parts.0, properties_keys ms parts.1)
properties_keys (tree.face optional path ∷ ms) all = properties_keys ms all
properties_keys (tree.subservice optional path ∷ ms) all = properties_keys ms all

-- ---- declarations

pub own_lists_keys : (body : tree.Declaration) → list_all is_spelled (inner_ids body) ≡ true → AllByRecursion HaveKeys (own_lists body)
unfolding inner_ids
own_lists_keys (tree.interface base members) all = (members_keys members all, parameters_keys members all)
own_lists_keys (tree.enum items) all = (ids_keys (λ (i : tree.Item). i.name) items all, tt)
own_lists_keys (tree.constants cs) all = (ids_keys (λ (c : tree.Constant). c.name) cs all, tt)
own_lists_keys (tree.new_service base constructors) all = (constructors_keys constructors all, arguments_keys constructors all)
own_lists_keys (tree.old_service members) all = (properties_keys members all, tt)
own_lists_keys _ all = tt

pub own_functions_keys : (body : tree.Declaration) → list_all is_spelled (inner_ids body) ≡ true → HaveKeys (own_functions_named body)
unfolding inner_ids
own_functions_keys (tree.interface base members) all =
    keys_both (flat_map accessors_named members) (flat_map calls_named members) (keys_joined accessors_named members accessors_keys) (calls_keys members all)
own_functions_keys _ all = tt

pub own_fields_keys : (body : tree.Declaration) → list_all is_spelled (inner_ids body) ≡ true → HaveKeys (own_fields_named body)
unfolding inner_ids
own_fields_keys (tree.struct base members) all = lines_keys members all
own_fields_keys (tree.exception base members) all = lines_keys members all
own_fields_keys _ all = tt

-- ---- what is built in

abbrev method_is_spelled : uno.Member → Bool
method_is_spelled (uno.method m) = is_identifier m.name
method_is_spelled (uno.attribute a) = false

-- its names are identifiers, and it has no attributes
abbrev pub is_bare : uno.Body → Bool
is_bare (uno.interface bases members) = list_all method_is_spelled members
is_bare (uno.struct base members) = list_all (λ f. is_identifier f.name) members
is_bare (uno.exception base members) = list_all (λ f. is_identifier f.name) members
is_bare _ = true

all_are_bare : list_all (λ (e : Entity). is_bare e.body) built_in ≡ true
all_are_bare = refl

found_passes : (test : Entity → Bool) (es : List Entity) (name : List ℕ) (e : Entity) → list_all test es ≡ true → find_entity name es ≡ Some e → test e ≡ true
unfolding find_entity
found_passes test [] name e all found = let bad : ⊥ = cc in absurd bad
found_passes test (x ∷ xs) name e all found = by_name (bytes_eq name x.name) found (λ more there. found_passes test xs name e more there)
  where
    parts : (test x ≡ true) × (list_all test xs ≡ true)
    parts = and_parts (test x) (list_all test xs) all

    same_some : Some x ≡ Some e → x ≡ e
    same_some is = cc

    by_name : (b : Bool) → (if b then Some x else find_entity name xs) ≡ Some e → (list_all test xs ≡ true → find_entity name xs ≡ Some e → test e ≡ true) → test e ≡ true
    by_name true is later = sym (ap test (same_some is)) ∙ parts.0
    by_name false is later = later parts.1 is

pub built_in_is_bare : (name : List ℕ) (e : Entity) → find_entity name built_in ≡ Some e → is_bare e.body ≡ true
built_in_is_bare name e found = found_passes (λ (k : Entity). is_bare k.body) built_in name e all_are_bare found

methods_have : (ms : List uno.Member) → list_all method_is_spelled ms ≡ true → HaveKeys (methods_named (uno.interface [] ms))
methods_have [] all = tt
methods_have (uno.method m ∷ ms) all =
    let parts = and_parts (is_identifier m.name) (list_all method_is_spelled ms) all in
    (spelled_plain m.name parts.0, methods_have ms parts.1)
methods_have (uno.attribute a ∷ ms) all = let bad : ⊥ = cc in absurd bad

fields_have : (fs : List uno.Field) → list_all (λ (f : uno.Field). is_identifier f.name) fs ≡ true → HaveKeys (members_named (uno.struct None fs))
fields_have [] all = tt
fields_have (f ∷ fs) all =
    let parts = and_parts (is_identifier f.name) (list_all (λ (k : uno.Field). is_identifier k.name) fs) all in
    (spelled_plain f.name parts.0, fields_have fs parts.1)

pub methods_keys : (body : uno.Body) → is_bare body ≡ true → HaveKeys (methods_named body)
methods_keys (uno.interface bases members) all = methods_have members all
methods_keys _ all = tt

pub fields_keys : (body : uno.Body) → is_bare body ≡ true → HaveKeys (members_named body)
fields_keys (uno.struct base members) all = fields_have members all
fields_keys (uno.exception base members) all = fields_have members all
fields_keys _ all = tt
