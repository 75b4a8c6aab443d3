-- The tenth rule is broken nowhere where the entities meant keep it and each `...` stands where it may: what an entity has as the type of a name is known to it
-- only if that name is a type, and a typedef's target is judged at the typedef.
use Rattle.std.proofs.Common.{◌≡◌, ℕ, suc, Bool, true, false, not, ◌&&◌, ◌||◌, List, [], ◌∷◌, ◌++◌, map, length, None, Some, Option, refl, sym, ap, ap₂, subst, ◌∙◌, if◌then◌else◌}
use Rattle.std.proofs.lemmas.Bool.{both_ways, and_parts, and_from}
use Rattle.std.specs.List.{AllByRecursion, list_all, filter_map, flat_map}
use Rattle.std.specs.Prelude.{unwrap_or}
use Rattle.uno_model.specs.BuiltIn.{built_in}
use Rattle.uno_model.specs.Entities.{Entity, Body}
use Rattle.uno_model.specs.Entities as uno
use Rattle.uno_model.specs.Kinds.{Kind}
use Rattle.uno_model.specs.Kinds as kd
use Rattle.uno_model.specs.NamedTypes.{kind_of_entity}
use Rattle.uno_model.specs.Registry.{find_entity}
use Rattle.uno_model.specs.Sound.{is_there, is_struct, kind_known, is_storable, elements_storable, is_value, is_target, types_known, types_allowed}
use Rattle.uno_model.specs.Uses.{value_kinds, result_kinds, target_kinds, value_kinds_of, result_kinds_of, property_kinds, kinds_in}
use Rattle.uno_model.specs.Sound.{is_some_list}
use Rattle.registry_text_model.specs.TypesAtTheirPlaces.{types_stand_at_their_places}
use Rattle.idl_model.specs.Places.{Place}
use Rattle.idl_model.specs.Trees.{WrittenType, simple, named, sequence_of, Fields, Parameter, Constructor, ConstructorParameter, InterfaceMember, ServiceMember, Declaration}
use Rattle.idl_model.specs.Trees as tree
use Rattle.idl_meaning_model.specs.Declarations.{Declared, is_forward}
use Rattle.idl_meaning_model.specs.FromFiles.{leaf_places, are_apart}
use Rattle.idl_meaning_model.specs.Meaning.{name_meant, simple_meant, type_over, declared_type, type_of_declared, type_named, name_type, path_meant, type_meant}
use Rattle.idl_meaning_model.specs.Meaning.{fields_meant, parameter_meant, member_meant, constant_meant, parameters_before, constructor_meant, with_create, part_meant, body_meant, entity_meant, registry_of}
use Rattle.idl_meaning_model.specs.NameFaults.{declared_twice}
use Rattle.idl_meaning_model.specs.Scopes.{declared_as}
use Rattle.idl_meaning_model.proofs.EachLaws.{append_none, each_append, of_each_append, each_both, each_weaker, none_of_all}
use Rattle.idl_meaning_model.proofs.RegistryLaws.{declared_each, not_forward, found_of_declared, found_of_others}
use Rattle.idl_rules_model.specs.TypePlaces.{Standing, value, result, target, kind_may_stand, is_type_name, path_may_stand, at_unless, wrong_in_type}
use Rattle.idl_rules_model.specs.TypePlaces.{is_any, place_of_type, wrong_rest, Stands, as_value, in_member, in_service, types_standing, wrong_rests, wrong_types}
use Rattle.idl_rules_model.specs.Unshown.{rest_is_last, rests_are_last, members_have_names}
use Rattle.idl_rules_model.proofs.TypeLaws.{found_with}
use Rattle.idl_rules_model.proofs.TypedefLaws.{named_by}

-- ---- kinds

-- what may be stored may stand as a value
value_may : (k : Kind) → is_storable k ≡ true → kind_may_stand value k ≡ true
value_may kd.void may = may
value_may kd.char may = refl
value_may kd.boolean may = refl
value_may kd.byte may = refl
value_may kd.short may = refl
value_may kd.unsigned_short may = refl
value_may kd.long may = refl
value_may kd.unsigned_long may = refl
value_may kd.hyper may = refl
value_may kd.unsigned_hyper may = refl
value_may kd.str may = refl
value_may kd.kind may = refl
value_may kd.any may = refl
value_may (kd.enum name) may = refl
value_may (kd.struct name) may = refl
value_may (kd.exception name) may = may
value_may (kd.interface name) may = refl
value_may (kd.sequence k) may = refl

-- every type may be a result
result_may : (k : Kind) → kind_may_stand result k ≡ true
result_may kd.void = refl
result_may kd.char = refl
result_may kd.boolean = refl
result_may kd.byte = refl
result_may kd.short = refl
result_may kd.unsigned_short = refl
result_may kd.long = refl
result_may kd.unsigned_long = refl
result_may kd.hyper = refl
result_may kd.unsigned_hyper = refl
result_may kd.str = refl
result_may kd.kind = refl
result_may kd.any = refl
result_may (kd.enum name) = refl
result_may (kd.struct name) = refl
result_may (kd.exception name) = refl
result_may (kd.interface name) = refl
result_may (kd.sequence k) = refl

target_may : (k : Kind) → is_target k ≡ true → (kind_may_stand target k ≡ true) × (elements_storable k ≡ true)
target_may kd.void may = (may, refl)
target_may kd.char may = (refl, refl)
target_may kd.boolean may = (refl, refl)
target_may kd.byte may = (refl, refl)
target_may kd.short may = (refl, refl)
target_may kd.unsigned_short may = (refl, refl)
target_may kd.long may = (refl, refl)
target_may kd.unsigned_long may = (refl, refl)
target_may kd.hyper may = (refl, refl)
target_may kd.unsigned_hyper may = (refl, refl)
target_may kd.str may = (refl, refl)
target_may kd.kind may = (refl, refl)
target_may kd.any may = (refl, refl)
target_may (kd.enum name) may = (refl, refl)
target_may (kd.struct name) may = (refl, refl)
target_may (kd.exception name) may = (refl, refl)
target_may (kd.interface name) may = (refl, refl)
target_may (kd.sequence k) may = (refl, may)

none_unless : (place : Place) (right : Bool) → right ≡ true → at_unless place right ≡ []
none_unless place true is = refl
none_unless place false is = let bad : ⊥ = cc in absurd bad

-- a struct is a type
struct_is_type : (b : Body) → is_struct b ≡ true → is_type_name b ≡ true
struct_is_type (uno.interface bases members) is = refl
struct_is_type (uno.struct base members) is = refl
struct_is_type (uno.exception base members) is = refl
struct_is_type (uno.enum items) is = refl
struct_is_type (uno.constants cs) is = let bad : ⊥ = cc in absurd bad
struct_is_type (uno.typedef k) is = refl
struct_is_type (uno.new_service base constructors) is = let bad : ⊥ = cc in absurd bad
struct_is_type (uno.old_service parts) is = let bad : ⊥ = cc in absurd bad
struct_is_type (uno.new_singleton base) is = let bad : ⊥ = cc in absurd bad
struct_is_type (uno.old_singleton service) is = let bad : ⊥ = cc in absurd bad

there_weaker : (reg : List Entity) (p q : Body → Bool) (name : List ℕ) → ((b : Body) → p b ≡ true → q b ≡ true) → is_there reg p name ≡ true → is_there reg q name ≡ true
there_weaker reg p q name weaker there = by_find (find_entity name reg) refl
  where
    by_find : (o : Option Entity) → find_entity name reg ≡ o → is_there reg q name ≡ true
    by_find None missing = let bad : false ≡ true = rw missing at there in absurd (both_ways true (sym bad) refl)
    by_find (Some e) found = let here : p e.body ≡ true = rw found at there in rw found (weaker e.body here)

-- the type of what is neither a type nor a typedef is a struct of its name
data Form (name : List ℕ) (ds : List Declared) (d : Declared) : Type 0 where
  a_type : is_type_name (body_meant ds d d.body) ≡ true → Form name ds d
  a_struct : ((f : WrittenType → Option Kind) → declared_type f name d.body ≡ Some (kd.struct name)) → Form name ds d

form_of : (name : List ℕ) (ds : List Declared) (d : Declared) (body : Declaration) → d.body ≡ body → is_forward body ≡ false → Form name ds d
unfolding body_meant
form_of name ds d tree.forward is entity = let bad : ⊥ = cc in absurd bad
form_of name ds d (tree.interface base members) is entity = a_type (ap (λ b. is_type_name (body_meant ds d b)) is)
form_of name ds d (tree.struct base members) is entity = a_type (ap (λ b. is_type_name (body_meant ds d b)) is)
form_of name ds d (tree.exception base members) is entity = a_type (ap (λ b. is_type_name (body_meant ds d b)) is)
form_of name ds d (tree.enum items) is entity = a_type (ap (λ b. is_type_name (body_meant ds d b)) is)
form_of name ds d (tree.constants cs) is entity = a_struct (λ f. ap (declared_type f name) is)
form_of name ds d (tree.typedef t) is entity = a_type (ap (λ b. is_type_name (body_meant ds d b)) is)
form_of name ds d (tree.new_service base constructors) is entity = a_struct (λ f. ap (declared_type f name) is)
form_of name ds d (tree.old_service members) is entity = a_struct (λ f. ap (declared_type f name) is)
form_of name ds d (tree.new_singleton base) is entity = a_struct (λ f. ap (declared_type f name) is)
form_of name ds d (tree.old_singleton service) is entity = a_struct (λ f. ap (declared_type f name) is)

-- ---- `...`

module _ (ds : List Declared) (modules : List (List ℕ)) where
  pub rests_none : (ps : List ConstructorParameter) → rest_is_last ds modules ps ≡ true → wrong_rest ds modules ps ≡ []
  unfolding rest_is_last wrong_rest
  rests_none [] last = refl
  rests_none (p ∷ []) last = none_unless (place_of_type p.type) (not p.rest || is_any (type_meant ds modules p.type)) last
  rests_none (p ∷ (q ∷ ps)) last =
      let parts = and_parts (not p.rest) (rest_is_last ds modules (q ∷ ps)) last in
      ap₂ (λ xs ys. xs ++ ys) (none_unless (place_of_type p.type) (not p.rest) parts.0) (rests_none (q ∷ ps) parts.1)

  right_unless : (place : Place) (right : Bool) → at_unless place right ≡ [] → right ≡ true
  right_unless place true none = refl
  right_unless place false none = let bad : ⊥ = cc in absurd bad

  pub none_rests : (ps : List ConstructorParameter) → wrong_rest ds modules ps ≡ [] → rest_is_last ds modules ps ≡ true
  unfolding rest_is_last wrong_rest
  none_rests [] none = refl
  none_rests (p ∷ []) none = right_unless (place_of_type p.type) (not p.rest || is_any (type_meant ds modules p.type)) none
  none_rests (p ∷ (q ∷ ps)) none =
      let parts = append_none (at_unless (place_of_type p.type) (not p.rest)) (wrong_rest ds modules (q ∷ ps)) none in
      and_from (not p.rest) (rest_is_last ds modules (q ∷ ps)) (right_unless (place_of_type p.type) (not p.rest) parts.0) (none_rests (q ∷ ps) parts.1)

  pub constructors_none : (cs : List Constructor) → list_all (λ (c : Constructor). rest_is_last ds modules c.parameters) cs ≡ true → flat_map (λ (c : Constructor). wrong_rest ds modules c.parameters) cs ≡ []
  constructors_none [] last = refl
  constructors_none (c ∷ cs) last =
      let parts = and_parts (rest_is_last ds modules c.parameters) (list_all (λ (k : Constructor). rest_is_last ds modules k.parameters) cs) last in
      ap₂ (λ xs ys. xs ++ ys) (rests_none c.parameters parts.0) (constructors_none cs parts.1)

  pub none_constructors : (cs : List Constructor) → flat_map (λ (c : Constructor). wrong_rest ds modules c.parameters) cs ≡ [] → list_all (λ (c : Constructor). rest_is_last ds modules c.parameters) cs ≡ true
  none_constructors [] none = refl
  none_constructors (c ∷ cs) none =
      let parts = append_none (wrong_rest ds modules c.parameters) (flat_map (λ (k : Constructor). wrong_rest ds modules k.parameters) cs) none in
      and_from (rest_is_last ds modules c.parameters) (list_all (λ (k : Constructor). rest_is_last ds modules k.parameters) cs) (none_rests c.parameters parts.0) (none_constructors cs parts.1)

pub rests_stand : (ds : List Declared) (d : Declared) (body : Declaration) → wrong_rests ds d.modules body ≡ [] → rests_are_last ds d.modules body ≡ true
rests_stand ds d tree.forward none = refl
rests_stand ds d (tree.interface base members) none = refl
rests_stand ds d (tree.struct base members) none = refl
rests_stand ds d (tree.exception base members) none = refl
rests_stand ds d (tree.enum items) none = refl
rests_stand ds d (tree.constants cs) none = refl
rests_stand ds d (tree.typedef t) none = refl
rests_stand ds d (tree.new_service base constructors) none = none_constructors ds d.modules constructors none
rests_stand ds d (tree.old_service members) none = refl
rests_stand ds d (tree.new_singleton base) none = refl
rests_stand ds d (tree.old_singleton service) none = refl

no_wrong_rests : (ds : List Declared) (d : Declared) (body : Declaration) → rests_are_last ds d.modules body ≡ true → wrong_rests ds d.modules body ≡ []
no_wrong_rests ds d tree.forward last = refl
no_wrong_rests ds d (tree.interface base members) last = refl
no_wrong_rests ds d (tree.struct base members) last = refl
no_wrong_rests ds d (tree.exception base members) last = refl
no_wrong_rests ds d (tree.enum items) last = refl
no_wrong_rests ds d (tree.constants cs) last = refl
no_wrong_rests ds d (tree.typedef t) last = refl
no_wrong_rests ds d (tree.new_service base constructors) last = constructors_none ds d.modules constructors last
no_wrong_rests ds d (tree.old_service members) last = refl
no_wrong_rests ds d (tree.new_singleton base) last = refl
no_wrong_rests ds d (tree.old_singleton service) last = refl

pub unshown_types : (ds : List Declared) (reg : List Entity) (d : Declared) → wrong_types ds reg d ≡ [] → rests_are_last ds d.modules d.body ≡ true
unfolding wrong_types
unshown_types ds reg d none =
    rests_stand ds d d.body (append_none (flat_map (λ s. wrong_in_type ds reg d.modules s.standing s.type) (types_standing d.body)) (wrong_rests ds d.modules d.body) none).1

-- ---- what an entity knows as a type is one

module _ (ds : List Declared) (apart : are_apart (leaf_places ds) ≡ true) (none : declared_twice ds ≡ []) where
  abbrev reg : List Entity
  reg = registry_of ds

  abbrev is_type_there : List ℕ → Bool
  is_type_there name = is_there reg is_type_name name

  built_in_types : AllByRecursion (λ e. is_type_name e.body ≡ true) built_in
  built_in_types = (refl, (refl, (refl, (refl, (refl, tt)))))

  declared_known : (name : List ℕ) (d : Declared) → declared_as ds name ≡ Some d → kind_known reg (name_type ds name) ≡ true → is_type_there name ≡ true
  unfolding name_type
  declared_known name d found known = by_form (form_of name ds d d.body refl (declared_each (λ x. is_forward x.body ≡ false) ds name d (not_forward ds) found).0)
    where
      by_form : Form name ds d → is_type_there name ≡ true
      by_form (a_type is) = rw (found_of_declared ds apart none name d found) is
      by_form (a_struct is) =
          let f = named_by ds (suc (length ds)) name in
          let kind : type_named (suc (length ds)) ds name ≡ Some (kd.struct name) = f.1 ∙ ap (type_of_declared f.0 name) found ∙ is (f.0 d) in
          let struct : is_there reg is_struct name ≡ true = subst (λ (o : Option Kind). kind_known reg (unwrap_or o (kd.struct name)) ≡ true) kind known in
          there_weaker reg is_struct is_type_name name struct_is_type struct

  other_known : (name : List ℕ) → declared_as ds name ≡ None → kind_known reg (name_type ds name) ≡ true → is_type_there name ≡ true
  unfolding name_type
  other_known name absent known = by_find (find_entity name built_in) refl
    where
      by_find : (o : Option Entity) → find_entity name built_in ≡ o → is_type_there name ≡ true
      by_find None missing =
          let f = named_by ds (suc (length ds)) name in
          let kind : type_named (suc (length ds)) ds name ≡ None = f.1 ∙ ap (type_of_declared f.0 name) absent ∙ ap (kind_of_entity name) missing in
          let struct : is_there reg is_struct name ≡ true = subst (λ (o : Option Kind). kind_known reg (unwrap_or o (kd.struct name)) ≡ true) kind known in
          there_weaker reg is_struct is_type_name name struct_is_type struct
      by_find (Some e) found =
          let here : find_entity name reg ≡ Some e = found_of_others ds apart none name absent ∙ found in
          rw here (found_with (λ x. is_type_name x.body ≡ true) name built_in e built_in_types found)

  type_there : (name : List ℕ) → kind_known reg (name_type ds name) ≡ true → is_type_there name ≡ true
  type_there name known = by_found (declared_as ds name) refl
    where
      by_found : (o : Option Declared) → declared_as ds name ≡ o → is_type_there name ≡ true
      by_found None absent = other_known name absent known
      by_found (Some d) found = declared_known name d found known

  -- ---- written types

  abbrev IsRight : Standing → Kind → Type 0
  IsRight standing k = (kind_known reg k ≡ true) × (elements_storable k ≡ true) × (kind_may_stand standing k ≡ true)

  nothing_wrong : (modules : List (List ℕ)) (standing : Standing) (t : WrittenType) → IsRight standing (type_over (path_meant ds modules) t) → wrong_in_type ds reg modules standing t ≡ []
  unfolding wrong_in_type type_over
  nothing_wrong modules standing (simple p s) right = none_unless p (kind_may_stand standing (simple_meant s)) right.2
  nothing_wrong modules standing (named path ts) right =
      none_unless path.place (path_may_stand ds reg modules standing path)
      (and_from (is_type_there (name_meant ds modules path)) (kind_may_stand standing (path_meant ds modules path)) (type_there (name_meant ds modules path) right.0) right.2)
  nothing_wrong modules standing (sequence_of p t) right =
      let k = type_over (path_meant ds modules) t in
      let parts = and_parts (is_storable k) (elements_storable k) right.1 in
      nothing_wrong modules value t (right.0, parts.1, value_may k parts.0)

  abbrev StandsRight : List (List ℕ) → Stands → Type 0
  StandsRight modules s = IsRight s.standing (type_meant ds modules s.type)

  none_standing : (modules : List (List ℕ)) (s : Stands) → StandsRight modules s → wrong_in_type ds reg modules s.standing s.type ≡ []
  unfolding type_meant
  none_standing modules s right = nothing_wrong modules s.standing s.type right

  -- ---- the types of an entity

  abbrev ValueRight : Kind → Type 0
  ValueRight k = (kind_known reg k ≡ true) × (is_value k ≡ true)

  abbrev ResultRight : Kind → Type 0
  ResultRight k = (kind_known reg k ≡ true) × (elements_storable k ≡ true)

  abbrev TargetRight : Kind → Type 0
  TargetRight k = (kind_known reg k ≡ true) × (is_target k ≡ true)

  value_stands : (k : Kind) → ValueRight k → IsRight value k
  value_stands k right = let parts = and_parts (is_storable k) (elements_storable k) right.1 in (right.0, parts.1, value_may k parts.0)

  any_stands : (k : Kind) → is_any k ≡ true → IsRight value k
  any_stands kd.any is = (refl, refl, refl)
  any_stands kd.void is = let bad : ⊥ = cc in absurd bad
  any_stands kd.char is = let bad : ⊥ = cc in absurd bad
  any_stands kd.boolean is = let bad : ⊥ = cc in absurd bad
  any_stands kd.byte is = let bad : ⊥ = cc in absurd bad
  any_stands kd.short is = let bad : ⊥ = cc in absurd bad
  any_stands kd.unsigned_short is = let bad : ⊥ = cc in absurd bad
  any_stands kd.long is = let bad : ⊥ = cc in absurd bad
  any_stands kd.unsigned_long is = let bad : ⊥ = cc in absurd bad
  any_stands kd.hyper is = let bad : ⊥ = cc in absurd bad
  any_stands kd.unsigned_hyper is = let bad : ⊥ = cc in absurd bad
  any_stands kd.str is = let bad : ⊥ = cc in absurd bad
  any_stands kd.kind is = let bad : ⊥ = cc in absurd bad
  any_stands (kd.enum name) is = let bad : ⊥ = cc in absurd bad
  any_stands (kd.struct name) is = let bad : ⊥ = cc in absurd bad
  any_stands (kd.exception name) is = let bad : ⊥ = cc in absurd bad
  any_stands (kd.interface name) is = let bad : ⊥ = cc in absurd bad
  any_stands (kd.sequence k) is = let bad : ⊥ = cc in absurd bad

  parameters_stand : (modules : List (List ℕ)) (ps : List Parameter) → AllByRecursion ValueRight (map (λ p. p.kind) (map (parameter_meant ds modules) ps))
      → AllByRecursion (StandsRight modules) (map (λ (p : Parameter). as_value p.type) ps)
  parameters_stand modules [] all = tt
  parameters_stand modules (p ∷ ps) all = (value_stands (type_meant ds modules p.type) all.0, parameters_stand modules ps all.1)

  members_stand : (modules : List (List ℕ)) (members : List InterfaceMember) → AllByRecursion ValueRight (flat_map value_kinds_of (filter_map (member_meant ds modules) members))
      → AllByRecursion ResultRight (flat_map result_kinds_of (filter_map (member_meant ds modules) members)) → AllByRecursion (StandsRight modules) (flat_map in_member members)
  members_stand modules [] values results = tt
  members_stand modules (tree.base_member optional path ∷ ms) values results = members_stand modules ms values results
  members_stand modules (tree.attribute a ∷ ms) values results = (value_stands (type_meant ds modules a.type) values.0, members_stand modules ms values.1 results)
  members_stand modules (tree.method m ∷ ms) values results =
      let parts = of_each_append ValueRight (map (λ p. p.kind) (map (parameter_meant ds modules) m.parameters)) (flat_map value_kinds_of (filter_map (member_meant ds modules) ms)) values in (
        (results.0.0, results.0.1, result_may (type_meant ds modules m.result_type)),
        each_append (StandsRight modules) (map (λ (p : Parameter). as_value p.type) m.parameters) (flat_map in_member ms) (parameters_stand modules m.parameters parts.0) (members_stand modules ms parts.1 results.1),
      )

  -- each type of members stands in the field of its first name
  abbrev fields : List (List ℕ) → WrittenType → List tree.Id → List uno.Field
  fields modules type names = map (λ (id : tree.Id). record { name = id.name; kind = type_meant ds modules type }) names

  behind_fields : (modules : List (List ℕ)) (type : WrittenType) (names : List tree.Id) (rest : List uno.Field)
      → AllByRecursion ValueRight (map (λ f. f.kind) (fields modules type names ++ rest)) → AllByRecursion ValueRight (map (λ f. f.kind) rest)
  behind_fields modules type [] rest all = all
  behind_fields modules type (n ∷ ns) rest all = behind_fields modules type ns rest all.1

  first_field : (modules : List (List ℕ)) (type : WrittenType) (names : List tree.Id) (rest : List uno.Field) → is_some_list names ≡ true
      → AllByRecursion ValueRight (map (λ f. f.kind) (fields modules type names ++ rest)) → ValueRight (type_meant ds modules type)
  first_field modules type [] rest some all = let bad : ⊥ = cc in absurd bad
  first_field modules type (n ∷ ns) rest some all = all.0

  fields_stand : (modules : List (List ℕ)) (members : List Fields) → list_all (λ (m : Fields). is_some_list m.names) members ≡ true
      → AllByRecursion ValueRight (map (λ f. f.kind) (flat_map (fields_meant ds modules) members)) → AllByRecursion (StandsRight modules) (map (λ (m : Fields). as_value m.type) members)
  fields_stand modules [] some all = tt
  fields_stand modules (m ∷ ms) some all =
      let parts = and_parts (is_some_list m.names) (list_all (λ (k : Fields). is_some_list k.names) ms) some in
      let rest = flat_map (fields_meant ds modules) ms in (
        value_stands (type_meant ds modules m.type) (first_field modules m.type m.names rest parts.0 all),
        fields_stand modules ms parts.1 (behind_fields modules m.type m.names rest all),
      )

  constants_stand : (d : Declared) (cs : List tree.Constant) → AllByRecursion ValueRight (map (λ c. c.kind) (map (constant_meant ds d) cs))
      → AllByRecursion (StandsRight d.modules) (map (λ (c : tree.Constant). as_value c.type) cs)
  constants_stand d [] all = tt
  constants_stand d (c ∷ cs) all = (value_stands (type_meant ds d.modules c.type) all.0, constants_stand d cs all.1)

  abbrev given : List (List ℕ) → List ConstructorParameter → List uno.Field
  given modules ps = map (λ (p : ConstructorParameter). record { name = p.name.name; kind = type_meant ds modules p.type }) ps

  abbrev GivenStand : List (List ℕ) → List ConstructorParameter → Type 0
  GivenStand modules ps = AllByRecursion (StandsRight modules) (map (λ (p : ConstructorParameter). as_value p.type) ps)

  given_stand : (modules : List (List ℕ)) (ps : List ConstructorParameter) → rest_is_last ds modules ps ≡ true → AllByRecursion ValueRight (map (λ f. f.kind) (given modules (parameters_before ps))) → GivenStand modules ps
  unfolding rest_is_last
  given_stand modules [] last all = tt
  given_stand modules (p ∷ []) last all = by_rest p.rest last all
    where
      by_rest : (b : Bool) → (not b || is_any (type_meant ds modules p.type)) ≡ true → AllByRecursion ValueRight (map (λ f. f.kind) (given modules (if b then [] else p ∷ []))) → GivenStand modules (p ∷ [])
      by_rest true last all = (any_stands (type_meant ds modules p.type) last, tt)
      by_rest false last all = (value_stands (type_meant ds modules p.type) all.0, tt)
  given_stand modules (p ∷ (q ∷ ps)) last all =
      let parts = and_parts (not p.rest) (rest_is_last ds modules (q ∷ ps)) last in
      (value_stands (type_meant ds modules p.type) all.0, given_stand modules (q ∷ ps) parts.1 all.1)

  constructors_stand : (modules : List (List ℕ)) (cs : List Constructor) → list_all (λ (c : Constructor). rest_is_last ds modules c.parameters) cs ≡ true
      → AllByRecursion ValueRight (flat_map (λ c. map (λ f. f.kind) c.params) (map (constructor_meant ds modules) cs))
      → AllByRecursion (StandsRight modules) (flat_map (λ (c : Constructor). map (λ (p : ConstructorParameter). as_value p.type) c.parameters) cs)
  constructors_stand modules [] last all = tt
  constructors_stand modules (c ∷ cs) last all =
      let lasts = and_parts (rest_is_last ds modules c.parameters) (list_all (λ (k : Constructor). rest_is_last ds modules k.parameters) cs) last in
      let parts = of_each_append ValueRight (map (λ f. f.kind) (given modules (parameters_before c.parameters))) (flat_map (λ k. map (λ f. f.kind) k.params) (map (constructor_meant ds modules) cs)) all in
      each_append (StandsRight modules) (map (λ (p : ConstructorParameter). as_value p.type) c.parameters) (flat_map (λ (k : Constructor). map (λ (p : ConstructorParameter). as_value p.type) k.parameters) cs)
      (given_stand modules c.parameters lasts.0 parts.0) (constructors_stand modules cs lasts.1 parts.1)

  parts_stand : (modules : List (List ℕ)) (members : List ServiceMember) → AllByRecursion ValueRight (flat_map property_kinds (map (part_meant ds modules) members))
      → AllByRecursion (StandsRight modules) (flat_map in_service members)
  parts_stand modules [] all = tt
  parts_stand modules (tree.face optional path ∷ ms) all = parts_stand modules ms all
  parts_stand modules (tree.subservice optional path ∷ ms) all = parts_stand modules ms all
  parts_stand modules (tree.property p ∷ ms) all = (value_stands (type_meant ds modules p.type) all.0, parts_stand modules ms all.1)

  abbrev KindsRight : Body → Type 0
  KindsRight body = AllByRecursion ValueRight (value_kinds body) × AllByRecursion ResultRight (result_kinds body) × AllByRecursion TargetRight (target_kinds body)

  body_stands : (d : Declared) (body : Declaration) → members_have_names body ≡ true → rests_are_last ds d.modules body ≡ true → KindsRight (body_meant ds d body)
      → AllByRecursion (StandsRight d.modules) (types_standing body)
  unfolding body_meant types_standing with_create
  body_stands d tree.forward some last all = tt
  body_stands d (tree.interface base members) some last all = members_stand d.modules members all.0 all.1
  body_stands d (tree.struct base members) some last all = fields_stand d.modules members some all.0
  body_stands d (tree.exception base members) some last all = fields_stand d.modules members some all.0
  body_stands d (tree.enum items) some last all = tt
  body_stands d (tree.constants cs) some last all = constants_stand d cs all.0
  body_stands d (tree.typedef t) some last all =
      let may = target_may (type_meant ds d.modules t) all.2.0.1 in
      ((all.2.0.0, may.1, may.0), tt)
  body_stands d (tree.new_service base []) some last all = tt
  body_stands d (tree.new_service base (c ∷ cs)) some last all = constructors_stand d.modules (c ∷ cs) last all.0
  body_stands d (tree.old_service members) some last all = parts_stand d.modules members all.0
  body_stands d (tree.new_singleton base) some last all = tt
  body_stands d (tree.old_singleton service) some last all = tt

  each_passes : (p : Kind → Bool) (ks : List Kind) → list_all p ks ≡ true → AllByRecursion (λ k. p k ≡ true) ks
  each_passes p [] all = tt
  each_passes p (k ∷ ks) all = let parts = and_parts (p k) (list_all p ks) all in (parts.0, each_passes p ks parts.1)

  kinds_right : (body : Body) → (types_known reg body && types_allowed body) ≡ true → KindsRight body
  kinds_right body kept =
      let both = and_parts (types_known reg body) (types_allowed body) kept in
      let values = and_parts (list_all is_value (value_kinds body)) (list_all elements_storable (result_kinds body) && list_all is_target (target_kinds body)) both.1 in
      let others = and_parts (list_all elements_storable (result_kinds body)) (list_all is_target (target_kinds body)) values.1 in
      let known = of_each_append (λ k. kind_known reg k ≡ true) (value_kinds body) (result_kinds body ++ target_kinds body) (each_passes (kind_known reg) (kinds_in body) both.0) in
      let rest = of_each_append (λ k. kind_known reg k ≡ true) (result_kinds body) (target_kinds body) known.1 in (
        each_both (λ k. kind_known reg k ≡ true) (λ k. is_value k ≡ true) (value_kinds body) known.0 (each_passes is_value (value_kinds body) values.0),
        each_both (λ k. kind_known reg k ≡ true) (λ k. elements_storable k ≡ true) (result_kinds body) rest.0 (each_passes elements_storable (result_kinds body) others.0),
        each_both (λ k. kind_known reg k ≡ true) (λ k. is_target k ≡ true) (target_kinds body) rest.1 (each_passes is_target (target_kinds body) others.1),
      )

  pub no_wrong_types : (d : Declared) → members_have_names d.body ≡ true → rests_are_last ds d.modules d.body ≡ true → types_stand_at_their_places reg (entity_meant ds d) ≡ true → wrong_types ds reg d ≡ []
  unfolding wrong_types types_stand_at_their_places
  no_wrong_types d some last kept =
      ap₂ (λ xs ys. xs ++ ys)
      (none_of_all (λ s. wrong_in_type ds reg d.modules s.standing s.type) (types_standing d.body)
      (each_weaker (StandsRight d.modules) (λ s. wrong_in_type ds reg d.modules s.standing s.type ≡ []) (types_standing d.body) (none_standing d.modules)
      (body_stands d d.body some last (kinds_right (body_meant ds d d.body) kept))))
      (no_wrong_rests ds d d.body last)
