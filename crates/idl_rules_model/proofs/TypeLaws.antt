-- The tenth rule is kept by the entities meant where no place breaks it, and none is on a circle.
use Rattle.std.proofs.Common.{◌≡◌, ℕ, zero, suc, Bool, true, false, ◌&&◌, List, [], ◌∷◌, ◌++◌, map, length, None, Some, Option, ◌⊎◌, inl, inr, refl, sym, ap, subst, ◌∙◌, arith, if◌then◌else◌}
use Rattle.std.proofs.lemmas.Bool.{both_ways, and_parts, and_from}
use Rattle.std.specs.List.{AllByRecursion, Contains, list_all, filter_map, flat_map}
use Rattle.std.specs.Prelude.{unwrap_or}
use Rattle.std.specs.Str.{bytes_eq}
use Rattle.uno_model.specs.BuiltIn.{built_in}
use Rattle.uno_model.specs.Circles.{Leads, ends_within}
use Rattle.uno_model.specs.Entities.{Entity, Body}
use Rattle.uno_model.specs.Entities as uno
use Rattle.uno_model.specs.Kinds.{Kind}
use Rattle.uno_model.specs.Kinds as kd
use Rattle.uno_model.specs.NamedTypes.{kind_of_body, kind_of_entity}
use Rattle.uno_model.specs.Registry.{find_entity}
use Rattle.uno_model.specs.Sound.{is_there, is_interface, is_struct, is_exception, is_enum, is_type_body, kind_known, is_storable, elements_storable, is_value, is_target, types_known, types_allowed}
use Rattle.uno_model.specs.Uses.{value_kinds, result_kinds, target_kinds, value_kinds_of, result_kinds_of, property_kinds, kinds_in}
use Rattle.uno_model.proofs.CircleLaws.{next_ends, none_ends_at_once}
use Rattle.uno_model.proofs.Options.{same_some}
use Rattle.registry_text_model.specs.NoCircles.{leads_on_to}
use Rattle.registry_text_model.specs.TypesAtTheirPlaces.{types_stand_at_their_places}
use Rattle.idl_model.specs.Places.{Place}
use Rattle.idl_model.specs.Trees.{Path, Simple, WrittenType, simple, named, sequence_of, Fields, Parameter, Constructor, ConstructorParameter, InterfaceMember, ServiceMember, Declaration}
use Rattle.idl_model.specs.Trees as tree
use Rattle.idl_meaning_model.specs.Declarations.{Declared, entities_declared, is_forward}
use Rattle.idl_meaning_model.specs.FromFiles.{leaf_places, are_apart}
use Rattle.idl_meaning_model.specs.Meaning.{name_meant, simple_meant, type_over, declared_type, type_of_declared, type_named, name_type, path_meant, type_meant}
use Rattle.idl_meaning_model.specs.Meaning.{fields_meant, parameter_meant, member_meant, constant_meant, parameters_before, constructor_meant, with_create, part_meant, body_meant, entity_meant, registry_of}
use Rattle.idl_meaning_model.specs.NameFaults.{declared_twice}
use Rattle.idl_meaning_model.specs.Scopes.{declared_as}
use Rattle.idl_meaning_model.proofs.EachLaws.{append_none, each_append, of_each_append, each_weaker, none_of_each}
use Rattle.idl_meaning_model.proofs.RegistryLaws.{declared_each, not_forward, found_of_declared, found_of_others}
use Rattle.idl_rules_model.specs.TypePlaces.{Standing, value, target, kind_may_stand, is_type_name, path_may_stand, at_unless, wrong_in_type}
use Rattle.idl_rules_model.specs.TypePlaces.{Stands, as_value, in_member, in_service, types_standing, wrong_rests, wrong_types}
use Rattle.idl_rules_model.proofs.TypedefLaws.{IsTypedefAs, head_names, targets, targets_of_typedef, type_of_typedef, type_from, type_same, one_more_step, each_ends, named_by}

-- ---- types

unless_none : (place : Place) (right : Bool) → at_unless place right ≡ [] → right ≡ true
unless_none place true none = refl
unless_none place false none = let bad : ⊥ = cc in absurd bad

simple_known : (reg : List Entity) (s : Simple) → (kind_known reg (simple_meant s) ≡ true) × (elements_storable (simple_meant s) ≡ true)
simple_known reg tree.void = (refl, refl)
simple_known reg tree.char = (refl, refl)
simple_known reg tree.boolean = (refl, refl)
simple_known reg tree.byte = (refl, refl)
simple_known reg tree.short = (refl, refl)
simple_known reg tree.unsigned_short = (refl, refl)
simple_known reg tree.long = (refl, refl)
simple_known reg tree.unsigned_long = (refl, refl)
simple_known reg tree.hyper = (refl, refl)
simple_known reg tree.unsigned_hyper = (refl, refl)
simple_known reg tree.float = (refl, refl)
simple_known reg tree.double = (refl, refl)
simple_known reg tree.str = (refl, refl)
simple_known reg tree.kind = (refl, refl)
simple_known reg tree.any = (refl, refl)

-- what may stand as a value may be stored
storable_value : (k : Kind) → kind_may_stand value k ≡ true → is_storable k ≡ true
storable_value kd.void may = may
storable_value kd.char may = refl
storable_value kd.boolean may = refl
storable_value kd.byte may = refl
storable_value kd.short may = refl
storable_value kd.unsigned_short may = refl
storable_value kd.long may = refl
storable_value kd.unsigned_long may = refl
storable_value kd.hyper may = refl
storable_value kd.unsigned_hyper may = refl
storable_value kd.str may = refl
storable_value kd.kind may = refl
storable_value kd.any may = refl
storable_value (kd.enum name) may = refl
storable_value (kd.struct name) may = refl
storable_value (kd.exception name) may = may
storable_value (kd.interface name) may = refl
storable_value (kd.sequence k) may = refl

target_stands : (k : Kind) → kind_may_stand target k ≡ true → elements_storable k ≡ true → is_target k ≡ true
target_stands kd.void may elements = may
target_stands kd.char may elements = refl
target_stands kd.boolean may elements = refl
target_stands kd.byte may elements = refl
target_stands kd.short may elements = refl
target_stands kd.unsigned_short may elements = refl
target_stands kd.long may elements = refl
target_stands kd.unsigned_long may elements = refl
target_stands kd.hyper may elements = refl
target_stands kd.unsigned_hyper may elements = refl
target_stands kd.str may elements = refl
target_stands kd.kind may elements = refl
target_stands kd.any may elements = refl
target_stands (kd.enum name) may elements = refl
target_stands (kd.struct name) may elements = refl
target_stands (kd.exception name) may elements = refl
target_stands (kd.interface name) may elements = refl
target_stands (kd.sequence k) may elements = elements

-- ---- built-in entities

pub found_with : (Q : Entity → Type 0) (name : List ℕ) (es : List Entity) (e : Entity) → AllByRecursion Q es → find_entity name es ≡ Some e → Q e
unfolding find_entity
found_with Q name [] e all found = let bad : ⊥ = cc in absurd bad
found_with Q name (f ∷ fs) e all found = by_test (bytes_eq name f.name) found (found_with Q name fs e all.1)
  where
    by_test : (b : Bool) → (if b then Some f else find_entity name fs) ≡ Some e → (find_entity name fs ≡ Some e → Q e) → Q e
    by_test true found rest = let same : f ≡ e = same_some found in subst Q same all.0
    by_test false found rest = rest found

-- a type's entity has the type of its name
kind_of_type : (reg : List Entity) (name : List ℕ) (e : Entity) → find_entity name reg ≡ Some e → is_type_body e.body ≡ true → (k : Kind) × (kind_of_body name e.body ≡ Some k) × (kind_known reg k ≡ true) × (elements_storable k ≡ true)
kind_of_type reg name e found type = by_body e.body refl type
  where
    there : (wanted : Body → Bool) → wanted e.body ≡ true → is_there reg wanted name ≡ true
    there wanted right = rw found right

    by_body : (body : Body) → e.body ≡ body → is_type_body body ≡ true → (k : Kind) × (kind_of_body name body ≡ Some k) × (kind_known reg k ≡ true) × (elements_storable k ≡ true)
    by_body (uno.interface bases members) is type = (kd.interface name, refl, there is_interface (ap is_interface is), refl)
    by_body (uno.struct base members) is type = (kd.struct name, refl, there is_struct (ap is_struct is), refl)
    by_body (uno.exception base members) is type = (kd.exception name, refl, there is_exception (ap is_exception is), refl)
    by_body (uno.enum items) is type = (kd.enum name, refl, there is_enum (ap is_enum is), refl)
    by_body (uno.constants cs) is type = let bad : ⊥ = cc in absurd bad
    by_body (uno.typedef k) is type = let bad : ⊥ = cc in absurd bad
    by_body (uno.new_service base constructors) is type = let bad : ⊥ = cc in absurd bad
    by_body (uno.old_service parts) is type = let bad : ⊥ = cc in absurd bad
    by_body (uno.new_singleton base) is type = let bad : ⊥ = cc in absurd bad
    by_body (uno.old_singleton service) is type = let bad : ⊥ = cc in absurd bad

module _ (ds : List Declared) (apart : are_apart (leaf_places ds) ≡ true) (none : declared_twice ds ≡ [])
    (circles : (name : List ℕ) (d : Declared) → declared_as ds name ≡ Some d → ¬ Leads (leads_on_to (registry_of ds)) name name)
    (right : AllByRecursion (λ d. wrong_types ds (registry_of ds) d ≡ []) (entities_declared ds)) where
  abbrev reg : List Entity
  reg = registry_of ds

  abbrev is_type_there : List ℕ → Bool
  is_type_there name = is_there reg is_type_name name

  built_in_types : AllByRecursion (λ e. is_type_body e.body ≡ true) built_in
  built_in_types = (refl, (refl, (refl, (refl, (refl, tt)))))

  -- ---- names that are no typedefs

  -- the type of a name that is a type but no typedef, at any number of steps
  abbrev HasType : List ℕ → Type 0
  HasType name = (k : Kind) × ((n : ℕ) → type_named n ds name ≡ Some k) × (kind_known reg k ≡ true) × (elements_storable k ≡ true)

  body_has_type : (name : List ℕ) (d : Declared) (body : Declaration) → declared_as ds name ≡ Some d → d.body ≡ body → is_forward body ≡ false → is_type_there name ≡ true
      → ((t : WrittenType) → body ≡ tree.typedef t → ⊥) → HasType name
  unfolding body_meant
  body_has_type name d body found is entity type other = by_body body is entity other
    where
      known : (wanted : Body → Bool) → wanted (body_meant ds d d.body) ≡ true → is_there reg wanted name ≡ true
      known wanted passes = rw (found_of_declared ds apart none name d found) passes

      at_steps : (b : Declaration) (k : Kind) → d.body ≡ b → ((f : WrittenType → Option Kind) → declared_type f name b ≡ Some k) → (n : ℕ) → type_named n ds name ≡ Some k
      at_steps b k is gives n =
          let f = named_by ds n name in
          f.1 ∙ ap (type_of_declared f.0 name) found ∙ ap (declared_type (f.0 d) name) is ∙ gives (f.0 d)

      no_type : (b : Declaration) → d.body ≡ b → is_type_name (body_meant ds d b) ≡ false → ⊥
      no_type b is fails = both_ways (is_type_there name) (rw (found_of_declared ds apart none name d found) (ap (λ c. is_type_name (body_meant ds d c)) is ∙ fails)) type

      by_body : (b : Declaration) → d.body ≡ b → is_forward b ≡ false → ((t : WrittenType) → b ≡ tree.typedef t → ⊥) → HasType name
      by_body tree.forward is entity other = let bad : ⊥ = cc in absurd bad
      by_body (tree.interface base members) is entity other = (kd.interface name, at_steps (tree.interface base members) (kd.interface name) is (λ f. refl), known is_interface (ap (λ b. is_interface (body_meant ds d b)) is), refl)
      by_body (tree.struct base members) is entity other = (kd.struct name, at_steps (tree.struct base members) (kd.struct name) is (λ f. refl), known is_struct (ap (λ b. is_struct (body_meant ds d b)) is), refl)
      by_body (tree.exception base members) is entity other = (kd.exception name, at_steps (tree.exception base members) (kd.exception name) is (λ f. refl), known is_exception (ap (λ b. is_exception (body_meant ds d b)) is), refl)
      by_body (tree.enum items) is entity other = (kd.enum name, at_steps (tree.enum items) (kd.enum name) is (λ f. refl), known is_enum (ap (λ b. is_enum (body_meant ds d b)) is), refl)
      by_body (tree.constants cs) is entity other = absurd (no_type (tree.constants cs) is refl)
      by_body (tree.typedef t) is entity other = absurd (other t refl)
      by_body (tree.new_service base constructors) is entity other = absurd (no_type (tree.new_service base constructors) is refl)
      by_body (tree.old_service members) is entity other = absurd (no_type (tree.old_service members) is refl)
      by_body (tree.new_singleton base) is entity other = absurd (no_type (tree.new_singleton base) is refl)
      by_body (tree.old_singleton service) is entity other = absurd (no_type (tree.old_singleton service) is refl)

  other_has_type : (name : List ℕ) (d : Declared) → declared_as ds name ≡ Some d → is_type_there name ≡ true → ((t : WrittenType) → d.body ≡ tree.typedef t → ⊥) → HasType name
  other_has_type name d found type other =
      body_has_type name d d.body found refl (declared_each (λ x. is_forward x.body ≡ false) ds name d (not_forward ds) found).0 type other

  built_in_has_type : (name : List ℕ) → declared_as ds name ≡ None → is_type_there name ≡ true → HasType name
  built_in_has_type name absent type = by_find (find_entity name built_in) refl
    where
      by_find : (o : Option Entity) → find_entity name built_in ≡ o → HasType name
      by_find None missing =
          let nothing : find_entity name reg ≡ None = found_of_others ds apart none name absent ∙ missing in
          let bad : false ≡ true = rw nothing at type in
          absurd (both_ways true (sym bad) refl)
      by_find (Some e) found =
          let here : find_entity name reg ≡ Some e = found_of_others ds apart none name absent ∙ found in
          let kind = kind_of_type reg name e here (found_with (λ x. is_type_body x.body ≡ true) name built_in e built_in_types found) in (
            kind.0,
            λ n.
                let f = named_by ds n name in
                f.1 ∙ ap (type_of_declared f.0 name) absent ∙ ap (kind_of_entity name) found ∙ kind.1,
            kind.2,
            kind.3,
          )

  -- a name that is a type is a typedef, or has its type
  by_type : (name : List ℕ) → is_type_there name ≡ true → ((d : Declared) × (t : WrittenType) × IsTypedefAs ds name d t) ⊎ HasType name
  by_type name type = by_found (declared_as ds name) refl
    where
      by_found : (o : Option Declared) → declared_as ds name ≡ o → ((d : Declared) × (t : WrittenType) × IsTypedefAs ds name d t) ⊎ HasType name
      by_found None absent = inr (built_in_has_type name absent type)
      by_found (Some d) found = by_body d found (typedef_or_not d.body)
        where
          typedef_or_not : (b : Declaration) → ((t : WrittenType) × (b ≡ tree.typedef t)) ⊎ ((t : WrittenType) → b ≡ tree.typedef t → ⊥)
          typedef_or_not tree.forward = inr (λ t is. let bad : ⊥ = cc in bad)
          typedef_or_not (tree.interface base members) = inr (λ t is. let bad : ⊥ = cc in bad)
          typedef_or_not (tree.struct base members) = inr (λ t is. let bad : ⊥ = cc in bad)
          typedef_or_not (tree.exception base members) = inr (λ t is. let bad : ⊥ = cc in bad)
          typedef_or_not (tree.enum items) = inr (λ t is. let bad : ⊥ = cc in bad)
          typedef_or_not (tree.constants cs) = inr (λ t is. let bad : ⊥ = cc in bad)
          typedef_or_not (tree.typedef t) = inl (t, refl)
          typedef_or_not (tree.new_service base constructors) = inr (λ t is. let bad : ⊥ = cc in bad)
          typedef_or_not (tree.old_service members) = inr (λ t is. let bad : ⊥ = cc in bad)
          typedef_or_not (tree.new_singleton base) = inr (λ t is. let bad : ⊥ = cc in bad)
          typedef_or_not (tree.old_singleton service) = inr (λ t is. let bad : ⊥ = cc in bad)

          by_body : (e : Declared) → declared_as ds name ≡ Some e → ((t : WrittenType) × (e.body ≡ tree.typedef t)) ⊎ ((t : WrittenType) → e.body ≡ tree.typedef t → ⊥) → ((d : Declared) × (t : WrittenType) × IsTypedefAs ds name d t) ⊎ HasType name
          by_body e found (inl it) = inl (e, it.0, (found, it.1))
          by_body e found (inr other) = inr (other_has_type name e found type other)

  -- ---- typedefs

  -- nothing is wrong with a typedef's target
  target_right : (name : List ℕ) (d : Declared) (t : WrittenType) → IsTypedefAs ds name d t → wrong_in_type ds reg d.modules target t ≡ []
  unfolding wrong_types types_standing
  target_right name d t it =
      let all = (declared_each (λ x. wrong_types ds reg x ≡ []) ds name d right it.0).0 in
      let parts = append_none (flat_map (λ s. wrong_in_type ds reg d.modules s.standing s.type) (types_standing d.body)) (wrong_rests ds d.modules d.body) all in
      (append_none (wrong_in_type ds reg d.modules target t) [] (ap (λ b. flat_map (λ s. wrong_in_type ds reg d.modules s.standing s.type) (types_standing b)) (sym it.1) ∙ parts.0)).0

  -- each name in a type of which nothing is wrong is a type
  heads_types : (modules : List (List ℕ)) (standing : Standing) (t : WrittenType) → wrong_in_type ds reg modules standing t ≡ [] → (name : List ℕ) → Contains (head_names ds modules t) name → is_type_there name ≡ true
  unfolding wrong_in_type
  heads_types modules standing (simple p s) nothing name in' = let bad : ⊥ = omega (arith, in'.1) in absurd bad
  heads_types modules standing (named path ts) nothing name (zero, low, here) =
      let may = unless_none path.place (path_may_stand ds reg modules standing path) nothing in
      subst (λ n. is_type_there n ≡ true) here (and_parts (is_type_there (name_meant ds modules path)) (kind_may_stand standing (path_meant ds modules path)) may).0
  heads_types modules standing (named path ts) nothing name (suc i, low, here) = let bad : ⊥ = omega arith in absurd bad
  heads_types modules standing (sequence_of p t) nothing name in' = heads_types modules value t nothing name in'

  -- a name that ends has a type
  ends_typed : (n : ℕ) (name : List ℕ) → ends_within (targets ds) n name ≡ true → is_type_there name ≡ true → (k : Kind) × (type_named n ds name ≡ Some k)
  ends_typed zero name ends type = absurd (none_ends_at_once (targets ds) name ends)
  ends_typed (suc n) name ends type = elim (by_type name type) [
    | inl it ↦
        let heads = heads_types it.0.modules target it.1 (target_right name it.0 it.1 it.2) in
        let whole = type_from ds it.0.modules (type_named n ds) it.1 (λ b in'. ends_typed n b (next_ends (targets ds) n name b ends (to_target name it.0 it.1 it.2 b in')) (heads b in')) in
        (whole.0, type_of_typedef ds n name it.0 it.1 it.2.0 it.2.1 ∙ whole.1)
    | inr has ↦ (has.0, has.1 (suc n))
  ]
    where
      to_target : (name : List ℕ) (d : Declared) (t : WrittenType) → IsTypedefAs ds name d t → (b : List ℕ) → Contains (head_names ds d.modules t) b → Contains (targets ds name) b
      to_target name d t it b in' = subst (λ (xs : List (List ℕ)). Contains xs b) (sym (targets_of_typedef ds name d t it.0 it.1)) in'

  -- what a name has as its type at enough steps is the type that it stands for
  name_stands : (name : List ℕ) (k : Kind) → type_named (suc (length ds)) ds name ≡ Some k → name_type ds name ≡ k
  unfolding name_type
  name_stands name k is = ap (λ o. unwrap_or o (kd.struct name)) is

  -- a typedef stands for what its target means
  typedef_stands : (name : List ℕ) (d : Declared) (t : WrittenType) → IsTypedefAs ds name d t → name_type ds name ≡ type_meant ds d.modules t
  unfolding type_meant
  typedef_stands name d t it =
      let heads = heads_types d.modules target t (target_right name d t it) in
      name_stands name (type_over (path_meant ds d.modules) t) (type_of_typedef ds (length ds) name d t it.0 it.1 ∙ type_same ds d.modules (type_named (length ds) ds) (name_type ds) t (each_head heads))
    where
      each_head : ((b : List ℕ) → Contains (head_names ds d.modules t) b → is_type_there b ≡ true) → (b : List ℕ) → Contains (head_names ds d.modules t) b → type_named (length ds) ds b ≡ Some (name_type ds b)
      each_head heads b in' =
          let ends = next_ends (targets ds) (length ds) name b (each_ends ds apart none circles name) (subst (λ (xs : List (List ℕ)). Contains xs b) (sym (targets_of_typedef ds name d t it.0 it.1)) in') in
          let has = ends_typed (length ds) b ends (heads b in') in
          has.1 ∙ ap (λ k. Some k) (sym (name_stands b has.0 (one_more_step ds (length ds) b has.0 has.1)))

  -- ---- what is written

  abbrev IsRight : Standing → Kind → Type 0
  IsRight standing k = (kind_known reg k ≡ true) × (elements_storable k ≡ true) × (kind_may_stand standing k ≡ true)

  abbrev HeadsRight : List (List ℕ) → WrittenType → Type 0
  HeadsRight modules t = (name : List ℕ) → Contains (head_names ds modules t) name → (kind_known reg (name_type ds name) ≡ true) × (elements_storable (name_type ds name) ≡ true)

  written_right : (modules : List (List ℕ)) (standing : Standing) (t : WrittenType) → wrong_in_type ds reg modules standing t ≡ [] → HeadsRight modules t → IsRight standing (type_over (path_meant ds modules) t)
  unfolding wrong_in_type type_over
  written_right modules standing (simple p s) nothing heads =
      let known = simple_known reg s in
      (known.0, known.1, unless_none p (kind_may_stand standing (simple_meant s)) nothing)
  written_right modules standing (named path ts) nothing heads =
      let may = unless_none path.place (path_may_stand ds reg modules standing path) nothing in
      let head = heads (name_meant ds modules path) (0, omega arith, refl) in
      (head.0, head.1, (and_parts (is_type_there (name_meant ds modules path)) (kind_may_stand standing (path_meant ds modules path)) may).1)
  written_right modules standing (sequence_of p t) nothing heads =
      let inner = written_right modules value t nothing heads in
      let k = type_over (path_meant ds modules) t in
      (inner.0, and_from (is_storable k) (elements_storable k) (storable_value k inner.2) inner.1, refl)

  name_right : (n : ℕ) (name : List ℕ) → ends_within (targets ds) n name ≡ true → is_type_there name ≡ true → (kind_known reg (name_type ds name) ≡ true) × (elements_storable (name_type ds name) ≡ true)
  unfolding type_meant
  name_right zero name ends type = absurd (none_ends_at_once (targets ds) name ends)
  name_right (suc n) name ends type = elim (by_type name type) [
    | inl it ↦
        let nothing = target_right name it.0 it.1 it.2 in
        let heads = heads_types it.0.modules target it.1 nothing in
        let whole = written_right it.0.modules target it.1 nothing (λ b in'. name_right n b (next_ends (targets ds) n name b ends (subst (λ (xs : List (List ℕ)). Contains xs b) (sym (targets_of_typedef ds name it.0 it.1 it.2.0 it.2.1)) in')) (heads b in')) in
        subst (λ k. (kind_known reg k ≡ true) × (elements_storable k ≡ true)) (sym (typedef_stands name it.0 it.1 it.2)) (whole.0, whole.1)
    | inr has ↦ subst (λ k. (kind_known reg k ≡ true) × (elements_storable k ≡ true)) (sym (name_stands name has.0 (has.1 (suc (length ds))))) (has.2, has.3)
  ]

  -- ---- the types of an entity

  abbrev StandsRight : List (List ℕ) → Stands → Type 0
  StandsRight modules s = IsRight s.standing (type_meant ds modules s.type)

  standing_right : (d : Declared) → wrong_types ds reg d ≡ [] → AllByRecursion (StandsRight d.modules) (types_standing d.body)
  unfolding wrong_types type_meant
  standing_right d nothing =
      let parts = append_none (flat_map (λ s. wrong_in_type ds reg d.modules s.standing s.type) (types_standing d.body)) (wrong_rests ds d.modules d.body) nothing in
      each_weaker (λ s. wrong_in_type ds reg d.modules s.standing s.type ≡ []) (StandsRight d.modules) (types_standing d.body)
      (λ s none_here. written_right d.modules s.standing s.type none_here (λ b in'.
      name_right (suc (length ds)) b (each_ends ds apart none circles b) (heads_types d.modules s.standing s.type none_here b in')))
      (none_of_each (λ s. wrong_in_type ds reg d.modules s.standing s.type) (types_standing d.body) parts.0)

  abbrev ValueRight : Kind → Type 0
  ValueRight k = (kind_known reg k ≡ true) × (is_value k ≡ true)

  abbrev ResultRight : Kind → Type 0
  ResultRight k = (kind_known reg k ≡ true) × (elements_storable k ≡ true)

  abbrev TargetRight : Kind → Type 0
  TargetRight k = (kind_known reg k ≡ true) × (is_target k ≡ true)

  value_right : (k : Kind) → IsRight value k → ValueRight k
  value_right k right = (right.0, and_from (is_storable k) (elements_storable k) (storable_value k right.2) right.1)

  parameters_right : (modules : List (List ℕ)) (ps : List Parameter) → AllByRecursion (StandsRight modules) (map (λ (p : Parameter). as_value p.type) ps) → AllByRecursion ValueRight (map (λ p. p.kind) (map (parameter_meant ds modules) ps))
  parameters_right modules [] all = tt
  parameters_right modules (p ∷ ps) all = (value_right (type_meant ds modules p.type) all.0, parameters_right modules ps all.1)

  members_right : (modules : List (List ℕ)) (members : List InterfaceMember) → AllByRecursion (StandsRight modules) (flat_map in_member members)
      → AllByRecursion ValueRight (flat_map value_kinds_of (filter_map (member_meant ds modules) members)) × AllByRecursion ResultRight (flat_map result_kinds_of (filter_map (member_meant ds modules) members))
  members_right modules [] all = (tt, tt)
  members_right modules (tree.base_member optional path ∷ ms) all = members_right modules ms all
  members_right modules (tree.attribute a ∷ ms) all =
      let rest = members_right modules ms all.1 in
      ((value_right (type_meant ds modules a.type) all.0, rest.0), rest.1)
  members_right modules (tree.method m ∷ ms) all =
      let parts = of_each_append (StandsRight modules) (map (λ (p : Parameter). as_value p.type) m.parameters) (flat_map in_member ms) all.1 in
      let rest = members_right modules ms parts.1 in (
        each_append ValueRight (map (λ p. p.kind) (map (parameter_meant ds modules) m.parameters)) (flat_map value_kinds_of (filter_map (member_meant ds modules) ms)) (parameters_right modules m.parameters parts.0) rest.0,
        ((all.0.0, all.0.1), rest.1),
      )

  fields_right : (modules : List (List ℕ)) (members : List Fields) → AllByRecursion (StandsRight modules) (map (λ (m : Fields). as_value m.type) members) → AllByRecursion ValueRight (map (λ f. f.kind) (flat_map (fields_meant ds modules) members))
  fields_right modules [] all = tt
  fields_right modules (m ∷ ms) all = named_right m (value_right (type_meant ds modules m.type) all.0) m.names (flat_map (fields_meant ds modules) ms) (fields_right modules ms all.1)
    where
      named_right : (m : Fields) → ValueRight (type_meant ds modules m.type) → (names : List tree.Id) (rest : List uno.Field) → AllByRecursion ValueRight (map (λ f. f.kind) rest)
          → AllByRecursion ValueRight (map (λ f. f.kind) (map (λ (id : tree.Id). record { name = id.name; kind = type_meant ds modules m.type }) names ++ rest))
      named_right m here [] rest others = others
      named_right m here (n ∷ ns) rest others = (here, named_right m here ns rest others)

  constants_right : (d : Declared) (cs : List tree.Constant) → AllByRecursion (StandsRight d.modules) (map (λ (c : tree.Constant). as_value c.type) cs) → AllByRecursion ValueRight (map (λ c. c.kind) (map (constant_meant ds d) cs))
  constants_right d [] all = tt
  constants_right d (c ∷ cs) all = (value_right (type_meant ds d.modules c.type) all.0, constants_right d cs all.1)

  abbrev given : List (List ℕ) → List ConstructorParameter → List uno.Field
  given modules ps = map (λ (p : ConstructorParameter). record { name = p.name.name; kind = type_meant ds modules p.type }) ps

  before_right : (modules : List (List ℕ)) (ps : List ConstructorParameter) → AllByRecursion (StandsRight modules) (map (λ (p : ConstructorParameter). as_value p.type) ps) → AllByRecursion ValueRight (map (λ f. f.kind) (given modules (parameters_before ps)))
  before_right modules [] all = tt
  before_right modules (p ∷ []) all = by_rest p.rest
    where
      by_rest : (b : Bool) → AllByRecursion ValueRight (map (λ f. f.kind) (given modules (if b then [] else p ∷ [])))
      by_rest true = tt
      by_rest false = (value_right (type_meant ds modules p.type) all.0, tt)
  before_right modules (p ∷ (q ∷ ps)) all = (value_right (type_meant ds modules p.type) all.0, before_right modules (q ∷ ps) all.1)

  constructors_right : (modules : List (List ℕ)) (cs : List Constructor) → AllByRecursion (StandsRight modules) (flat_map (λ (c : Constructor). map (λ (p : ConstructorParameter). as_value p.type) c.parameters) cs)
      → AllByRecursion ValueRight (flat_map (λ c. map (λ f. f.kind) c.params) (map (constructor_meant ds modules) cs))
  constructors_right modules [] all = tt
  constructors_right modules (c ∷ cs) all =
      let parts = of_each_append (StandsRight modules) (map (λ (p : ConstructorParameter). as_value p.type) c.parameters) (flat_map (λ (k : Constructor). map (λ (p : ConstructorParameter). as_value p.type) k.parameters) cs) all in
      each_append ValueRight (map (λ f. f.kind) (given modules (parameters_before c.parameters))) (flat_map (λ k. map (λ f. f.kind) k.params) (map (constructor_meant ds modules) cs)) (before_right modules c.parameters parts.0) (constructors_right modules cs parts.1)

  parts_right : (modules : List (List ℕ)) (members : List ServiceMember) → AllByRecursion (StandsRight modules) (flat_map in_service members) → AllByRecursion ValueRight (flat_map property_kinds (map (part_meant ds modules) members))
  parts_right modules [] all = tt
  parts_right modules (tree.face optional path ∷ ms) all = parts_right modules ms all
  parts_right modules (tree.subservice optional path ∷ ms) all = parts_right modules ms all
  parts_right modules (tree.property p ∷ ms) all = (value_right (type_meant ds modules p.type) all.0, parts_right modules ms all.1)

  abbrev KindsRight : Body → Type 0
  KindsRight body = AllByRecursion ValueRight (value_kinds body) × AllByRecursion ResultRight (result_kinds body) × AllByRecursion TargetRight (target_kinds body)

  body_right : (d : Declared) (body : Declaration) → AllByRecursion (StandsRight d.modules) (types_standing body) → KindsRight (body_meant ds d body)
  unfolding body_meant types_standing with_create
  body_right d tree.forward all = (tt, tt, tt)
  body_right d (tree.interface base members) all = let both = members_right d.modules members all in (both.0, both.1, tt)
  body_right d (tree.struct base members) all = (fields_right d.modules members all, tt, tt)
  body_right d (tree.exception base members) all = (fields_right d.modules members all, tt, tt)
  body_right d (tree.enum items) all = (tt, tt, tt)
  body_right d (tree.constants cs) all = (constants_right d cs all, tt, tt)
  body_right d (tree.typedef t) all = (tt, tt, ((all.0.0, target_stands (type_meant ds d.modules t) all.0.2 all.0.1), tt))
  body_right d (tree.new_service base []) all = (tt, tt, tt)
  body_right d (tree.new_service base (c ∷ cs)) all = (constructors_right d.modules (c ∷ cs) all, tt, tt)
  body_right d (tree.old_service members) all = (parts_right d.modules members all, tt, tt)
  body_right d (tree.new_singleton base) all = (tt, tt, tt)
  body_right d (tree.old_singleton service) all = (tt, tt, tt)

  all_from_each : (p : Kind → Bool) (ks : List Kind) → AllByRecursion (λ k. p k ≡ true) ks → list_all p ks ≡ true
  all_from_each p [] all = refl
  all_from_each p (k ∷ ks) all = and_from (p k) (list_all p ks) all.0 (all_from_each p ks all.1)

  kinds_pass : (body : Body) → KindsRight body → (types_known reg body && types_allowed body) ≡ true
  kinds_pass body kinds =
      let values = each_weaker ValueRight (λ k. kind_known reg k ≡ true) (value_kinds body) (λ k both. both.0) kinds.0 in
      let results = each_weaker ResultRight (λ k. kind_known reg k ≡ true) (result_kinds body) (λ k both. both.0) kinds.1 in
      let goals = each_weaker TargetRight (λ k. kind_known reg k ≡ true) (target_kinds body) (λ k both. both.0) kinds.2 in
      let all = each_append (λ k. kind_known reg k ≡ true) (value_kinds body) (result_kinds body ++ target_kinds body) values (each_append (λ k. kind_known reg k ≡ true) (result_kinds body) (target_kinds body) results goals) in
      and_from (types_known reg body) (types_allowed body) (all_from_each (kind_known reg) (kinds_in body) all)
      (and_from (list_all is_value (value_kinds body)) (list_all elements_storable (result_kinds body) && list_all is_target (target_kinds body))
      (all_from_each is_value (value_kinds body) (each_weaker ValueRight (λ k. is_value k ≡ true) (value_kinds body) (λ k both. both.1) kinds.0))
      (and_from (list_all elements_storable (result_kinds body)) (list_all is_target (target_kinds body))
      (all_from_each elements_storable (result_kinds body) (each_weaker ResultRight (λ k. elements_storable k ≡ true) (result_kinds body) (λ k both. both.1) kinds.1))
      (all_from_each is_target (target_kinds body) (each_weaker TargetRight (λ k. is_target k ≡ true) (target_kinds body) (λ k both. both.1) kinds.2))))

  pub types_kept : (d : Declared) → wrong_types ds reg d ≡ [] → types_stand_at_their_places reg (entity_meant ds d) ≡ true
  unfolding types_stand_at_their_places
  types_kept d nothing = kinds_pass (body_meant ds d d.body) (body_right d d.body (standing_right d nothing))
