-- A type that is written as canonical UNOIDL does means the type that it writes, and each name in it stands for an entity.
use Rattle.std.proofs.Common.{◌≡◌, ℕ, suc, Bool, true, false, List, [], length, Option, None, Some, refl, sym, ap, ◌∙◌, subst, inl, inr}
use Rattle.std.specs.List.{list_all}
use Rattle.std.specs.Prelude.{unwrap_or}
use Rattle.std.proofs.lemmas.Bool.{cases_Bool, both_ways}
use Rattle.uno_model.specs.BuiltIn.{HasBuiltIn}
use Rattle.uno_model.specs.Entities.{Entity, Body}
use Rattle.uno_model.specs.Entities as uno
use Rattle.uno_model.specs.Kinds.{Kind}
use Rattle.uno_model.specs.Kinds as kd
use Rattle.uno_model.specs.NamedTypes.{kind_of_body, kind_of_entity}
use Rattle.uno_model.specs.Registry.{find_entity}
use Rattle.uno_model.specs.Sound.{is_enum, is_struct, is_exception, is_interface, is_there, kind_known}
use Rattle.uno_model.proofs.Options.{same_some, none_some}
use Rattle.registry_text_model.specs.Lines.{is_built_in_name, written}
use Rattle.idl_model.specs.Places.{Place}
use Rattle.idl_model.specs.Trees.{Simple, WrittenType, simple, named, sequence_of, no_arguments, argument, Declaration}
use Rattle.idl_model.specs.Trees as tree
use Rattle.idl_meaning_model.specs.Declarations.{Declared}
use Rattle.idl_meaning_model.specs.Meaning.{simple_meant, type_over, declared_type, type_of_declared, type_named, name_type, type_meant}
use Rattle.idl_meaning_model.specs.Scopes.{declared_as}
use Rattle.idl_meaning_model.specs.Uses.{type_paths, argument_paths, floats, argument_floats}
use Rattle.canonical_laws.specs.Written.{Each, simple_of, name_in, WritesType, WritesBody}
use Rattle.canonical_laws.proofs.DottedNames.{name_is}
use Rattle.canonical_laws.proofs.SortedRegistry.{found_built_in}
use Rattle.canonical_laws.proofs.WrittenNames.{WritesDeclared, FoundAlike, there_found, built_in_absent, own_alike, known, path_known}

-- ---- simple types

pub simple_is : (k : Kind) (s : Simple) → simple_of k ≡ Some s → simple_meant s ≡ k
simple_is kd.void s is = ap simple_meant (sym (same_some is))
simple_is kd.char s is = ap simple_meant (sym (same_some is))
simple_is kd.boolean s is = ap simple_meant (sym (same_some is))
simple_is kd.byte s is = ap simple_meant (sym (same_some is))
simple_is kd.short s is = ap simple_meant (sym (same_some is))
simple_is kd.unsigned_short s is = ap simple_meant (sym (same_some is))
simple_is kd.long s is = ap simple_meant (sym (same_some is))
simple_is kd.unsigned_long s is = ap simple_meant (sym (same_some is))
simple_is kd.hyper s is = ap simple_meant (sym (same_some is))
simple_is kd.unsigned_hyper s is = ap simple_meant (sym (same_some is))
simple_is kd.str s is = ap simple_meant (sym (same_some is))
simple_is kd.kind s is = ap simple_meant (sym (same_some is))
simple_is kd.any s is = ap simple_meant (sym (same_some is))
simple_is _ s is = absurd (none_some is)

-- and none of them is float or double
no_float : (place : Place) (k : Kind) (s : Simple) → simple_of k ≡ Some s → floats (simple place s) ≡ []
unfolding floats
no_float place kd.void s is = ap (λ t. floats (simple place t)) (sym (same_some is))
no_float place kd.char s is = ap (λ t. floats (simple place t)) (sym (same_some is))
no_float place kd.boolean s is = ap (λ t. floats (simple place t)) (sym (same_some is))
no_float place kd.byte s is = ap (λ t. floats (simple place t)) (sym (same_some is))
no_float place kd.short s is = ap (λ t. floats (simple place t)) (sym (same_some is))
no_float place kd.unsigned_short s is = ap (λ t. floats (simple place t)) (sym (same_some is))
no_float place kd.long s is = ap (λ t. floats (simple place t)) (sym (same_some is))
no_float place kd.unsigned_long s is = ap (λ t. floats (simple place t)) (sym (same_some is))
no_float place kd.hyper s is = ap (λ t. floats (simple place t)) (sym (same_some is))
no_float place kd.unsigned_hyper s is = ap (λ t. floats (simple place t)) (sym (same_some is))
no_float place kd.str s is = ap (λ t. floats (simple place t)) (sym (same_some is))
no_float place kd.kind s is = ap (λ t. floats (simple place t)) (sym (same_some is))
no_float place kd.any s is = ap (λ t. floats (simple place t)) (sym (same_some is))
no_float place _ s is = absurd (none_some is)

pub no_floats : (t : WrittenType) (k : Kind) → WritesType t k → floats t ≡ []
unfolding floats argument_floats WritesType
no_floats (simple place s) k writes = no_float place k s writes
no_floats (named path no_arguments) k writes = refl
no_floats (named path (argument t ts)) k writes = absurd writes
no_floats (sequence_of place t) k (element, is, writes) = no_floats t element writes

-- ---- the type of an entity

-- the body of a declaration is of the kind of its entity's
declared_kind : (target : WrittenType → Option Kind) (name : List ℕ) (d : Declaration) (body : Body) (k : Kind) → WritesBody d body
    → kind_of_body name body ≡ Some k → declared_type target name d ≡ Some k
unfolding WritesBody
declared_kind target name tree.forward body k writes is = absurd writes
declared_kind target name (tree.interface base members) body k (bases, own, same, rest) is = ap (kind_of_body name) (sym same) ∙ is
declared_kind target name (tree.struct base members) body k (of, fields, same, rest, more) is = ap (kind_of_body name) (sym same) ∙ is
declared_kind target name (tree.exception base members) body k (of, fields, same, rest, more) is = ap (kind_of_body name) (sym same) ∙ is
declared_kind target name (tree.enum items) body k (of, same, rest) is = ap (kind_of_body name) (sym same) ∙ is
declared_kind target name (tree.constants cs) body k (of, same, rest) is = absurd (none_some (ap (kind_of_body name) (sym same) ∙ is))
declared_kind target name (tree.typedef t) body k (of, same, rest) is = absurd (none_some (ap (kind_of_body name) (sym same) ∙ is))
declared_kind target name (tree.new_service base constructors) body k (of, cs, same, rest, more) is =
    absurd (none_some (ap (kind_of_body name) (sym same) ∙ is))
declared_kind target name (tree.old_service members) body k (of, same, rest) is = absurd (none_some (ap (kind_of_body name) (sym same) ∙ is))
declared_kind target name (tree.new_singleton base) body k (of, same, rest) is = absurd (none_some (ap (kind_of_body name) (sym same) ∙ is))
declared_kind target name (tree.old_singleton service) body k (of, same, rest) is = absurd (none_some (ap (kind_of_body name) (sym same) ∙ is))

found_kind : (target : Declared → WrittenType → Option Kind) (name : List ℕ) (o : Option Declared) (p : Option Entity) (k : Kind) → FoundAlike o p
    → kind_of_entity name p ≡ Some k
    → type_of_declared target name o ≡ Some k
found_kind target name None None k alike is = absurd (none_some is)
found_kind target name None (Some e) k alike is = absurd alike
found_kind target name (Some d) None k alike is = absurd alike
found_kind target name (Some d) (Some e) k alike is = declared_kind (target d) name d.body e.body k alike.body is

-- the kind of a body by its test
of_enum : (name : List ℕ) (body : Body) → is_enum body ≡ true → kind_of_body name body ≡ Some (kd.enum name)
of_enum name (uno.enum items) is = refl
of_enum name _ is = absurd (both_ways false refl is)

of_struct : (name : List ℕ) (body : Body) → is_struct body ≡ true → kind_of_body name body ≡ Some (kd.struct name)
of_struct name (uno.struct base members) is = refl
of_struct name _ is = absurd (both_ways false refl is)

of_exception : (name : List ℕ) (body : Body) → is_exception body ≡ true → kind_of_body name body ≡ Some (kd.exception name)
of_exception name (uno.exception base members) is = refl
of_exception name _ is = absurd (both_ways false refl is)

of_interface : (name : List ℕ) (body : Body) → is_interface body ≡ true → kind_of_body name body ≡ Some (kd.interface name)
of_interface name (uno.interface bases members) is = refl
of_interface name _ is = absurd (both_ways false refl is)

there_kind : (reg : List Entity) (wanted : Body → Bool) (name : List ℕ) (k : Kind) → ((body : Body) → wanted body ≡ true → kind_of_body name body ≡ Some k)
    → is_there reg wanted name ≡ true
    → kind_of_entity name (find_entity name reg) ≡ Some k
there_kind reg wanted name k of there = let found = there_found reg wanted name there in ap (kind_of_entity name) found.1 ∙ of found.0.body found.2

-- a type with a name is known as its entity
kind_there : (reg : List Entity) (k : Kind) (name : List ℕ) → name_in k ≡ Some name → kind_known reg k ≡ true
    → (kind_of_entity name (find_entity name reg) ≡ Some k) × ((wanted : Body → Bool) × (is_there reg wanted name ≡ true))
kind_there reg (kd.enum n) name is there =
    subst (λ m. (kind_of_entity m (find_entity m reg) ≡ Some (kd.enum n)) × ((wanted : Body → Bool) × (is_there reg wanted m ≡ true))) (same_some is)
    (there_kind reg is_enum n (kd.enum n) (of_enum n) there, (is_enum, there))
kind_there reg (kd.struct n) name is there =
    subst (λ m. (kind_of_entity m (find_entity m reg) ≡ Some (kd.struct n)) × ((wanted : Body → Bool) × (is_there reg wanted m ≡ true))) (same_some is)
    (there_kind reg is_struct n (kd.struct n) (of_struct n) there, (is_struct, there))
kind_there reg (kd.exception n) name is there =
    subst (λ m. (kind_of_entity m (find_entity m reg) ≡ Some (kd.exception n)) × ((wanted : Body → Bool) × (is_there reg wanted m ≡ true))) (same_some is)
    (there_kind reg is_exception n (kd.exception n) (of_exception n) there, (is_exception, there))
kind_there reg (kd.interface n) name is there =
    subst (λ m. (kind_of_entity m (find_entity m reg) ≡ Some (kd.interface n)) × ((wanted : Body → Bool) × (is_there reg wanted m ≡ true))) (same_some is)
    (there_kind reg is_interface n (kd.interface n) (of_interface n) there, (is_interface, there))
kind_there reg _ name is there = absurd (none_some is)

module _ (ds : List Declared) (reg : List Entity) (has : HasBuiltIn reg) (all : Each WritesDeclared ds (written reg)) where
  kind_named : (steps : ℕ) (name : List ℕ) (k : Kind) → kind_of_entity name (find_entity name reg) ≡ Some k → type_named (suc steps) ds name ≡ Some k
  unfolding type_named
  kind_named steps name k is = elim (cases_Bool (is_built_in_name name)) [
    | inl built ↦ rw (built_in_absent ds reg has all name built) (ap (kind_of_entity name) (sym (found_built_in reg has name built)) ∙ is)
    | inr own ↦ found_kind (λ d t. _) name (declared_as ds name) (find_entity name reg) k (own_alike ds reg has all name own) is
  ]

  name_kind : (name : List ℕ) (k : Kind) → kind_of_entity name (find_entity name reg) ≡ Some k → name_type ds name ≡ k
  unfolding name_type
  name_kind name k is = ap (λ o. unwrap_or o (kd.struct name)) (kind_named (length ds) name k is)

  pub type_is : (modules : List (List ℕ)) (t : WrittenType) (k : Kind) → WritesType t k → kind_known reg k ≡ true → type_meant ds modules t ≡ k
  unfolding type_meant type_over WritesType
  type_is modules (simple place s) k writes there = simple_is k s writes
  type_is modules (named path no_arguments) k (name, is, writes) there =
      ap (name_type ds) (name_is ds modules path name writes) ∙ name_kind name k (kind_there reg k name is there).0
  type_is modules (named path (argument t ts)) k writes there = absurd writes
  type_is modules (sequence_of place t) k (element, is, writes) there =
      ap kd.sequence (type_is modules t element writes (subst (λ j. kind_known reg j ≡ true) is there)) ∙ sym is

  pub type_known : (modules : List (List ℕ)) (t : WrittenType) (k : Kind) → WritesType t k → kind_known reg k ≡ true
      → list_all (known ds modules) (type_paths t) ≡ true
  unfolding type_paths argument_paths WritesType
  type_known modules (simple place s) k writes there = refl
  type_known modules (named path no_arguments) k (name, is, writes) there =
      let entity = (kind_there reg k name is there).1 in
      rw (path_known ds reg has all modules path name entity.0 writes entity.1) refl
  type_known modules (named path (argument t ts)) k writes there = absurd writes
  type_known modules (sequence_of place t) k (element, is, writes) there = type_known modules t element writes (subst (λ j. kind_known reg j ≡ true) is there)
