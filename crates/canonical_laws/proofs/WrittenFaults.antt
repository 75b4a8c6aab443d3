-- The names of a tree that writes a registry have no fault: each stands for something, each entity is declared once, and no type is float or double.
use Rattle.std.proofs.Common.{◌≡◌, ℕ, suc, zero, Bool, true, false, not, ◌&&◌, List, [], ◌∷◌, ◌++◌, map, Option, None, Some, is_some, Contains, refl, sym, ap}
use Rattle.std.proofs.Common.{ap₂, ◌∙◌, subst, if◌then◌else◌, arith}
use Rattle.std.specs.List.{AllByRecursion, filter, list_all, flat_map}
use Rattle.std.specs.Prelude.{is_none}
use Rattle.std.specs.Str.{bytes_eq}
use Rattle.std.proofs.lemmas.Bool.{and_from, and_parts, both_ways, false_from_ne_true}
use Rattle.std.proofs.lemmas.Bool.Decides.{nat_tests}
use Rattle.std.proofs.lemmas.List.Folds.{list_all-map}
use Rattle.std.proofs.lemmas.Slice.Eq.{bytes_eq-Decides}
use Rattle.uno_model.specs.BuiltIn.{built_in, HasBuiltIn}
use Rattle.uno_model.specs.Entities.{Entity}
use Rattle.uno_model.specs.Registry.{IsRising, find_entity}
use Rattle.uno_model.specs.Sound.{bases_known, raises_known, services_known, types_known}
use Rattle.uno_model.proofs.FindLaws.{same_equal}
use Rattle.registry_text_model.specs.Lines.{is_built_in_name, written}
use Rattle.idl_model.specs.Places.{Place, is_before}
use Rattle.idl_model.specs.Trees.{WrittenType}
use Rattle.idl_meaning_model.specs.Declarations.{Declared, full_name, is_forward, scope_of}
use Rattle.idl_meaning_model.specs.NameFaults.{NameFault, unknown, float_refused, unknown_uses, has_interface, forward_alone, places_declared, first_before}
use Rattle.idl_meaning_model.specs.NameFaults.{twice_by, declared_twice, refused_types, faults_among}
use Rattle.idl_meaning_model.specs.Scopes.{is_built_in}
use Rattle.idl_meaning_model.specs.Uses.{Used, Use, path_of, uses_of, uses, used_meant, stands_for, types_in, floats, used_in}
use Rattle.idl_meaning_model.proofs.EachLaws.{AllPairsOf, each_weaker, none_of_all}
use Rattle.idl_meaning_model.proofs.SortedLaws.{Differ}
use Rattle.canonical_laws.specs.Written.{Each}
use Rattle.canonical_laws.proofs.SortedRegistry.{own_not_built_in, written_differ, written_own}
use Rattle.canonical_laws.proofs.WrittenNames.{WritesDeclared, no_forward, all_entities}
use Rattle.canonical_laws.proofs.WrittenTypes.{no_floats}
use Rattle.canonical_laws.proofs.WrittenUses.{IsWritten, types_written, each_passes, all_pass, body_stands}

none_kept : {X : Type 0} (test : X → Bool) (xs : List X) → list_all (λ x. not (test x)) xs ≡ true → filter test xs ≡ []
none_kept test [] none = refl
none_kept test (x ∷ xs) none = by_test (test x) none (none_kept test xs)
  where
    by_test : (b : Bool) → (not b && list_all (λ y. not (test y)) xs) ≡ true → (list_all (λ y. not (test y)) xs ≡ true → filter test xs ≡ [])
        → (if b then x ∷ filter test xs else filter test xs) ≡ []
    by_test true none rest = absurd (both_ways false refl none)
    by_test false none rest = rest none

-- what a registry that keeps the rules says of each entity's names
pub record NamesKnown (reg : List Entity) (e : Entity) : Type 0 where
  pub bases : bases_known reg e.body ≡ true
  pub raises : raises_known reg e.body ≡ true
  pub services : services_known reg e.body ≡ true
  pub types : types_known reg e.body ≡ true

module _ (ds : List Declared) (reg : List Entity) (has : HasBuiltIn reg) (all : Each WritesDeclared ds (written reg)) where
  -- ---- what is used stands for something

  abbrev is_unknown : Use → Bool
  is_unknown u = is_none (stands_for ds u)

  known_is : {X : Type 0} (o : Option X) → not (is_none o) ≡ is_some o
  known_is None = refl
  known_is (Some x) = refl

  modules_are : (d : Declared) → (scope_of d).modules ≡ d.modules
  unfolding scope_of
  modules_are d = refl

  uses_stand : (d : Declared) (e : Entity) → NamesKnown reg e → WritesDeclared d e → list_all (λ u. not (is_unknown u)) (uses_of d) ≡ true
  unfolding uses_of stands_for
  uses_stand d e names writes =
      list_all-map (λ (u : Use). not (is_unknown u)) (λ (u : Used). record { scope = scope_of d; used = u }) (used_in d.body)
      ∙ passing (used_in d.body)
      (body_stands ds reg has all d.modules (scope_of d) d.body e.body (modules_are d) writes.body names.bases names.raises names.services names.types)
    where
      passing : (us : List Used) → list_all (λ u. is_some (used_meant ds (scope_of d) u)) us ≡ true
          → list_all (λ u. not (is_none (used_meant ds (scope_of d) u))) us ≡ true
      passing [] stand = refl
      passing (u ∷ us) stand =
          rw (known_is (used_meant ds (scope_of d) u))
          (let parts = and_parts (is_some (used_meant ds (scope_of d) u)) (list_all (λ v. is_some (used_meant ds (scope_of d) v)) us) stand in
          and_from (is_some (used_meant ds (scope_of d) u)) (list_all (λ v. not (is_none (used_meant ds (scope_of d) v))) us) parts.0 (passing us parts.1))

  nothing_unknown : ((e : Entity) → Contains (written reg) e → NamesKnown reg e) → unknown_uses ds ≡ []
  unfolding unknown_uses uses
  nothing_unknown names =
      ap (map (λ (u : Use). ((path_of u.used).place, unknown)))
      (none_kept is_unknown (uses ds) (all_pass WritesDeclared (λ u. not (is_unknown u)) uses_of ds (written reg)
      (λ d e in' w. uses_stand d e (names e in') w) all))

  -- ---- nothing is forward

  nothing_forward : forward_alone ds ≡ []
  unfolding forward_alone
  nothing_forward =
      ap (map (λ (d : Declared). (d.name.place, unknown)))
      (none_kept (λ (d : Declared). is_forward d.body && not (has_interface ds (full_name d))) ds
      (each_passes WritesDeclared (λ (d : Declared). not (is_forward d.body && not (has_interface ds (full_name d)))) ds (written reg)
      (λ d e in' w. rw (no_forward d.body e.body w.body) refl) all))

  -- ---- nothing is declared twice

  abbrev Apart : Declared → Declared → Type 0
  Apart d e = bytes_eq (full_name d) (full_name e) ≡ false

  first_apart : (d : Declared) (e : Entity) (xs : List Declared) (es : List Entity) → WritesDeclared d e → Each WritesDeclared xs es
      → AllByRecursion (Differ e) es → AllByRecursion (Apart d) xs
  first_apart d e [] es writes each differ = tt
  first_apart d e (x ∷ xs) [] writes each differ = absurd each
  first_apart d e (x ∷ xs) (f ∷ fs) writes each differ = (rw (writes.named, each.0.named) differ.0, first_apart d e xs fs writes each.1 differ.1)

  names_apart : (xs : List Declared) (es : List Entity) → Each WritesDeclared xs es → AllPairsOf Differ es → AllPairsOf Apart xs
  names_apart [] es each differ = tt
  names_apart (x ∷ xs) [] each differ = absurd each
  names_apart (x ∷ xs) (f ∷ fs) each differ = (first_apart x f xs fs each.0 each.1 differ.0, names_apart xs fs each.1 differ.1)

  -- a declaration is the only one of its name
  abbrev of_name : List ℕ → List Declared → List Declared
  of_name name xs = filter (λ x. bytes_eq name (full_name x)) xs

  none_named : (d : Declared) (xs : List Declared) → AllByRecursion (Apart d) xs → of_name (full_name d) xs ≡ []
  none_named d [] apart = refl
  none_named d (x ∷ xs) apart = rw apart.0 (none_named d xs apart.1)

  apart_at : (d x : Declared) (xs : List Declared) → AllByRecursion (Apart x) xs → Contains xs d → bytes_eq (full_name d) (full_name x) ≡ false
  apart_at d x [] apart in' = absurd (omega (arith, in'.1))
  apart_at d x (y ∷ ys) apart (zero, low, is) =
      subst (λ z. bytes_eq (full_name z) (full_name x) ≡ false) is
      (false_from_ne_true (bytes_eq (full_name y) (full_name x)) (λ same.
      both_ways (bytes_eq (full_name x) (full_name y)) apart.0
      ((bytes_eq-Decides (full_name x) (full_name y)).1 (sym ((bytes_eq-Decides (full_name y) (full_name x)).0 same)))))
  apart_at d x (y ∷ ys) apart (suc k, low, is) = apart_at d x ys apart.1 (k, omega arith, is)

  alone : (xs : List Declared) (d : Declared) → AllPairsOf Apart xs → Contains xs d → of_name (full_name d) xs ≡ d ∷ []
  alone [] d apart in' = absurd (omega (arith, in'.1))
  alone (x ∷ xs) d apart (zero, low, is) =
      subst (λ y. of_name (full_name y) (x ∷ xs) ≡ y ∷ []) is (rw (same_equal (full_name x)) (ap (λ ys. x ∷ ys) (none_named x xs apart.0)))
  alone (x ∷ xs) d apart (suc k, low, is) = rw (apart_at d x xs apart.0 (k, omega arith, is)) (alone xs d apart.1 (k, omega arith, is))

  not_before_itself : (p : Place) → is_before p p ≡ false
  not_before_itself p = grind (arith, nat_tests)

  none_first : (p : Place) → first_before p (p ∷ []) ≡ None
  unfolding first_before
  none_first p = rw (not_before_itself p) refl

  abbrev twice_at : Declared → List (Place × NameFault)
  twice_at d = twice_by (is_built_in (full_name d)) d.name.place (first_before d.name.place (places_declared ds (full_name d)))

  once : IsRising reg → (d : Declared) (e : Entity) → Contains ds d → is_built_in_name e.name ≡ false → WritesDeclared d e → twice_at d ≡ []
  unfolding is_built_in
  once rising d e in' own writes =
      let absent : is_some (find_entity (full_name d) built_in) ≡ false = rw writes.named (ap is_some (own_not_built_in e.name own)) in
      let places : places_declared ds (full_name d) ≡ d.name.place ∷ [] =
      ap (λ xs. map (λ (x : Declared). x.name.place) (of_name (full_name d) xs)) (all_entities ds (written reg) all)
      ∙ ap (map (λ (x : Declared). x.name.place)) (alone ds d (names_apart ds (written reg) all (written_differ reg rising)) in') in
      rw (absent, places, none_first d.name.place) refl

  each_once : (rising : IsRising reg) (xs : List Declared) (es : List Entity) → ((d : Declared) → Contains xs d → Contains ds d)
      → AllByRecursion (λ e. is_built_in_name e.name ≡ false) es
      → Each WritesDeclared xs es → AllByRecursion (λ d. twice_at d ≡ []) xs
  each_once rising [] es in' own each = tt
  each_once rising (x ∷ xs) [] in' own each = absurd each
  each_once rising (x ∷ xs) (e ∷ es) in' own each = (
    once rising x e (in' x (zero, omega arith, refl)) own.0 each.0,
    each_once rising xs es
        (λ d there. in' d (suc there.0, omega (arith, there.1), there.2)) own.1 each.1,
  )

  nothing_twice : IsRising reg → declared_twice ds ≡ []
  unfolding declared_twice
  nothing_twice rising =
      ap (flat_map twice_at) (all_entities ds (written reg) all)
      ∙ none_of_all twice_at ds (each_once rising ds (written reg) (λ d there. there) (written_own reg) all)

  -- ---- no type is float or double

  type_calm : (t : WrittenType) → IsWritten t → floats t ≡ []
  type_calm t (k, writes) = no_floats t k writes

  types_calm : (xs : List Declared) (es : List Entity) → Each WritesDeclared xs es → flat_map (λ (d : Declared). flat_map floats (types_in d.body)) xs ≡ []
  types_calm [] es each = refl
  types_calm (x ∷ xs) [] each = absurd each
  types_calm (x ∷ xs) (e ∷ es) each =
      let here : flat_map floats (types_in x.body) ≡ [] =
      none_of_all floats (types_in x.body) (each_weaker IsWritten (λ t. floats t ≡ []) (types_in x.body) type_calm (types_written x.body e.body each.0.body)) in
      ap₂ (λ ps qs. ps ++ qs) here (types_calm xs es each.1)

  nothing_refused : refused_types ds ≡ []
  unfolding refused_types
  nothing_refused = ap (map (λ (p : Place). (p, float_refused))) (types_calm ds (written reg) all)

  -- ---- all of them

  pub no_faults : IsRising reg → ((e : Entity) → Contains (written reg) e → NamesKnown reg e) → faults_among ds ≡ []
  no_faults rising names = rw (nothing_unknown names, nothing_forward, nothing_twice rising, nothing_refused) refl
