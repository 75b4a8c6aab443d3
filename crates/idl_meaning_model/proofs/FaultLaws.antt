-- A place has one fault where no two names stand at one place, and so the names of files have one verdict.
use Rattle.std.proofs.Common.{◌≡◌, ℕ, zero, suc, ◌<◌, ◌==◌, Bool, true, false, not, ◌&&◌, List, [], ◌∷◌, ◌++◌, map, length, get_or, None, Some, Option, is_none, Result, Ok, Err, ◌⊎◌, inl, inr, refl, sym, ap, ap₂, subst, ◌∙◌, arith, if◌then◌else◌}
use Rattle.std.proofs.lemmas.Bool.{both_ways, and_parts, and_from, eqb-true, eq-eqb, not-true}
use Rattle.std.proofs.lemmas.List.Elements.{Contains-append_cases, Contains-append_left, Contains-append_right}
use Rattle.std.specs.List.{AllByRecursion, Contains, filter, flat_map}
use Rattle.idl_model.specs.Places.{Place, is_before, is_at}
use Rattle.idl_model.specs.Trees.{WrittenType, simple, named, sequence_of, Arguments, no_arguments, argument, Tree}
use Rattle.idl_model.specs.Trees as tree
use Rattle.idl_meaning_model.specs.Declarations.{Declared, declarations, entities_declared, full_name, is_forward}
use Rattle.idl_meaning_model.specs.FromFiles.{AreOfFiles, simple_places, argument_places, leaf_places, are_apart}
use Rattle.idl_meaning_model.specs.NameFaults.{NameFault, unknown, twice, float_refused, unknown_uses, has_interface, forward_alone, places_declared, first_before, twice_by, declared_twice, refused_types, faults_among, faults}
use Rattle.idl_meaning_model.specs.NameFaults.{names_told, IsFirstFault, IsResolved}
use Rattle.idl_meaning_model.specs.Scopes.{is_built_in}
use Rattle.idl_meaning_model.specs.Uses.{Use, uses, path_of, stands_for, types_in, floats, argument_floats}
use Rattle.idl_meaning_model.proofs.ApartLaws.{Apart, apart_pairs, at_one_place, pairs_front, of_pairs_mapped}
use Rattle.idl_meaning_model.proofs.EachLaws.{AllPairsOf, each_at}

-- ---- places

pub same_at : (p q : Place) → is_at p q ≡ true → p ≡ q
same_at p q at =
    let parts = and_parts (p.file == q.file) (p.byte == q.byte) at in
    ap₂ (λ (f b : ℕ). record { file = f; byte = b }) (eqb-true p.file q.file parts.0) (eqb-true p.byte q.byte parts.1)

pub at_itself : (p : Place) → is_at p p ≡ true
at_itself p = and_from (p.file == p.file) (p.byte == p.byte) (eq-eqb p.file p.file refl) (eq-eqb p.byte p.byte refl)

-- two places of which neither comes before the other are one
pub one_place : (p q : Place) → is_before p q ≡ false → is_before q p ≡ false → p ≡ q
one_place p q first second = same_at p q (at_one_place p q first second)

-- ---- what is in lists

module _ {X Y : Type 0} where
  pub in_map : (f : X → Y) (xs : List X) (y : Y) → Contains (map f xs) y → (x : X) × Contains xs x × (f x ≡ y)
  in_map f [] y in' = let bad : ⊥ = omega (arith, in'.1) in absurd bad
  in_map f (x ∷ xs) y (zero, low, is) = (x, (0, omega arith, refl), is)
  in_map f (x ∷ xs) y (suc k, low, is) =
      let rest = in_map f xs y (k, omega arith, is) in
      (rest.0, (suc rest.1.0, omega (arith, rest.1.1), rest.1.2), rest.2)

  pub in_flat : (f : X → List Y) (xs : List X) (y : Y) → Contains (flat_map f xs) y → (x : X) × Contains xs x × Contains (f x) y
  in_flat f [] y in' = let bad : ⊥ = omega (arith, in'.1) in absurd bad
  in_flat f (x ∷ xs) y in' = elim (Contains-append_cases (f x) (flat_map f xs) y in') [
    | inl here ↦ (x, (0, omega arith, refl), here)
    | inr later ↦
        let rest = in_flat f xs y later in
        (rest.0, (suc rest.1.0, omega (arith, rest.1.1), rest.1.2), rest.2)
  ]

  pub flat_has : (f : X → List Y) (xs : List X) (x : X) (y : Y) → Contains xs x → Contains (f x) y → Contains (flat_map f xs) y
  flat_has f [] x y in' here = let bad : ⊥ = omega (arith, in'.1) in absurd bad
  flat_has f (z ∷ zs) x y (zero, low, is) here = Contains-append_left (f z) (flat_map f zs) y (subst (λ w. Contains (f w) y) (sym is) here)
  flat_has f (z ∷ zs) x y (suc k, low, is) here = Contains-append_right (f z) (flat_map f zs) y (flat_has f zs x y (k, omega arith, is) here)

  pub map_has : (f : X → Y) (xs : List X) (x : X) → Contains xs x → Contains (map f xs) (f x)
  map_has f [] x in' = let bad : ⊥ = omega (arith, in'.1) in absurd bad
  map_has f (z ∷ zs) x (zero, low, is) = (0, omega arith, ap f is)
  map_has f (z ∷ zs) x (suc k, low, is) = let rest = map_has f zs x (k, omega arith, is) in (suc rest.0, omega (arith, rest.1), rest.2)

module _ {X : Type 0} where
  in_kept_by : (test : X → Bool) (x : X) (xs : List X) (y : X) (b : Bool) → test x ≡ b → (Contains (filter test xs) y → Contains xs y × (test y ≡ true)) → Contains (if b then x ∷ filter test xs else filter test xs) y → Contains (x ∷ xs) y × (test y ≡ true)
  in_kept_by test x xs y true is rest (zero, low, here) = ((0, omega arith, here), subst (λ z. test z ≡ true) here is)
  in_kept_by test x xs y true is rest (suc k, low, here) = let more = rest (k, omega arith, here) in ((suc more.0.0, omega (arith, more.0.1), more.0.2), more.1)
  in_kept_by test x xs y false is rest in' = let more = rest in' in ((suc more.0.0, omega (arith, more.0.1), more.0.2), more.1)

  pub in_kept : (test : X → Bool) (xs : List X) (y : X) → Contains (filter test xs) y → Contains xs y × (test y ≡ true)
  in_kept test [] y in' = let bad : ⊥ = omega (arith, in'.1) in absurd bad
  in_kept test (x ∷ xs) y in' = in_kept_by test x xs y (test x) refl (in_kept test xs y) in'

  -- two of a list that do not stand apart are one
  pub one_of_pairs : (R : X → X → Type 0) (xs : List X) (x y : X) → AllPairsOf R xs → Contains xs x → Contains xs y → (R x y → ⊥) → (R y x → ⊥) → x ≡ y
  one_of_pairs R [] x y pairs in' in'' xy yx = let bad : ⊥ = omega (arith, in'.1) in absurd bad
  one_of_pairs R (z ∷ zs) x y pairs (zero, low, is) (zero, low2, is2) xy yx = sym is ∙ is2
  one_of_pairs R (z ∷ zs) x y pairs (zero, low, is) (suc j, low2, is2) xy yx =
      let r : R z y = each_at (R z) zs y pairs.0 (j, omega arith, is2) in
      absurd (xy (subst (λ w. R w y) is r))
  one_of_pairs R (z ∷ zs) x y pairs (suc k, low, is) (zero, low2, is2) xy yx =
      let r : R z x = each_at (R z) zs x pairs.0 (k, omega arith, is) in
      absurd (yx (subst (λ w. R w x) is2 r))
  one_of_pairs R (z ∷ zs) x y pairs (suc k, low, is) (suc j, low2, is2) xy yx = one_of_pairs R zs x y pairs.1 (k, omega arith, is) (j, omega arith, is2) xy yx

  -- what stands in the front of a list and what stands behind it are a pair
  pub across : (R : X → X → Type 0) (xs ys : List X) (x y : X) → AllPairsOf R (xs ++ ys) → Contains xs x → Contains ys y → R x y
  across R [] ys x y pairs in' in'' = let bad : ⊥ = omega (arith, in'.1) in absurd bad
  across R (z ∷ zs) ys x y pairs (zero, low, is) in'' = subst (λ w. R w y) is (each_at (R z) (zs ++ ys) y pairs.0 (Contains-append_right zs ys y in''))
  across R (z ∷ zs) ys x y pairs (suc k, low, is) in'' = across R zs ys x y pairs.1 (k, omega arith, is) in''

  pub behind_pairs : (R : X → X → Type 0) (xs ys : List X) → AllPairsOf R (xs ++ ys) → AllPairsOf R ys
  behind_pairs R [] ys pairs = pairs
  behind_pairs R (x ∷ xs) ys pairs = behind_pairs R xs ys pairs.1

-- ---- float and double are simple types

simple_of_float : (p : Place) (s : tree.Simple) (q : Place) → Contains (floats (simple p s)) q → Contains (p ∷ []) q
unfolding floats
simple_of_float p tree.float q in' = in'
simple_of_float p tree.double q in' = in'
simple_of_float p tree.void q in' = let bad : ⊥ = omega (arith, in'.1) in absurd bad
simple_of_float p tree.char q in' = let bad : ⊥ = omega (arith, in'.1) in absurd bad
simple_of_float p tree.boolean q in' = let bad : ⊥ = omega (arith, in'.1) in absurd bad
simple_of_float p tree.byte q in' = let bad : ⊥ = omega (arith, in'.1) in absurd bad
simple_of_float p tree.short q in' = let bad : ⊥ = omega (arith, in'.1) in absurd bad
simple_of_float p tree.unsigned_short q in' = let bad : ⊥ = omega (arith, in'.1) in absurd bad
simple_of_float p tree.long q in' = let bad : ⊥ = omega (arith, in'.1) in absurd bad
simple_of_float p tree.unsigned_long q in' = let bad : ⊥ = omega (arith, in'.1) in absurd bad
simple_of_float p tree.hyper q in' = let bad : ⊥ = omega (arith, in'.1) in absurd bad
simple_of_float p tree.unsigned_hyper q in' = let bad : ⊥ = omega (arith, in'.1) in absurd bad
simple_of_float p tree.str q in' = let bad : ⊥ = omega (arith, in'.1) in absurd bad
simple_of_float p tree.kind q in' = let bad : ⊥ = omega (arith, in'.1) in absurd bad
simple_of_float p tree.any q in' = let bad : ⊥ = omega (arith, in'.1) in absurd bad

mutual
  unfolding floats argument_floats simple_places argument_places

  floats_simple : (t : WrittenType) (q : Place) → Contains (floats t) q → Contains (simple_places t) q
  floats_simple (simple p s) q in' = simple_of_float p s q in'
  floats_simple (named path ts) q in' = arguments_simple ts q in'
  floats_simple (sequence_of p t) q in' = floats_simple t q in'

  arguments_simple : (ts : Arguments) (q : Place) → Contains (argument_floats ts) q → Contains (argument_places ts) q
  arguments_simple no_arguments q in' = in'
  arguments_simple (argument t ts) q in' = elim (Contains-append_cases (floats t) (argument_floats ts) q in') [
    | inl here ↦ Contains-append_left (simple_places t) (argument_places ts) q (floats_simple t q here)
    | inr later ↦ Contains-append_right (simple_places t) (argument_places ts) q (arguments_simple ts q later)
  ]

-- ---- which fault stands where

abbrev name_places : List Declared → List Place
name_places ds = map (λ (d : Declared). d.name.place) ds

abbrev use_places : List Declared → List Place
use_places ds = map (λ (u : Use). (path_of u.used).place) (uses ds)

abbrev type_places : List Declared → List Place
type_places ds = flat_map (λ (d : Declared). flat_map simple_places (types_in d.body)) ds

abbrev twice_here : List Declared → Declared → List (Place × NameFault)
twice_here ds d = twice_by (is_built_in (full_name d)) d.name.place (first_before d.name.place (places_declared ds (full_name d)))

-- a name that is used, a forward declaration, an entity, or a simple type
pub data FaultAt (ds : List Declared) (p : Place) (f : NameFault) : Type 0 where
  of_use : f ≡ unknown → Contains (use_places ds) p → FaultAt ds p f
  of_forward : (d : Declared) → Contains ds d → is_forward d.body ≡ true → d.name.place ≡ p → f ≡ unknown → FaultAt ds p f
  of_entity : (d : Declared) → Contains ds d → is_forward d.body ≡ false → d.name.place ≡ p → Contains (twice_here ds d) (p, f) → FaultAt ds p f
  of_type : f ≡ float_refused → Contains (type_places ds) p → FaultAt ds p f

twice_place : (b : Bool) (place : Place) (first : Option Place) (x : Place × NameFault) → Contains (twice_by b place first) x → place ≡ x.0
twice_place true place first x (zero, low, is) = ap (λ (y : Place × NameFault). y.0) is
twice_place true place first x (suc k, low, is) = let bad : ⊥ = omega arith in absurd bad
twice_place false place None x in' = let bad : ⊥ = omega (arith, in'.1) in absurd bad
twice_place false place (Some q) x (zero, low, is) = ap (λ (y : Place × NameFault). y.0) is
twice_place false place (Some q) x (suc k, low, is) = let bad : ⊥ = omega arith in absurd bad

twice_one : (b : Bool) (place : Place) (first : Option Place) (x y : Place × NameFault) → Contains (twice_by b place first) x → Contains (twice_by b place first) y → x ≡ y
twice_one true place first x y (zero, low, is) (zero, low2, is2) = sym is ∙ is2
twice_one true place first x y (suc k, low, is) in' = let bad : ⊥ = omega arith in absurd bad
twice_one true place first x y (zero, low, is) (suc k, low2, is2) = let bad : ⊥ = omega arith in absurd bad
twice_one false place None x y in' in'' = let bad : ⊥ = omega (arith, in'.1) in absurd bad
twice_one false place (Some q) x y (zero, low, is) (zero, low2, is2) = sym is ∙ is2
twice_one false place (Some q) x y (suc k, low, is) in' = let bad : ⊥ = omega arith in absurd bad
twice_one false place (Some q) x y (zero, low, is) (suc k, low2, is2) = let bad : ⊥ = omega arith in absurd bad

unknown_at : (ds : List Declared) (x : Place × NameFault) → Contains (unknown_uses ds) x → FaultAt ds x.0 x.1
unfolding unknown_uses
unknown_at ds x in' =
    let from = in_map (λ (u : Use). ((path_of u.used).place, unknown)) (filter (λ u. is_none (stands_for ds u)) (uses ds)) x in' in
    let kept = in_kept (λ u. is_none (stands_for ds u)) (uses ds) from.0 from.1 in
    of_use (sym (ap (λ (y : Place × NameFault). y.1) from.2))
    (subst (λ p. Contains (use_places ds) p) (ap (λ (y : Place × NameFault). y.0) from.2) (map_has (λ (u : Use). (path_of u.used).place) (uses ds) from.0 kept.0))

forward_at : (ds : List Declared) (x : Place × NameFault) → Contains (forward_alone ds) x → FaultAt ds x.0 x.1
unfolding forward_alone
forward_at ds x in' =
    let from = in_map (λ (d : Declared). (d.name.place, unknown)) (filter (λ d. is_forward d.body && not (has_interface ds (full_name d))) ds) x in' in
    let kept = in_kept (λ (d : Declared). is_forward d.body && not (has_interface ds (full_name d))) ds from.0 from.1 in
    of_forward from.0 kept.0 (and_parts (is_forward from.0.body) (not (has_interface ds (full_name from.0))) kept.1).0 (ap (λ (y : Place × NameFault). y.0) from.2) (sym (ap (λ (y : Place × NameFault). y.1) from.2))

entity_at : (ds : List Declared) (x : Place × NameFault) → Contains (declared_twice ds) x → FaultAt ds x.0 x.1
unfolding declared_twice entities_declared
entity_at ds x in' =
    let from = in_flat (twice_here ds) (filter (λ d. not (is_forward d.body)) ds) x in' in
    let kept = in_kept (λ (d : Declared). not (is_forward d.body)) ds from.0 from.1 in
    of_entity from.0 kept.0 (not-true (is_forward from.0.body) kept.1)
    (twice_place (is_built_in (full_name from.0)) from.0.name.place (first_before from.0.name.place (places_declared ds (full_name from.0))) x from.2) from.2

type_at : (ds : List Declared) (x : Place × NameFault) → Contains (refused_types ds) x → FaultAt ds x.0 x.1
unfolding refused_types
type_at ds x in' =
    let from = in_map (λ (p : Place). (p, float_refused)) (flat_map (λ (d : Declared). flat_map floats (types_in d.body)) ds) x in' in
    let owner = in_flat (λ (d : Declared). flat_map floats (types_in d.body)) ds from.0 from.1 in
    let type = in_flat floats (types_in owner.0.body) from.0 owner.2 in
    let there = flat_has (λ (d : Declared). flat_map simple_places (types_in d.body)) ds owner.0 from.0 owner.1 (flat_has simple_places (types_in owner.0.body) type.0 from.0 type.1 (floats_simple type.0 from.0 type.2)) in
    of_type (sym (ap (λ (y : Place × NameFault). y.1) from.2)) (subst (λ p. Contains (type_places ds) p) (ap (λ (y : Place × NameFault). y.0) from.2) there)

fault_at : (ds : List Declared) (x : Place × NameFault) → Contains (faults_among ds) x → FaultAt ds x.0 x.1
fault_at ds x in' = elim (Contains-append_cases (unknown_uses ds) (forward_alone ds ++ (declared_twice ds ++ refused_types ds)) x in') [
  | inl here ↦ unknown_at ds x here
  | inr later ↦ elim (Contains-append_cases (forward_alone ds) (declared_twice ds ++ refused_types ds) x later) [
    | inl here ↦ forward_at ds x here
    | inr last ↦ elim (Contains-append_cases (declared_twice ds) (refused_types ds) x last) [ inl here ↦ entity_at ds x here | inr here ↦ type_at ds x here ]
  ]
]

-- ---- no two at one place

module _ (ds : List Declared) (apart : are_apart (leaf_places ds) ≡ true) where
  leaves : AllPairsOf Apart (name_places ds ++ (use_places ds ++ type_places ds))
  unfolding leaf_places
  leaves = apart_pairs (leaf_places ds) apart

  not_apart : (p : Place) → Apart p p → ⊥
  not_apart p other = both_ways (is_at p p) other (at_itself p)

  name_place : (d : Declared) (p : Place) → Contains ds d → d.name.place ≡ p → Contains (name_places ds) p
  name_place d p in' is = subst (λ q. Contains (name_places ds) q) is (map_has (λ (e : Declared). e.name.place) ds d in')

  no_name_and_use : (p : Place) → Contains (name_places ds) p → Contains (use_places ds) p → ⊥
  no_name_and_use p name used = not_apart p (across Apart (name_places ds) (use_places ds ++ type_places ds) p p leaves name (Contains-append_left (use_places ds) (type_places ds) p used))

  no_name_and_type : (p : Place) → Contains (name_places ds) p → Contains (type_places ds) p → ⊥
  no_name_and_type p name type = not_apart p (across Apart (name_places ds) (use_places ds ++ type_places ds) p p leaves name (Contains-append_right (use_places ds) (type_places ds) p type))

  no_use_and_type : (p : Place) → Contains (use_places ds) p → Contains (type_places ds) p → ⊥
  no_use_and_type p used type = not_apart p (across Apart (use_places ds) (type_places ds) p p (behind_pairs Apart (name_places ds) (use_places ds ++ type_places ds) leaves) used type)

  one_declared : (d e : Declared) (p : Place) → Contains ds d → Contains ds e → d.name.place ≡ p → e.name.place ≡ p → d ≡ e
  one_declared d e p in' in'' is is2 =
      let pairs = of_pairs_mapped Apart (λ (x : Declared). x.name.place) ds (pairs_front Apart (name_places ds) (use_places ds ++ type_places ds) leaves) in
      one_of_pairs (λ (x y : Declared). Apart x.name.place y.name.place) ds d e pairs in' in''
      (λ other. not_apart p (subst (λ q. Apart q p) is (subst (λ q. Apart d.name.place q) is2 other)))
      (λ other. not_apart p (subst (λ q. Apart p q) is (subst (λ q. Apart q d.name.place) is2 other)))

  one_fault : (p : Place) (f g : NameFault) → FaultAt ds p f → FaultAt ds p g → f ≡ g
  one_fault p f g (of_use is in') (of_use is2 in'') = is ∙ sym is2
  one_fault p f g (of_use is in') (of_forward e e_in forward e_at is2) = is ∙ sym is2
  one_fault p f g (of_use is in') (of_entity e e_in entity e_at in'') = absurd (no_name_and_use p (name_place e p e_in e_at) in')
  one_fault p f g (of_use is in') (of_type is2 in'') = absurd (no_use_and_type p in' in'')
  one_fault p f g (of_forward d d_in forward d_at is) (of_use is2 in'') = is ∙ sym is2
  one_fault p f g (of_forward d d_in forward d_at is) (of_forward e e_in forward2 e_at is2) = is ∙ sym is2
  one_fault p f g (of_forward d d_in forward d_at is) (of_entity e e_in entity e_at in'') =
      absurd (both_ways (is_forward e.body) entity (subst (λ (x : Declared). is_forward x.body ≡ true) (one_declared d e p d_in e_in d_at e_at) forward))
  one_fault p f g (of_forward d d_in forward d_at is) (of_type is2 in'') = absurd (no_name_and_type p (name_place d p d_in d_at) in'')
  one_fault p f g (of_entity d d_in entity d_at in') (of_use is2 in'') = absurd (no_name_and_use p (name_place d p d_in d_at) in'')
  one_fault p f g (of_entity d d_in entity d_at in') (of_forward e e_in forward e_at is2) =
      absurd (both_ways (is_forward d.body) entity (subst (λ (x : Declared). is_forward x.body ≡ true) (one_declared e d p e_in d_in e_at d_at) forward))
  one_fault p f g (of_entity d d_in entity d_at in') (of_entity e e_in entity2 e_at in'') =
      let same = one_declared d e p d_in e_in d_at e_at in
      let here : Contains (twice_here ds e) (p, f) = subst (λ (x : Declared). Contains (twice_here ds x) (p, f)) same in' in
      ap (λ (x : Place × NameFault). x.1) (twice_one (is_built_in (full_name e)) e.name.place (first_before e.name.place (places_declared ds (full_name e))) (p, f) (p, g) here in'')
  one_fault p f g (of_entity d d_in entity d_at in') (of_type is2 in'') = absurd (no_name_and_type p (name_place d p d_in d_at) in'')
  one_fault p f g (of_type is in') (of_use is2 in'') = absurd (no_use_and_type p in'' in')
  one_fault p f g (of_type is in') (of_forward e e_in forward e_at is2) = absurd (no_name_and_type p (name_place e p e_in e_at) in')
  one_fault p f g (of_type is in') (of_entity e e_in entity e_at in'') = absurd (no_name_and_type p (name_place e p e_in e_at) in')
  one_fault p f g (of_type is in') (of_type is2 in'') = is ∙ sym is2

-- ---- the laws

pub one_at_place : (trees : List Tree) (place : Place) (f g : NameFault) → AreOfFiles trees → Contains (faults trees) (place, f) → Contains (faults trees) (place, g) → f ≡ g
unfolding faults
one_at_place trees place f g files in' in'' =
    let ds = declarations trees in
    one_fault ds files.apart place f g (fault_at ds (place, f) in') (fault_at ds (place, g) in'')

pub none_in_nothing : {X : Type 0} (xs : List X) (x : X) → xs ≡ [] → Contains xs x → ⊥
none_in_nothing xs x none in' = let row : Contains [] x = subst (λ ys. Contains ys x) none in' in omega (arith, row.1)

pub one_verdict : (trees : List Tree) (r s : Result (List (Place × List ℕ)) (Place × NameFault)) → AreOfFiles trees → IsResolved trees r → IsResolved trees s → r ≡ s
one_verdict trees (Ok names) (Ok others) files first second = ap (λ ns. Ok ns) (first.1 ∙ sym second.1)
one_verdict trees (Ok names) (Err fault) files first second = absurd (none_in_nothing (faults trees) (fault.0, fault.1) first.0 second.one)
one_verdict trees (Err fault) (Ok names) files first second = absurd (none_in_nothing (faults trees) (fault.0, fault.1) second.0 first.one)
one_verdict trees (Err fault) (Err other) files first second =
    let place : fault.0 ≡ other.0 = one_place fault.0 other.0 (second.first (fault.0, fault.1) first.one) (first.first (other.0, other.1) second.one) in
    let here : Contains (faults trees) (other.0, fault.1) = subst (λ p. Contains (faults trees) (p, fault.1)) place first.one in
    let same : fault.1 ≡ other.1 = one_at_place trees other.0 fault.1 other.1 files here second.one in
    ap₂ (λ (p : Place) (f : NameFault). Err (p, f)) place same
