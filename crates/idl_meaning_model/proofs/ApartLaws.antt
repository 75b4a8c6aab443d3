-- Where no name is declared twice, all entities of a registry have different names.
use Rattle.std.proofs.Common.{◌≡◌, ℕ, Bool, true, false, not, List, [], ◌∷◌, ◌++◌, map, None, Some, Option, is_some, refl, sym, arith, if◌then◌else◌}
use Rattle.std.proofs.lemmas.Bool.{both_ways, false_from_ne_true, and_parts, not-true, or_parts}
use Rattle.std.proofs.lemmas.Bool.Decides.{nat_tests}
use Rattle.std.proofs.lemmas.Slice.Eq.{bytes_eq-Decides}
use Rattle.std.specs.List.{AllByRecursion, Contains, filter, list_any}
use Rattle.std.specs.Str.{bytes_eq}
use Rattle.uno_model.specs.BuiltIn.{built_in}
use Rattle.uno_model.specs.Entities.{Entity}
use Rattle.uno_model.specs.Registry.{find_entity}
use Rattle.idl_model.specs.Places.{Place, is_before, is_at}
use Rattle.idl_meaning_model.specs.Declarations.{Declared, entities_declared, full_name, is_forward}
use Rattle.idl_meaning_model.specs.FromFiles.{leaf_places, are_apart}
use Rattle.idl_meaning_model.specs.Meaning.{entity_meant}
use Rattle.idl_meaning_model.specs.NameFaults.{places_declared, first_place, first_before, twice_by, declared_twice}
use Rattle.idl_meaning_model.specs.Scopes.{is_built_in}
use Rattle.idl_meaning_model.proofs.EachLaws.{AllPairsOf, each_weaker, each_at, at_each, each_kept, of_each_mapped, pairs_from_all, none_of_each}
use Rattle.idl_meaning_model.proofs.SortedLaws.{Differ}

-- ---- places

-- of two places of which neither comes before the other both are one
pub at_one_place : (p q : Place) → is_before p q ≡ false → is_before q p ≡ false → is_at p q ≡ true
at_one_place p q first second = grind (arith, nat_tests)

abbrev pub Apart : Place → Place → Type 0
Apart p q = is_at p q ≡ false

none_at : (p : Place) (ps : List Place) → list_any (is_at p) ps ≡ false → AllByRecursion (Apart p) ps
none_at p [] none = tt
none_at p (q ∷ qs) none = let parts = or_parts (is_at p q) (list_any (is_at p) qs) none in (parts.0, none_at p qs parts.1)

pub apart_pairs : (ps : List Place) → are_apart ps ≡ true → AllPairsOf Apart ps
unfolding are_apart
apart_pairs [] apart = tt
apart_pairs (p ∷ ps) apart =
    let parts = and_parts (not (list_any (is_at p) ps)) (are_apart ps) apart in
    (none_at p ps (not-true (list_any (is_at p) ps) parts.0), apart_pairs ps parts.1)

-- ---- pairs of lists

module _ {X : Type 0} where
  pub pairs_front : (R : X → X → Type 0) (xs ys : List X) → AllPairsOf R (xs ++ ys) → AllPairsOf R xs
  pairs_front R [] ys pairs = tt
  pairs_front R (x ∷ xs) ys pairs = (front x xs pairs.0, pairs_front R xs ys pairs.1)
    where
      front : (x : X) (zs : List X) → AllByRecursion (R x) (zs ++ ys) → AllByRecursion (R x) zs
      front x [] all = tt
      front x (z ∷ zs) all = (all.0, front x zs all.1)

  pub pairs_back : (R : X → X → Type 0) (xs ys : List X) → AllPairsOf R (xs ++ ys) → AllPairsOf R ys
  pairs_back R [] ys pairs = pairs
  pairs_back R (x ∷ xs) ys pairs = pairs_back R xs ys pairs.1

  pub pairs_append : (R : X → X → Type 0) (xs ys : List X) → AllPairsOf R xs → AllPairsOf R ys → AllByRecursion (λ x. AllByRecursion (R x) ys) xs → AllPairsOf R (xs ++ ys)
  pairs_append R [] ys first second across = second
  pairs_append R (x ∷ xs) ys first second across = (joined x xs first.0 across.0, pairs_append R xs ys first.1 second across.1)
    where
      joined : (x : X) (zs : List X) → AllByRecursion (R x) zs → AllByRecursion (R x) ys → AllByRecursion (R x) (zs ++ ys)
      joined x [] all others = others
      joined x (z ∷ zs) all others = (all.0, joined x zs all.1 others)

  pub pairs_weaker : (R S : X → X → Type 0) (xs : List X) → ((x y : X) → R x y → S x y) → AllPairsOf R xs → AllPairsOf S xs
  pairs_weaker R S [] f pairs = tt
  pairs_weaker R S (x ∷ xs) f pairs = (each_weaker (R x) (S x) xs (λ y r. f x y r) pairs.0, pairs_weaker R S xs f pairs.1)

  pub pairs_both : (R S : X → X → Type 0) (xs : List X) → AllPairsOf R xs → AllPairsOf S xs → AllPairsOf (λ x y. R x y × S x y) xs
  pairs_both R S [] rs ss = tt
  pairs_both R S (x ∷ xs) rs ss = (both x xs rs.0 ss.0, pairs_both R S xs rs.1 ss.1)
    where
      both : (x : X) (zs : List X) → AllByRecursion (R x) zs → AllByRecursion (S x) zs → AllByRecursion (λ y. R x y × S x y) zs
      both x [] r s = tt
      both x (z ∷ zs) r s = ((r.0, s.0), both x zs r.1 s.1)

  filtered_by : (P : X → Type 0) (test : X → Bool) (x : X) (xs : List X) (b : Bool) → P x → AllByRecursion P (filter test xs) → AllByRecursion P (if b then x ∷ filter test xs else filter test xs)
  filtered_by P test x xs true here rest = (here, rest)
  filtered_by P test x xs false here rest = rest

  each_of_kept : (P : X → Type 0) (test : X → Bool) (xs : List X) → AllByRecursion P xs → AllByRecursion P (filter test xs)
  each_of_kept P test [] all = tt
  each_of_kept P test (x ∷ xs) all = filtered_by P test x xs (test x) all.0 (each_of_kept P test xs all.1)

  pairs_by : (R : X → X → Type 0) (test : X → Bool) (x : X) (xs : List X) (b : Bool) → AllByRecursion (R x) xs → AllPairsOf R (filter test xs)
      → AllPairsOf R (if b then x ∷ filter test xs else filter test xs)
  pairs_by R test x xs true here rest = (each_of_kept (R x) test xs here, rest)
  pairs_by R test x xs false here rest = rest

  pub pairs_kept : (R : X → X → Type 0) (test : X → Bool) (xs : List X) → AllPairsOf R xs → AllPairsOf R (filter test xs)
  pairs_kept R test [] pairs = tt
  pairs_kept R test (x ∷ xs) pairs = pairs_by R test x xs (test x) pairs.0 (pairs_kept R test xs pairs.1)

module _ {X Y : Type 0} where
  pub of_pairs_mapped : (R : Y → Y → Type 0) (f : X → Y) (xs : List X) → AllPairsOf R (map f xs) → AllPairsOf (λ x y. R (f x) (f y)) xs
  of_pairs_mapped R f [] pairs = tt
  of_pairs_mapped R f (x ∷ xs) pairs = (of_each_mapped (R (f x)) f xs pairs.0, of_pairs_mapped R f xs pairs.1)

  pub pairs_mapped : (R : Y → Y → Type 0) (f : X → Y) (xs : List X) → AllPairsOf (λ x y. R (f x) (f y)) xs → AllPairsOf R (map f xs)
  pairs_mapped R f [] pairs = tt
  pairs_mapped R f (x ∷ xs) pairs = (mapped x xs pairs.0, pairs_mapped R f xs pairs.1)
    where
      mapped : (x : X) (zs : List X) → AllByRecursion (λ y. R (f x) (f y)) zs → AllByRecursion (R (f x)) (map f zs)
      mapped x [] all = tt
      mapped x (z ∷ zs) all = (all.0, mapped x zs all.1)

-- ---- declarations

-- none of the places comes before this one
none_before : (place : Place) (ps : List Place) → first_before place ps ≡ None → AllByRecursion (λ q. is_before q place ≡ false) ps
unfolding first_before
none_before place [] none = tt
none_before place (p ∷ ps) none = by_test (is_before p place) refl none (none_before place ps)
  where
    by_test : (b : Bool) → is_before p place ≡ b → (if b then Some (first_place p (first_before p ps)) else first_before place ps) ≡ None
        → (first_before place ps ≡ None → AllByRecursion (λ q. is_before q place ≡ false) ps) → AllByRecursion (λ q. is_before q place ≡ false) (p ∷ ps)
    by_test true is none rest = let bad : ⊥ = cc in absurd bad
    by_test false is none rest = (is, rest none)

-- what is declared once is not built in, and no other declaration of its name comes before it
abbrev pub Once : List Declared → Declared → Type 0
Once ds d = (is_built_in (full_name d) ≡ false) × AllByRecursion (λ e. bytes_eq (full_name d) (full_name e) ≡ true → is_before e.name.place d.name.place ≡ false) (entities_declared ds)

once_by : (b : Bool) (place : Place) (first : Option Place) → twice_by b place first ≡ [] → (b ≡ false) × (first ≡ None)
once_by true place first none = let bad : ⊥ = cc in absurd bad
once_by false place None none = (refl, refl)
once_by false place (Some first) none = let bad : ⊥ = cc in absurd bad

once_from : (ds : List Declared) (d : Declared) → twice_by (is_built_in (full_name d)) d.name.place (first_before d.name.place (places_declared ds (full_name d))) ≡ [] → Once ds d
once_from ds d none =
    let parts = once_by (is_built_in (full_name d)) d.name.place (first_before d.name.place (places_declared ds (full_name d))) none in
    let places = none_before d.name.place (places_declared ds (full_name d)) parts.1 in
    let kept = of_each_mapped (λ q. is_before q d.name.place ≡ false) (λ (e : Declared). e.name.place) (filter (λ e. bytes_eq (full_name d) (full_name e)) (entities_declared ds)) places in
    (parts.0, each_kept (λ e. is_before e.name.place d.name.place ≡ false) (λ e. bytes_eq (full_name d) (full_name e)) (entities_declared ds) kept)

pub all_once : (ds : List Declared) → declared_twice ds ≡ [] → AllByRecursion (Once ds) (entities_declared ds)
unfolding declared_twice
all_once ds none =
    each_weaker (λ d. twice_by (is_built_in (full_name d)) d.name.place (first_before d.name.place (places_declared ds (full_name d))) ≡ []) (Once ds) (entities_declared ds) (once_from ds)
    (none_of_each (λ d. twice_by (is_built_in (full_name d)) d.name.place (first_before d.name.place (places_declared ds (full_name d)))) (entities_declared ds) none)

abbrev NamesApart : Declared → Declared → Type 0
NamesApart d e = bytes_eq (full_name d) (full_name e) ≡ false

abbrev NotBefore : Declared → Declared → Type 0
NotBefore d e = bytes_eq (full_name d) (full_name e) ≡ true → is_before e.name.place d.name.place ≡ false

same_back : (x y : List ℕ) → bytes_eq x y ≡ true → bytes_eq y x ≡ true
same_back x y same = (bytes_eq-Decides y x).1 (sym ((bytes_eq-Decides x y).0 same))

names_apart : (d e : Declared) → (NotBefore d e × NotBefore e d) × Apart d.name.place e.name.place → NamesApart d e
names_apart d e both =
    false_from_ne_true (bytes_eq (full_name d) (full_name e)) (λ same.
    both_ways (is_at d.name.place e.name.place) both.1 (at_one_place d.name.place e.name.place (both.0.1 (same_back (full_name d) (full_name e) same)) (both.0.0 same)))

pub declared_apart : (ds : List Declared) → are_apart (leaf_places ds) ≡ true → declared_twice ds ≡ [] → AllPairsOf NamesApart (entities_declared ds)
unfolding leaf_places entities_declared
declared_apart ds apart none =
    let once = all_once ds none in
    let es = entities_declared ds in
    let each : (d e : Declared) → Contains es d → Contains es e → NotBefore d e = λ d e in' in''. each_at (NotBefore d) es e (each_at (Once ds) es d once in').1 in'' in
    let square = at_each (λ d. AllByRecursion (λ e. NotBefore d e × NotBefore e d) es) es (λ d in'. at_each (λ e. NotBefore d e × NotBefore e d) es (λ e in''. (each d e in' in'', each e d in'' in'))) in
    let places = of_pairs_mapped Apart (λ (d : Declared). d.name.place) ds (pairs_front Apart (map (λ (d : Declared). d.name.place) ds) _ (apart_pairs (leaf_places ds) apart)) in
    let kept = pairs_kept (λ (d e : Declared). Apart d.name.place e.name.place) (λ d. not (is_forward d.body)) ds places in
    pairs_weaker (λ d e. (NotBefore d e × NotBefore e d) × Apart d.name.place e.name.place) NamesApart es names_apart
    (pairs_both (λ d e. NotBefore d e × NotBefore e d) (λ d e. Apart d.name.place e.name.place) es (pairs_from_all (λ d e. NotBefore d e × NotBefore e d) es square) kept)

-- ---- with the built-in entities

not_found : (name : List ℕ) (es : List Entity) → is_some (find_entity name es) ≡ false → AllByRecursion (λ e. bytes_eq name e.name ≡ false) es
unfolding find_entity
not_found name [] none = tt
not_found name (e ∷ es) none = by_test (bytes_eq name e.name) refl none (not_found name es)
  where
    by_test : (b : Bool) → bytes_eq name e.name ≡ b → is_some (if b then Some e else find_entity name es) ≡ false
        → (is_some (find_entity name es) ≡ false → AllByRecursion (λ f. bytes_eq name f.name ≡ false) es) → AllByRecursion (λ f. bytes_eq name f.name ≡ false) (e ∷ es)
    by_test true is none rest = absurd (both_ways true none refl)
    by_test false is none rest = (is, rest none)

other_back : (x y : List ℕ) → bytes_eq x y ≡ false → bytes_eq y x ≡ false
other_back x y other = false_from_ne_true (bytes_eq y x) (λ same. both_ways (bytes_eq x y) other (same_back y x same))

pub built_in_apart : AllPairsOf Differ built_in
built_in_apart = ((refl, (refl, (refl, (refl, tt)))), ((refl, (refl, (refl, tt))), ((refl, (refl, tt)), ((refl, tt), (tt, tt)))))

pub all_apart : (ds : List Declared) → are_apart (leaf_places ds) ≡ true → declared_twice ds ≡ [] → AllPairsOf Differ (built_in ++ map (entity_meant ds) (entities_declared ds))
unfolding is_built_in
all_apart ds apart none =
    let es = entities_declared ds in
    let once = all_once ds none in
    let names = pairs_mapped Differ (entity_meant ds) es (declared_apart ds apart none) in
    let across = at_each (λ x. AllByRecursion (Differ x) (map (entity_meant ds) es)) built_in (λ x in'.
    at_each (Differ x) (map (entity_meant ds) es) (λ y in''. each_at (Differ x) (map (entity_meant ds) es) y (each_one ds x in' es (each_weaker (Once ds) (λ d. is_built_in (full_name d) ≡ false) es (λ d o. o.0) once)) in'')) in
    pairs_append Differ built_in (map (entity_meant ds) es) built_in_apart names across
  where
    each_one : (ds : List Declared) (x : Entity) → Contains built_in x → (es : List Declared) → AllByRecursion (λ d. is_some (find_entity (full_name d) built_in) ≡ false) es
        → AllByRecursion (Differ x) (map (entity_meant ds) es)
    each_one ds x in' [] all = tt
    each_one ds x in' (d ∷ es) all =
        (other_back (full_name d) x.name (each_at (λ e. bytes_eq (full_name d) e.name ≡ false) built_in x (not_found (full_name d) built_in all.0) in'), each_one ds x in' es all.1)
