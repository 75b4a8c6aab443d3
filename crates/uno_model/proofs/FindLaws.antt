-- Entities whose names rise are found by their names' places, and a new name has one gap between them.
use Rattle.std.proofs.Common.{◌≡◌, ℕ, zero, suc, ◌<◌, ◌≤◌, Bool, true, false, List, [], ◌∷◌, ◌++◌, length, map, take}
use Rattle.std.proofs.Common.{drop, get_or, None, Some, refl, sym, ap, subst, ◌∙◌, ◌⊎◌, inl, inr, arith}
use Rattle.std.proofs.lemmas.Bool.{cases_lt, cases_order}
use Rattle.std.specs.Prelude.{slice_get}
use Rattle.std.proofs.lemmas.Option.{slice_get_within, get_or_from_slice_get}
use Rattle.std.proofs.lemmas.List.{map-append, take-map, drop-map, length-map, get_or-map}
use Rattle.std.specs.List.{AllByRecursion}
use Rattle.std.specs.List.Sorted.{IsStrictlySortedBy}
use Rattle.std.specs.Cmp.Lexicographic.{slice_cmp}
use Rattle.std.specs.Ordering.{nat_cmp, is_eq, ordering_reverse}
use Rattle.std.specs.declared.cmp.Ordering.{Ordering}
use Rattle.std.specs.declared.cmp.Ordering.TheVariants.{Less, Equal, Greater}
use Rattle.std.specs.Str.{bytes_eq}
use Rattle.std.proofs.lemmas.Slice.Eq.{bytes_eq-Decides}
use Rattle.std.proofs.lemmas.Cmp.{same_from_slice_cmp, nat_list_cmp_total}
use Rattle.std.proofs.lemmas.Bool.Decides.{nat_tests}
use Rattle.uno_model.specs.Entities.{Entity}
use Rattle.uno_model.specs.Registry.{IsRising, find_entity}

-- the order of names
abbrev pub name_cmp : List ℕ → List ℕ → Ordering
name_cmp = slice_cmp nat_cmp

-- names that compare equal are one
eq_test : (xs ys : List ℕ) (o : Ordering) → o ≡ name_cmp xs ys → is_eq o ≡ bytes_eq xs ys
eq_test = same_from_slice_cmp nat_cmp is_eq bytes_eq refl (λ _ _. refl) (λ _ _. refl) (λ x y xs ys o h. grind (arith, nat_tests))

pub equal_names : (x y : List ℕ) → name_cmp x y ≡ Equal → x ≡ y
equal_names x y e = (bytes_eq-Decides x y).0 (sym (eq_test x y Equal (sym e)))

pub same_equal : (x : List ℕ) → bytes_eq x x ≡ true
same_equal x = (bytes_eq-Decides x x).1 refl

-- a test that cannot pass fails
fails : (b : Bool) → (b ≡ true → ⊥) → b ≡ false
fails true passes = absurd (passes refl)
fails false passes = refl

-- a name below another is another
below_differs : (x y : List ℕ) → name_cmp x y ≡ Less → bytes_eq y x ≡ false
below_differs x y below = fails (bytes_eq y x) (λ same. differs (subst (λ z. name_cmp x z ≡ Less) ((bytes_eq-Decides y x).0 same) below))
  where
    differs : name_cmp x x ≡ Less → ⊥
    differs less = let e : false ≡ true = eq_test x x Less (sym less) ∙ same_equal x in cc

above_differs : (x y : List ℕ) → name_cmp x y ≡ Greater → bytes_eq y x ≡ false
above_differs x y above = fails (bytes_eq y x) (λ same. differs (subst (λ z. name_cmp x z ≡ Greater) ((bytes_eq-Decides y x).0 same) above))
  where
    differs : name_cmp x x ≡ Greater → ⊥
    differs greater = let e : false ≡ true = eq_test x x Greater (sym greater) ∙ same_equal x in cc

-- no entity of the name is found where each has another
pub none_found : (name : List ℕ) (es : List Entity) → AllByRecursion (λ e. bytes_eq name e.name ≡ false) es → find_entity name es ≡ None
unfolding find_entity
none_found name [] others = refl
none_found name (e ∷ es) others = rw others.0 (none_found name es others.1)

-- where names rise, the entity at a place is the one that is found by its name
pub found_at : (name : List ℕ) (es : List Entity) (i : ℕ) (d : Entity) → IsRising es → i < length es → (get_or es i d).name ≡ name → find_entity name es ≡ Some (get_or es i d)
unfolding find_entity IsStrictlySortedBy
found_at name [] i d rising within is = absurd (omega arith)
found_at name (e ∷ es) zero d rising within is = let same : bytes_eq name e.name ≡ true = ap (λ n. bytes_eq name n) is ∙ same_equal name in rw same refl
found_at name (e ∷ es) (suc i) d rising within is =
    let below : name_cmp e.name (get_or es i d).name ≡ Less = at_place es i d (omega arith) rising.0 in
    let other : bytes_eq name e.name ≡ false = below_differs e.name name (subst (λ n. name_cmp e.name n ≡ Less) is below) in
    rw other (found_at name es i d rising.1 (omega arith) is)
  where
    at_place : (xs : List Entity) (k : ℕ) (f : Entity) → k < length xs → AllByRecursion (λ y. name_cmp e.name y ≡ Less) (map (λ x. x.name) xs)
        → name_cmp e.name (get_or xs k f).name ≡ Less
    at_place [] k f within all = absurd (omega arith)
    at_place (x ∷ xs) zero f within all = all.0
    at_place (x ∷ xs) (suc k) f within all = at_place xs k f (omega arith) all.1

-- a name that is above all before a place and below all from it on is not there
pub absent_at : (name : List ℕ) (es : List Entity) (i : ℕ) → ((k : ℕ) (d : Entity) → k < i → k < length es → name_cmp (get_or es k d).name name ≡ Less)
    → ((k : ℕ) (d : Entity) → i ≤ k → k < length es → name_cmp (get_or es k d).name name ≡ Greater) → find_entity name es ≡ None
absent_at name es i before after = none_found name es (others es (λ k d within. differs k d within (cases_lt k i)))
  where
    differs : (k : ℕ) (d : Entity) → k < length es → (k < i) ⊎ (i ≤ k) → bytes_eq name (get_or es k d).name ≡ false
    differs k d within (inl low) = below_differs (get_or es k d).name name (before k d low within)
    differs k d within (inr high) = above_differs (get_or es k d).name name (after k d high within)

    others : (xs : List Entity) → ((k : ℕ) (d : Entity) → k < length xs → bytes_eq name (get_or xs k d).name ≡ false) → AllByRecursion (λ e. bytes_eq name e.name ≡ false) xs
    others [] each = tt
    others (x ∷ xs) each = (each 0 x (omega arith), others xs (λ k d within. each (suc k) d (omega arith)))

-- names rise on where a new one stands behind all that are below it and before all that are above it
insert_rising : (ks : List (List ℕ)) (i : ℕ) (k : List ℕ) → IsStrictlySortedBy name_cmp ks → i ≤ length ks → ((j : ℕ) → j < i → name_cmp (get_or ks j k) k ≡ Less)
    → ((j : ℕ) → i ≤ j → j < length ks → name_cmp k (get_or ks j k) ≡ Less) → IsStrictlySortedBy name_cmp (take i ks ++ k ∷ drop i ks)
unfolding IsStrictlySortedBy
insert_rising ks zero k sorted within before after = (all_above ks (λ j in_list. after j (omega arith) in_list), sorted)
  where
    all_above : (xs : List (List ℕ)) → ((j : ℕ) → j < length xs → name_cmp k (get_or xs j k) ≡ Less) → AllByRecursion (λ y. name_cmp k y ≡ Less) xs
    all_above [] each = tt
    all_above (x ∷ xs) each = (each 0 (omega arith), all_above xs (λ j in_list. each (suc j) (omega arith)))
insert_rising [] (suc i) k sorted within before after = absurd (omega arith)
insert_rising (x ∷ xs) (suc i) k sorted within before after =
    (with_new xs i sorted.0, insert_rising xs i k sorted.1 (omega arith) (λ j low. before (suc j) (omega arith)) (λ j high in_list. after (suc j) (omega arith) (omega arith)))
  where
    with_new : (ys : List (List ℕ)) (n : ℕ) → AllByRecursion (λ y. name_cmp x y ≡ Less) ys → AllByRecursion (λ y. name_cmp x y ≡ Less) (take n ys ++ k ∷ drop n ys)
    with_new ys zero all = (before 0 (omega arith), all)
    with_new [] (suc n) all = (before 0 (omega arith), tt)
    with_new (y ∷ ys) (suc n) all = (all.0, with_new ys n all.1)

-- a registry's names rise on with a new entity in the gap
pub rising_with : (reg : List Entity) (i : ℕ) (e : Entity) → IsRising reg → i ≤ length reg → ((k : ℕ) (d : Entity) → k < i → name_cmp (get_or reg k d).name e.name ≡ Less)
    → ((k : ℕ) (d : Entity) → i ≤ k → k < length reg → name_cmp (get_or reg k d).name e.name ≡ Greater) → IsRising (take i reg ++ e ∷ drop i reg)
rising_with reg i e rising within before after =
    let names = map name reg in
    let long : length names ≡ length reg = length-map reg name in
    let parts : map name (take i reg ++ e ∷ drop i reg) ≡ take i names ++ e.name ∷ drop i names =
    map-append name (take i reg) (e ∷ drop i reg) ∙ ap (λ x. x ++ e.name ∷ map name (drop i reg)) (sym (take-map name i reg)) ∙ ap (λ x. take i names ++ e.name ∷ x) (sym (drop-map name i reg)) in
    subst (IsStrictlySortedBy name_cmp) (sym parts) (insert_rising names i e.name rising (omega (arith, long)) (λ j low. below j low) (λ j high in_list. above j high (omega (arith, long))))
  where
    name : Entity → List ℕ
    name x = x.name

    below : (j : ℕ) → j < i → name_cmp (get_or (map name reg) j e.name) e.name ≡ Less
    below j low = let in_list : j < length reg = omega arith in rw (get_or-map name reg j e e.name in_list) (before j e low)

    above : (j : ℕ) → i ≤ j → j < length reg → name_cmp e.name (get_or (map name reg) j e.name) ≡ Less
    above j high in_list = rw (get_or-map name reg j e e.name in_list) (nat_list_cmp_total.antisymm e.name (get_or reg j e).name ∙ ap ordering_reverse (after j e high in_list))

-- where names rise, an entity's name is below those of later places
pub rising_at : (reg : List Entity) (i j : ℕ) (d : Entity) → IsRising reg → i < j → j < length reg → name_cmp (get_or reg i d).name (get_or reg j d).name ≡ Less
unfolding IsStrictlySortedBy
rising_at [] i j d rising low within = absurd (omega arith)
rising_at (e ∷ es) zero zero d rising low within = absurd (omega arith)
rising_at (e ∷ es) zero (suc j) d rising low within = below_at es j (omega arith) rising.0
  where
    below_at : (xs : List Entity) (k : ℕ) → k < length xs → AllByRecursion (λ y. name_cmp e.name y ≡ Less) (map (λ x. x.name) xs) → name_cmp e.name (get_or xs k d).name ≡ Less
    below_at [] k in_list all = absurd (omega arith)
    below_at (x ∷ xs) zero in_list all = all.0
    below_at (x ∷ xs) (suc k) in_list all = below_at xs k (omega arith) all.1
rising_at (e ∷ es) (suc i) zero d rising low within = absurd (omega arith)
rising_at (e ∷ es) (suc i) (suc j) d rising low within = rising_at es i j d rising.1 (omega arith) (omega arith)

-- a name is not below itself
not_below_itself : (x : List ℕ) → name_cmp x x ≡ Less → ⊥
not_below_itself x less = let e : false ≡ true = eq_test x x Less (sym less) ∙ same_equal x in cc

-- where names rise, no two places have one name
not_before : (reg : List Entity) (i j : ℕ) (f g : Entity) → IsRising reg → slice_get reg i ≡ Some f → slice_get reg j ≡ Some g → f.name ≡ g.name → i < j → ⊥
not_before reg i j f g rising at_i at_j same low =
    let within = slice_get_within reg j g at_j in
    let below = rising_at reg i j f rising low within in
    let first : (get_or reg i f).name ≡ f.name = ap (λ (x : Entity). x.name) (get_or_from_slice_get reg i f f at_i) in
    let second : (get_or reg j f).name ≡ g.name = ap (λ (x : Entity). x.name) (get_or_from_slice_get reg j g f at_j) in
    not_below_itself f.name (ap (λ n. name_cmp n f.name) (sym first) ∙ ap (λ n. name_cmp (get_or reg i f).name n) (same ∙ sym second) ∙ below)

pub distinct_places : (reg : List Entity) → IsRising reg → (i j : ℕ) (f g : Entity) → slice_get reg i ≡ Some f → slice_get reg j ≡ Some g → f.name ≡ g.name → i ≡ j
distinct_places reg rising i j f g at_i at_j same =
    elim (cases_order i j) [
      | inl one ↦ one
      | inr other ↦ elim other [ inl low ↦ absurd (not_before reg i j f g rising at_i at_j same low) | inr high ↦ absurd (not_before reg j i g f rising at_j at_i (sym same) high) ]
    ]
