-- Keys of places that rise: the number at the key of a place is the one that is told there.
use Rattle.std.proofs.Common.{◌≡◌, refl, sym, ap, subst, ◌∙◌, ℕ, zero, suc, ◌+◌, ◌*◌, ◌<◌, ◌≤◌, ◌==◌, ◌⊎◌, inl, inr, Bool, true, false, List, [], ◌∷◌, ◌++◌, length, map, take, get_or, slice_get, Option, None, Some, Ok, Err, option_map, if◌then◌else◌, arith}
use Rattle.std.proofs.lemmas.Bool.{and_from, and_parts, cases_lt, eq-eqb, eqb-true, lt-ltb, ltb-true}
use Rattle.std.proofs.lemmas.List.{take_more}
use Rattle.std.proofs.lemmas.List.Sorted.{searched}
use Rattle.std.specs.List.{list_all}
use Rattle.std.specs.List.Sorted.{IsBinarySearchResult}
use Rattle.std.specs.Option.{option_and_then}
use Rattle.std.specs.Ordering.{nat_cmp}
use Rattle.std.specs.Prelude.{◌&&◌, nat_lt}
use Rattle.idl_model.specs.Places.{Place, is_at}
use Rattle.idl_trees.specs.Names.{place_of}
use Rattle.idl_trees.specs.declared.place.Place as code
use Rattle.idl_values.specs.Keys.{AreKeys, do_rise, has_key, number_beside}
use Rattle.idl_values.specs.Places.{first_place}
use Rattle.idl_values.specs.Told.{later, number_told}

-- ---- the key of a place

both_or_none : (a b : Bool) → (a ≡ true → b ≡ true) → (b ≡ true → a ≡ true) → a ≡ b
both_or_none true b on back = sym (on refl)
both_or_none false true on back = back refl
both_or_none false false on back = refl

pub key_is : (file byte key : ℕ) → byte < 4294967296 → key ≡ file * 4294967296 + byte → (p : Place) → has_key p key ≡ ((file == p.file) && (byte == p.byte))
unfolding has_key
key_is file byte key low is p = both_or_none (nat_lt p.byte 4294967296 && (key == p.file * 4294967296 + p.byte)) ((file == p.file) && (byte == p.byte)) on back
  where
    on : (nat_lt p.byte 4294967296 && (key == p.file * 4294967296 + p.byte)) ≡ true → ((file == p.file) && (byte == p.byte)) ≡ true
    on has =
        let parts = and_parts (nat_lt p.byte 4294967296) (key == p.file * 4294967296 + p.byte) has in
        let below = ltb-true p.byte 4294967296 parts.0 in
        let same = eqb-true key (p.file * 4294967296 + p.byte) parts.1 in
        let one : file ≡ p.file = omega (arith, low, is, below, same) in
        let other : byte ≡ p.byte = omega (arith, low, is, below, same) in
        and_from (file == p.file) (byte == p.byte) (eq-eqb file p.file one) (eq-eqb byte p.byte other)

    back : ((file == p.file) && (byte == p.byte)) ≡ true → (nat_lt p.byte 4294967296 && (key == p.file * 4294967296 + p.byte)) ≡ true
    back at =
        let parts = and_parts (file == p.file) (byte == p.byte) at in
        let one = eqb-true file p.file parts.0 in
        let other = eqb-true byte p.byte parts.1 in
        and_from (nat_lt p.byte 4294967296) (key == p.file * 4294967296 + p.byte) (lt-ltb p.byte 4294967296 (omega (arith, low, other)))
        (eq-eqb key (p.file * 4294967296 + p.byte) (omega (arith, is, one, other)))

same_key : (p : Place) (j k : ℕ) → has_key p j ≡ true → has_key p k ≡ true → j ≡ k
unfolding has_key
same_key p j k one other =
    eqb-true j (p.file * 4294967296 + p.byte) (and_parts (nat_lt p.byte 4294967296) (j == p.file * 4294967296 + p.byte) one).1
    ∙ sym (eqb-true k (p.file * 4294967296 + p.byte) (and_parts (nat_lt p.byte 4294967296) (k == p.file * 4294967296 + p.byte) other).1)

other_key : (p : Place) (j k : ℕ) → has_key p j ≡ true → (j ≡ k → ⊥) → has_key p k ≡ false
other_key p j k one apart = by_test (has_key p k) refl
  where
    by_test : (b : Bool) → has_key p k ≡ b → b ≡ false
    by_test true is = absurd (apart (same_key p j k one is))
    by_test false is = refl

-- ---- keys that rise

passes_at : (test : ℕ → Bool) (xs : List ℕ) → list_all test xs ≡ true → (i : ℕ) → i < length xs → test (get_or xs i 0) ≡ true
passes_at test [] all i low = absurd (omega (arith, low))
passes_at test (x ∷ xs) all zero low = (and_parts (test x) (list_all test xs) all).0
passes_at test (x ∷ xs) all (suc i) low = passes_at test xs (and_parts (test x) (list_all test xs) all).1 i (omega (arith, low))

rises_at : (ks : List ℕ) → do_rise ks ≡ true → (i j : ℕ) → i < j → j < length ks → get_or ks i 0 < get_or ks j 0
unfolding do_rise
rises_at [] rise i j less low = absurd (omega (arith, low))
rises_at (k ∷ ks) rise i zero less low = absurd (omega (arith, less))
rises_at (k ∷ ks) rise zero (suc j) less low = ltb-true k (get_or ks j 0) (passes_at (nat_lt k) ks (and_parts (list_all (nat_lt k) ks) (do_rise ks) rise).0 j (omega (arith, low)))
rises_at (k ∷ ks) rise (suc i) (suc j) less low = rises_at ks (and_parts (list_all (nat_lt k) ks) (do_rise ks) rise).1 i j (omega (arith, less)) (omega (arith, low))

never_falls : (ks : List ℕ) → do_rise ks ≡ true → (i j : ℕ) → i ≤ j → j < length ks → get_or ks i 0 ≤ get_or ks j 0
never_falls ks rise i j le low = by_case (cases_lt i j)
  where
    by_case : (i < j) ⊎ (j ≤ i) → get_or ks i 0 ≤ get_or ks j 0
    by_case (inl less) = let it = rises_at ks rise i j less low in omega (arith, it)
    by_case (inr high) = let one : i ≡ j = omega (arith, le, high) in let same : get_or ks i 0 ≡ get_or ks j 0 = ap (λ n. get_or ks n 0) one in omega (arith, same)

passes_more : (test : ℕ → Bool) (xs : List ℕ) (k : ℕ) → list_all test xs ≡ true → test k ≡ true → list_all test (xs ++ k ∷ []) ≡ true
passes_more test [] k all one = and_from (test k) true one refl
passes_more test (x ∷ xs) k all one =
    let parts = and_parts (test x) (list_all test xs) all in
    and_from (test x) (list_all test (xs ++ k ∷ [])) parts.0 (passes_more test xs k parts.1 one)

-- these rise, and are below a number
abbrev pub RiseBelow : ℕ → List ℕ → Type 0
RiseBelow low ks = (do_rise ks ≡ true) × (list_all (λ k. nat_lt k low) ks ≡ true)

pub none_rise : RiseBelow 0 []
unfolding do_rise
none_rise = (refl, refl)

rise_more : (low : ℕ) (ks : List ℕ) (k : ℕ) → RiseBelow low ks → low ≤ k → do_rise (ks ++ k ∷ []) ≡ true
unfolding do_rise
rise_more low [] k so_far le = refl
rise_more low (x ∷ xs) k so_far le =
    let rise = and_parts (list_all (nat_lt x) xs) (do_rise xs) so_far.0 in
    let below = and_parts (nat_lt x low) (list_all (λ y. nat_lt y low) xs) so_far.1 in
    let less = ltb-true x low below.0 in
    and_from (list_all (nat_lt x) (xs ++ k ∷ [])) (do_rise (xs ++ k ∷ [])) (passes_more (nat_lt x) xs k rise.0 (lt-ltb x k (omega (arith, less, le)))) (rise_more low xs k (rise.1, below.1) le)

below_more : (low high : ℕ) (ks : List ℕ) (k : ℕ) → list_all (λ x. nat_lt x low) ks ≡ true → low ≤ high → k < high → list_all (λ x. nat_lt x high) (ks ++ k ∷ []) ≡ true
below_more low high [] k all le less = and_from (nat_lt k high) true (lt-ltb k high less) refl
below_more low high (x ∷ xs) k all le less =
    let parts = and_parts (nat_lt x low) (list_all (λ y. nat_lt y low) xs) all in
    let below = ltb-true x low parts.0 in
    and_from (nat_lt x high) (list_all (λ y. nat_lt y high) (xs ++ k ∷ [])) (lt-ltb x high (omega (arith, below, le))) (below_more low high xs k parts.1 le less)

pub next_rises : (ks : List ℕ) (i k low : ℕ) → i < length ks → k ≡ get_or ks i k → RiseBelow low (take i ks) → low ≤ k → RiseBelow (k + 1) (take (i + 1) ks)
next_rises ks i k low inside is so_far le =
    subst (RiseBelow (k + 1)) (sym (take_more ks i k inside ∙ ap (λ y. take i ks ++ y ∷ []) (sym is)))
    (rise_more low (take i ks) k so_far le, below_more low (k + 1) (take i ks) k so_far.1 (omega (arith, le)) (omega arith))

-- ---- a key among those that rise

none_there : (test : ℕ → Bool) (ks : List ℕ) → ((i : ℕ) → i < length ks → test (get_or ks i 0) ≡ false) → first_place test ks ≡ None
unfolding first_place
none_there test [] each = refl
none_there test (k ∷ ks) each =
    ap (λ b. if b then Some 0 else option_map suc (first_place test ks)) (each 0 (omega arith)) ∙ ap (option_map suc) (none_there test ks (λ i low. each (suc i) (omega (arith, low))))

found_there : (p : Place) (ks : List ℕ) → do_rise ks ≡ true → (i : ℕ) → i < length ks → has_key p (get_or ks i 0) ≡ true → first_place (has_key p) ks ≡ Some i
unfolding first_place do_rise
found_there p [] rise i low is = absurd (omega (arith, low))
found_there p (k ∷ ks) rise zero low is = ap (λ b. if b then Some 0 else option_map suc (first_place (has_key p) ks)) is
found_there p (k ∷ ks) rise (suc i) low is =
    let less = rises_at (k ∷ ks) rise 0 (suc i) (omega arith) low in
    ap (λ b. if b then Some 0 else option_map suc (first_place (has_key p) ks)) (other_key p (get_or ks i 0) k is (λ same. omega (arith, less, same)))
    ∙ ap (option_map suc) (found_there p ks (and_parts (list_all (nat_lt k) ks) (do_rise ks) rise).1 i (omega (arith, low)) is)

pub beside_found : (ks ns js : List ℕ) (p : Place) (key i : ℕ) → js ≡ ks → do_rise ks ≡ true → has_key p key ≡ true → IsBinarySearchResult (λ y. nat_cmp y key) js (Ok i) → slice_get ns i ≡ number_beside ks ns p
unfolding number_beside
beside_found ks ns js p key i are rise own found =
    let at = searched ks key (Ok i) (subst (λ xs. IsBinarySearchResult (λ y. nat_cmp y key) xs (Ok i)) are found) (never_falls ks rise) in
    sym (ap (option_and_then (slice_get ns)) (found_there p ks rise i at.0 (subst (λ k. has_key p k ≡ true) (sym at.1) own)))

pub beside_none : (ks ns js : List ℕ) (p : Place) (key i : ℕ) → js ≡ ks → do_rise ks ≡ true → has_key p key ≡ true → IsBinarySearchResult (λ y. nat_cmp y key) js (Err i) → None ≡ number_beside ks ns p
unfolding number_beside
beside_none ks ns js p key i are rise own found = sym (ap (option_and_then (slice_get ns)) (none_there (has_key p) ks (λ j low. other_key p key (get_or ks j 0) own (apart j low))))
  where
    apart : (j : ℕ) → j < length ks → key ≡ get_or ks j 0 → ⊥
    apart j low same =
        let at = searched ks key (Err i) (subst (λ xs. IsBinarySearchResult (λ y. nat_cmp y key) xs (Err i)) are found) (never_falls ks rise) in
        by_case at.1 at.2 (cases_lt j i)
      where
        by_case : ((k : ℕ) → k < i → get_or ks k 0 < key) → ((k : ℕ) → i ≤ k → k < length ks → key < get_or ks k 0) → (j < i) ⊎ (i ≤ j) → ⊥
        by_case front back (inl less) = let it = front j less in omega (arith, it, same)
        by_case front back (inr high) = let it = back j high low in omega (arith, it, same)

-- ---- what is told

behind : (n : ℕ) (ns : List ℕ) (o : Option ℕ) → option_and_then (slice_get (n ∷ ns)) (option_map suc o) ≡ option_and_then (slice_get ns) o
behind n ns None = refl
behind n ns (Some i) = refl

none_before : (o : Option ℕ) → o ≡ later None o
none_before None = refl
none_before (Some n) = refl

told_beside : (xs : List (code.Place × ℕ)) (ks : List ℕ) → AreKeys xs ks → do_rise ks ≡ true → (p : Place) → option_and_then (slice_get (map (λ x. x.1) xs)) (first_place (has_key p) ks) ≡ number_told xs p
unfolding AreKeys do_rise first_place number_told
told_beside [] [] are rise p = refl
told_beside [] (k ∷ ks) are rise p = absurd are
told_beside (x ∷ xs) [] are rise p = absurd are
told_beside (x ∷ xs) (k ∷ ks) are rise p =
    by_test (has_key p k) refl (told_beside xs ks are.1 (and_parts (list_all (nat_lt k) ks) (do_rise ks) rise).1 p)
    ∙ ap (λ b. later (if b then Some x.1 else None) (number_told xs p)) (are.0 p)
  where
    others : has_key p k ≡ true → first_place (has_key p) ks ≡ None
    others is =
        none_there (has_key p) ks
        (λ i low. other_key p k (get_or ks i 0) is (λ same. let less = rises_at (k ∷ ks) rise 0 (suc i) (omega arith) (omega (arith, low)) in omega (arith, less, same)))

    by_test : (b : Bool) → has_key p k ≡ b → option_and_then (slice_get (map (λ y. y.1) xs)) (first_place (has_key p) ks) ≡ number_told xs p
        → option_and_then (slice_get (x.1 ∷ map (λ y. y.1) xs)) (if b then Some 0 else option_map suc (first_place (has_key p) ks)) ≡ later (if b then Some x.1 else None) (number_told xs p)
    by_test true is again = sym (ap (later (Some x.1)) (sym again ∙ ap (option_and_then (slice_get (map (λ y. y.1) xs))) (others is)))
    by_test false is again = behind x.1 (map (λ y. y.1) xs) (first_place (has_key p) ks) ∙ again ∙ none_before (number_told xs p)

pub beside_told : (xs : List (code.Place × ℕ)) (ks ns : List ℕ) → AreKeys xs ks → do_rise ks ≡ true → ns ≡ map (λ x. x.1) xs → (p : Place) → number_beside ks ns p ≡ number_told xs p
unfolding number_beside
beside_told xs ks ns are rise is p = ap (λ ms. option_and_then (slice_get ms) (first_place (has_key p) ks)) is ∙ told_beside xs ks are rise p

-- ---- one more key

pub no_keys : (ks : List ℕ) → ks ≡ [] → AreKeys [] ks
unfolding AreKeys
no_keys ks is = subst (AreKeys []) (sym is) tt

keys_more : (xs : List (code.Place × ℕ)) (ks : List ℕ) (x : code.Place × ℕ) (k : ℕ) → AreKeys xs ks → ((p : Place) → has_key p k ≡ is_at (place_of x.0) p) → AreKeys (xs ++ x ∷ []) (ks ++ k ∷ [])
unfolding AreKeys
keys_more [] [] x k are own = (own, tt)
keys_more [] (j ∷ ks) x k are own = absurd are
keys_more (y ∷ xs) [] x k are own = absurd are
keys_more (y ∷ xs) (j ∷ ks) x k are own = (are.0, keys_more xs ks x k are.1 own)

pub next_key : (xs : List (code.Place × ℕ)) (i : ℕ) (x : code.Place × ℕ) (now new : List ℕ) (k : ℕ) → i < length xs → x ≡ get_or xs i x → AreKeys (take i xs) now → new ≡ now ++ k ∷ [] → ((p : Place) → has_key p k ≡ is_at (place_of x.0) p)
    → AreKeys (take (i + 1) xs) new
next_key xs i x now new k low is are adds own =
    subst (λ (ys : List (code.Place × ℕ)). AreKeys ys new) (sym (take_more xs i x low ∙ ap (λ y. take i xs ++ y ∷ []) (sym is)))
    (subst (AreKeys (take i xs ++ x ∷ [])) (sym adds) (keys_more (take i xs) now x k are own))
