-- Marks and least places at one number after the other.
use Rattle.std.proofs.Common.{◌≡◌, refl, sym, ap, subst, ◌∙◌, ℕ, zero, suc, ◌+◌, ◌<◌, ◌≤◌, ◌==◌, Bool, true, false, not, ◌&&◌, ◌||◌, nat_lt, List, [], ◌∷◌, ◌++◌, map, length, replicate, set, take, get_or, Option, None, Some, if◌then◌else◌, option_map, arith}
use Rattle.std.specs.List.{AllByRecursion, filter, list_any}
use Rattle.std.proofs.lemmas.Bool.{eqb-true, eq-eqb, ltb-true, ltb-false}
use Rattle.std.proofs.lemmas.List.{take_all, get_or-set_same, get_or-set_other, get_or-replicate, get_or_past, length-replicate, length-set}
use Rattle.std.proofs.lemmas.List.Folds.{list_any-append}
use Rattle.std.proofs.lemmas.Option.{get_or_from_slice_get, slice_get-get_or}
use Rattle.idl_meaning_model.specs.Declarations.{is_forward}
use Rattle.idl_model.specs.Places.{Place}
use Rattle.idl_names.specs.Tables.{Marks, MarksOf, is_among, Notes, NotesOne, PlacesOf, is_entity_at, entity_places, least_of, lesser, place_at}
use Rattle.idl_names.specs.declared.declaration.Declared.{Declared}
use Rattle.idl_trees.specs.Names.{place_of}
use Rattle.idl_trees.specs.Trees.{declaration_of}
use Rattle.idl_trees.specs.declared.place.Place as code

-- ---- lists

next_taken : {X : Type 0} (xs : List X) (i : ℕ) (x : X) → i < length xs → x ≡ get_or xs i x → take (suc i) xs ≡ take i xs ++ x ∷ []
next_taken [] i x low is = absurd (omega arith)
next_taken (y ∷ ys) zero x low is = ap (λ z. z ∷ []) (sym is)
next_taken (y ∷ ys) (suc i) x low is = ap (λ zs. y ∷ zs) (next_taken ys i x (omega arith) is)

pub one_more : {X : Type 0} (xs : List X) (i : ℕ) (x : X) → i < length xs → x ≡ get_or xs i x → take (i + 1) xs ≡ take i xs ++ x ∷ []
one_more xs i x low is = let next : i + 1 ≡ suc i = omega arith in ap (λ n. take n xs) next ∙ next_taken xs i x low is

-- what holds of all holds of one
pub at_index : {X : Type 0} (P : X → Type 0) (xs : List X) (i : ℕ) (x : X) → i < length xs → x ≡ get_or xs i x → AllByRecursion P xs → P x
at_index P [] i x low is all = absurd (omega arith)
at_index P (y ∷ ys) zero x low is all = subst P (sym is) all.0
at_index P (y ∷ ys) (suc i) x low is all = at_index P ys i x (omega arith) is all.1

or_false : (b : Bool) → (b || false) ≡ b
or_false true = refl
or_false false = refl

or_both : (a b c : Bool) → ((a || b) || c) ≡ (a || (b || c))
or_both true b c = refl
or_both false b c = refl

-- ---- marks

pub marks_none : {X : Type 0} (f : ℕ → X → Bool) (old : List Bool) → Marks old (λ n. list_any (f n) []) old
marks_none f old = record { long = refl; each = λ n. sym (or_false (get_or old n false)) }

pub marks_more : {X : Type 0} (f : ℕ → X → Bool) (xs : List X) (i : ℕ) (x : X) (old now new : List Bool) → i < length xs → x ≡ get_or xs i x
    → Marks old (λ n. list_any (f n) (take i xs)) now → Marks now (λ n. f n x) new → Marks old (λ n. list_any (f n) (take (i + 1) xs)) new
marks_more f xs i x old now new low is so_far one =
    record {
      long = one.long ∙ so_far.long;
      each = λ n.
          one.each n ∙ ap (λ b. b || f n x) (so_far.each n) ∙ or_both (get_or old n false) (list_any (f n) (take i xs)) (f n x)
          ∙ ap (λ b. get_or old n false || b) (sym (ap (list_any (f n)) (one_more xs i x low is) ∙ list_any-append (f n) (take i xs) (x ∷ []) ∙ ap (λ b. list_any (f n) (take i xs) || b) (or_false (f n x))));
    }

-- the same where an element is read
read_same : {X : Type 0} (xs : List X) (i : ℕ) (d : X) → i < length xs → get_or xs i d ≡ get_or xs i (get_or xs i d)
read_same xs i d low = sym (get_or_from_slice_get xs i (get_or xs i d) (get_or xs i d) (slice_get-get_or xs i d low))

pub marks_read : {X : Type 0} (f : ℕ → X → Bool) (xs : List X) (i : ℕ) (d : X) (old now new : List Bool) → i < length xs
    → Marks old (λ n. list_any (f n) (take i xs)) now → Marks now (λ n. f n (get_or xs i d)) new → Marks old (λ n. list_any (f n) (take (i + 1) xs)) new
marks_read f xs i d old now new low so_far one = marks_more f xs i (get_or xs i d) old now new low (read_same xs i d low) so_far one

pub low_read : (xs : List ℕ) (i d n m : ℕ) → i < length xs → m ≡ n → AllByRecursion (λ k. k < n) xs → get_or xs i d < m
low_read xs i d n m low same all = subst (λ k. get_or xs i d < k) (sym same) (at_index (λ k. k < n) xs i (get_or xs i d) low (read_same xs i d low) all)

pub marks_all : {X : Type 0} (f : ℕ → X → Bool) (xs : List X) (i : ℕ) (old new : List Bool) → length xs ≤ i → Marks old (λ n. list_any (f n) (take i xs)) new → Marks old (λ n. list_any (f n) xs) new
marks_all f xs i old new end marks = subst (λ ys. Marks old (λ n. list_any (f n) ys) new) (take_all i xs end) marks

pub not_marked : (old : List Bool) (number : ℕ) (wanted : Bool) → wanted ≡ false → Marks old (λ n. wanted && (number == n)) old
not_marked old number true is = absurd (cc)
not_marked old number false is = record { long = refl; each = λ n. sym (or_false (get_or old n false)) }

pub one_marked : (old : List Bool) (number : ℕ) (wanted : Bool) → wanted ≡ true → number < length old → Marks old (λ n. wanted && (number == n)) (set old number true)
one_marked old number false is low = absurd (cc)
one_marked old number true is low = record { long = length-set old number true; each = λ n. by_test n (number == n) refl }
  where
    or_true : (b : Bool) → true ≡ (b || true)
    or_true true = refl
    or_true false = refl

    by_test : (n : ℕ) (b : Bool) → (number == n) ≡ b → get_or (set old number true) n false ≡ (get_or old n false || b)
    by_test n true same = ap (λ k. get_or (set old number true) k false) (sym (eqb-true number n same)) ∙ get_or-set_same old number true false low ∙ or_true (get_or old n false)
    by_test n false other = get_or-set_other old number n true false (λ same. let e : (number == n) ≡ true = ap (λ k. number == k) same ∙ eq-eqb number number refl in cc) ∙ sym (or_false (get_or old n false))

-- ---- least places

pub least_append : (least : Option Place) (ps qs : List Place) → least_of least (ps ++ qs) ≡ least_of (least_of least ps) qs
unfolding least_of
least_append least [] qs = refl
least_append least (p ∷ ps) qs = least_append (Some (lesser least p)) ps qs

abbrev entity_place : Declared → Place
entity_place d = place_of d.name.now.place

places_append : (n : ℕ) (xs ys : List Declared) → entity_places n (xs ++ ys) ≡ entity_places n xs ++ entity_places n ys
places_append n [] ys = refl
places_append n (x ∷ xs) ys = by_test (places_append n xs ys) (is_entity_at n x)
  where
    by_test : entity_places n (xs ++ ys) ≡ entity_places n xs ++ entity_places n ys → (b : Bool) → map entity_place (if b then x ∷ filter (is_entity_at n) (xs ++ ys) else filter (is_entity_at n) (xs ++ ys))
        ≡ map entity_place (if b then x ∷ filter (is_entity_at n) xs else filter (is_entity_at n) xs) ++ entity_places n ys
    by_test rest true = ap (λ k. entity_place x ∷ k) rest
    by_test rest false = rest

pub notes_none : (old : List (Option code.Place)) → Notes old [] old
unfolding least_of
notes_none old = record { long = refl; each = λ n. refl }

one_noted : (n : ℕ) (d : Declared) (least after : Option Place) → after ≡ (if is_entity_at n d then Some (lesser least (place_of d.name.now.place)) else least) → after ≡ least_of least (entity_places n (d ∷ []))
unfolding least_of
one_noted n d least after is = by_test (is_entity_at n d) is
  where
    by_test : (b : Bool) → after ≡ (if b then Some (lesser least (entity_place d)) else least) → after ≡ least_of least (map entity_place (if b then d ∷ [] else []))
    by_test true here = here
    by_test false here = here

pub notes_more : (xs : List Declared) (i : ℕ) (x : Declared) (wanted : Bool) (old now new : List (Option code.Place)) → i < length xs → x ≡ get_or xs i x
    → wanted ≡ not (is_forward (declaration_of x.body.now)) → Notes old (take i xs) now → NotesOne now x.path (place_of x.name.now.place) wanted new → Notes old (take (i + 1) xs) new
notes_more xs i x wanted old now new low is entity so_far one =
    record {
      long = one.long ∙ so_far.long;
      each = λ n.
          let seen = one.each n ∙ ap (λ b. if b && (x.path == n) then Some (lesser (place_at now n) (place_of x.name.now.place)) else place_at now n) entity in
          one_noted n x (place_at now n) (place_at new n) seen ∙ ap (λ k. least_of k (entity_places n (x ∷ []))) (so_far.each n)
          ∙ sym (ap (λ k. least_of (place_at old n) (entity_places n k)) (one_more xs i x low is)
          ∙ ap (least_of (place_at old n)) (places_append n (take i xs) (x ∷ [])) ∙ least_append (place_at old n) (entity_places n (take i xs)) (entity_places n (x ∷ [])));
    }

pub notes_all : (xs : List Declared) (i : ℕ) (old new : List (Option code.Place)) → length xs ≤ i → Notes old (take i xs) new → Notes old xs new
notes_all xs i old new end notes = subst (λ ys. Notes old ys new) (take_all i xs end) notes

pub not_noted : (old : List (Option code.Place)) (number : ℕ) (place : Place) (wanted : Bool) → wanted ≡ false → NotesOne old number place wanted old
not_noted old number place true is = absurd (cc)
not_noted old number place false is = record { long = refl; each = λ n. refl }

pub place_noted : (old : List (Option code.Place)) (number : ℕ) (place : Place) (wanted : Bool) (new : code.Place) → wanted ≡ true → number < length old
    → place_of new ≡ lesser (place_at old number) place → NotesOne old number place wanted (set old number (Some new))
place_noted old number place false new is low less = absurd (cc)
place_noted old number place true new is low less = record { long = length-set old number (Some new); each = λ n. by_test n (number == n) refl }
  where
    by_test : (n : ℕ) (b : Bool) → (number == n) ≡ b → place_at (set old number (Some new)) n ≡ (if b then Some (lesser (place_at old n) place) else place_at old n)
    by_test n true same =
        let at : number ≡ n = eqb-true number n same in
        ap (λ k. place_at (set old number (Some new)) k) (sym at) ∙ ap (option_map place_of) (get_or-set_same old number (Some new) None low) ∙ ap Some less
        ∙ ap (λ k. Some (lesser (place_at old k) place)) at
    by_test n false other = ap (option_map place_of) (get_or-set_other old number n (Some new) None (λ same. let e : (number == n) ≡ true = ap (λ k. number == k) same ∙ eq-eqb number number refl in cc))

-- ---- whole tables

pub none_marked : (count : ℕ) (marks : List Bool) → marks ≡ replicate count false → MarksOf count (λ n. false) marks
none_marked count marks is =
    record {
      long = ap length is ∙ length-replicate count false;
      each = λ n. ap (λ ms. get_or ms n false) is ∙ by_place n (nat_lt n count) refl;
    }
  where
    by_place : (n : ℕ) (b : Bool) → nat_lt n count ≡ b → get_or (replicate count false) n false ≡ false
    by_place n true low = get_or-replicate count n false false (ltb-true n count low)
    by_place n false high =
        let above = ltb-false n count high in
        let long = length-replicate {A = Bool} count false in
        get_or_past (replicate count false) n false (omega (arith, above, long))

pub marks_then : (count : ℕ) (old new : List Bool) (test more : ℕ → Bool) → MarksOf count test old → Marks old more new → MarksOf count (λ n. test n || more n) new
marks_then count old new test more of adds = record { long = adds.long ∙ of.long; each = λ n. adds.each n ∙ ap (λ b. b || more n) (of.each n) }

pub none_noted : (ds : List Declared) (count : ℕ) (old new : List (Option code.Place)) → old ≡ replicate count None → Notes old ds new → PlacesOf ds new
none_noted ds count old new is notes n =
    notes.each n ∙ ap (λ o. least_of o (entity_places n ds)) (ap (λ (ps : List (Option code.Place)). place_at ps n) is ∙ ap (option_map place_of) (by_place (nat_lt n count) refl))
  where
    by_place : (b : Bool) → nat_lt n count ≡ b → ◌≡◌ {A = Option code.Place} (get_or (replicate count None) n None) None
    by_place true low = get_or-replicate {A = Option code.Place} count n None None (ltb-true n count low)
    by_place false high =
        let above = ltb-false n count high in
        let long = length-replicate {A = Option code.Place} count None in
        get_or_past {X = Option code.Place} (replicate count None) n None (omega (arith, above, long))

-- numbers that are low enough for a table
pub low_for : {X : Type 0} (number : X → ℕ) (count : ℕ) (n : ℕ) (xs ys : List X) → n ≡ count → ys ≡ xs → AllByRecursion (λ x. number x < count) xs → AllByRecursion (λ x. number x < n) ys
low_for number count n xs ys long same low = subst (λ k. AllByRecursion (λ x. number x < k) ys) (sym long) (subst (AllByRecursion (λ x. number x < count)) (sym same) low)

-- marks of numbers that were read as a slice
pub among_marked : (old new : List Bool) (xs ys : List ℕ) → ys ≡ xs → Marks old (is_among ys) new → Marks old (is_among xs) new
among_marked old new xs ys same marks = subst (λ ns. Marks old (is_among ns) new) same marks
