-- A bag is told by how often each item is there.
use Rattle.std.proofs.Common.{◌≡◌, ℕ, ◌+◌, ◌≤◌, ◌<◌, suc, Bool, true, false, cond, not, ◌&&◌, ◌||◌, List, [], ◌∷◌, ◌++◌, length, refl, sym, ap, ◌∙◌, subst, arith}
use Rattle.std.specs.declared.cmp.Ordering.{Ordering}
use Rattle.std.specs.declared.cmp.Ordering.TheVariants.{Less, Equal, Greater}
use Rattle.std.specs.Ordering.{eq_by_cmp, is_eq, is_gt, ordering_reverse}
use Rattle.std.specs.Cmp.{IsTotalOrder, Equal-is, alike_right, tied_itself, upto}
use Rattle.std.specs.List.{filter, list_any}
use Rattle.std.specs.Prelude.{T}
use Rattle.std.proofs.lemmas.Bool.{true≢false}
use Rattle.std.specs.FinMap.{IsAntisymmetric}
use Rattle.table_model.specs.Bags.{how_many, how_often, one_more, one_less, bag_of, is_below, rises}

-- more of two lists are as many of each
pub how_many_append : {X : Type 0} (test : X → Bool) (xs ys : List X) → how_many test (xs ++ ys) ≡ how_many test xs + how_many test ys
how_many_append test [] ys = omega arith
how_many_append test (x ∷ xs) ys = let rest = how_many_append test xs ys in omega arith

-- no more pass a test than are there
pub how_many_at_most : {X : Type 0} (test : X → Bool) (xs : List X) → how_many test xs ≤ length xs
how_many_at_most test [] = omega arith
how_many_at_most test (x ∷ xs) = let rest = how_many_at_most test xs in grind arith

module _ {X : Type 0} (cmp : X → X → Ordering) where
  -- one more item is one more that passes, where it does
  pub how_many_one_more : (test : X → Bool) (x : X) (xs : List X) → how_many test (one_more cmp x xs) ≡ cond (test x) 1 0 + how_many test xs
  how_many_one_more test x [] = refl
  how_many_one_more test x (y ∷ ys) =
      let rest = how_many_one_more test x ys in
      elim (is_gt (cmp x y)) as (λ b. how_many test (cond b (y ∷ one_more cmp x ys) (x ∷ y ∷ ys)) ≡ cond (test x) 1 0 + (cond (test y) 1 0 + how_many test ys)) [ true ↦ omega arith | false ↦ refl ]

  -- of a bag as many pass a test as of the list
  pub how_many_bag_of : (test : X → Bool) (xs : List X) → how_many test (bag_of cmp xs) ≡ how_many test xs
  how_many_bag_of test [] = refl
  how_many_bag_of test (x ∷ xs) = let rest = how_many_bag_of test xs in how_many_one_more test x (bag_of cmp xs) ∙ ap (λ n. cond (test x) 1 0 + n) rest

both : (a b : Bool) → T a → T b → T (a && b)
both true b p q = q
both false b p q = p

first : (a b : Bool) → T (a && b) → T a
first true b p = tt
first false b p = p

second : (a b : Bool) → T (a && b) → T b
second true b p = p
second false b p = absurd p

not_above : (b : Bool) → T (not b) → b ≡ false
not_above true p = absurd p
not_above false p = refl

told : (b : Bool) → b ≡ false → T (not b)
told true e = absurd (true≢false e)
told false e = tt

module _ {X : Type 0} {cmp : X → X → Ordering} (order : IsTotalOrder cmp) where
  below_upto : (x y : X) (zs : List X) → is_gt (cmp x y) ≡ false → T (is_below cmp y zs) → T (is_below cmp x zs)
  below_upto x y [] le h = tt
  below_upto x y (z ∷ zs) le h = both _ _ (told _ (upto order x y z le (not_above _ (first _ _ h)))) (below_upto x y zs le (second _ _ h))

  below_one_more : (y x : X) (zs : List X) → is_gt (cmp y x) ≡ false → T (is_below cmp y zs) → T (is_below cmp y (one_more cmp x zs))
  below_one_more y x [] le h = both _ _ (told _ le) tt
  below_one_more y x (z ∷ zs) le h =
      elim (is_gt (cmp x z)) as (λ b. T (is_below cmp y (cond b (z ∷ one_more cmp x zs) (x ∷ z ∷ zs)))) [
        | true ↦ both _ _ (first _ _ h) (below_one_more y x zs le (second _ _ h))
        | false ↦ both _ _ (told _ le) h
      ]

  turned_back : (x y : X) → is_gt (cmp x y) ≡ true → is_gt (cmp y x) ≡ false
  turned_back x y is = ap is_gt (order.antisymm y x) ∙ elim (cmp x y) as (λ o. is_gt o ≡ true → is_gt (ordering_reverse o) ≡ false) [ Less ↦ λ e. absurd (true≢false (sym e)) | Equal ↦ λ _. refl | Greater ↦ λ _. refl ] is

  rises_one_more : (x : X) (ys : List X) → T (rises cmp ys) → T (rises cmp (one_more cmp x ys))
  rises_one_more x [] h = tt
  rises_one_more x (y ∷ ys) h =
      elim (is_gt (cmp x y)) as (λ b. is_gt (cmp x y) ≡ b → T (rises cmp (cond b (y ∷ one_more cmp x ys) (x ∷ y ∷ ys)))) [
        | true ↦ λ is. both _ _ (below_one_more y x ys (turned_back x y is) (first _ _ h)) (rises_one_more x ys (second _ _ h))
        | false ↦ λ is. both _ _ (both _ _ (told _ is) (below_upto x y ys is (first _ _ h))) h
      ] refl

  bag_rises : (xs : List X) → T (rises cmp (bag_of cmp xs))
  bag_rises [] = tt
  bag_rises (x ∷ xs) = rises_one_more x (bag_of cmp xs) (bag_rises xs)

  less_upto : (x y z : X) → cmp x y ≡ Less → is_gt (cmp y z) ≡ false → cmp x z ≡ Less
  less_upto x y z less le =
      elim (cmp y z) as (λ o. cmp y z ≡ o → is_gt o ≡ false → cmp x z ≡ Less) [
        | Less ↦ λ is _. order.trans x y z less is
        | Equal ↦ λ is _. sym (alike_right order y z x is) ∙ less
        | Greater ↦ λ _ e. absurd (true≢false e)
      ] refl le

  -- what is below all of a bag is not there
  nowhere : (x y : X) (zs : List X) → cmp x y ≡ Less → T (is_below cmp y zs) → how_often cmp x zs ≡ 0
  nowhere x y [] less h = refl
  nowhere x y (z ∷ zs) less h =
      let rest = nowhere x y zs less (second _ _ h) in
      ap (λ o. cond (is_eq o) 1 0 + how_often cmp x zs) (less_upto x y z less (not_above _ (first _ _ h))) ∙ omega arith

  not_there : (x y : X) (ys : List X) → cmp x y ≡ Less → T (is_below cmp y ys) → how_often cmp x (y ∷ ys) ≡ 0
  not_there x y ys less h = let rest = nowhere x y ys less h in ap (λ o. cond (is_eq o) 1 0 + how_often cmp x ys) less ∙ omega arith

  there : (x : X) (xs : List X) → 0 < how_often cmp x (x ∷ xs)
  there x xs = subst (λ o. 0 < cond (is_eq o) 1 0 + how_often cmp x xs) (sym (tied_itself order x)) (omega arith)

  module _ (same : IsAntisymmetric cmp) where
    -- two bags in which each item stands as often are the same
    same_rising : (xs ys : List X) → T (rises cmp xs) → T (rises cmp ys) → ((z : X) → how_often cmp z xs ≡ how_often cmp z ys) → xs ≡ ys
    same_rising [] [] g h often = refl
    same_rising [] (y ∷ ys) g h often = let here = there y ys in let none = often y in absurd (omega arith)
    same_rising (x ∷ xs) [] g h often = let here = there x xs in let none = often x in absurd (omega arith)
    same_rising (x ∷ xs) (y ∷ ys) g h often =
        elim (cmp x y) as (λ o. cmp x y ≡ o → x ∷ xs ≡ y ∷ ys) [
          | Less ↦ λ is. let here = there x xs in let none = not_there x y ys is (first _ _ h) in let often = often x in absurd (omega arith)
          | Greater ↦ λ is. let here = there y ys in let none = not_there y x xs (order.antisymm y x ∙ ap ordering_reverse is) (first _ _ g) in let often = often y in absurd (omega arith)
          | Equal ↦ λ is.
              let one = same x y is in
              let rest = same_rising xs ys (second _ _ g) (second _ _ h) (λ z. let often = often z in let alike : ◌≡◌ {A = ℕ} (cond (eq_by_cmp cmp z x) 1 0) (cond (eq_by_cmp cmp z y) 1 0) = ap (λ v. cond (eq_by_cmp cmp z v) 1 0) one in omega arith) in
              λ i. one i ∷ rest i
        ] refl

    -- lists in which each item stands as often have one bag
    pub same_bag : (xs ys : List X) → ((z : X) → how_often cmp z xs ≡ how_often cmp z ys) → bag_of cmp xs ≡ bag_of cmp ys
    same_bag xs ys often =
        same_rising (bag_of cmp xs) (bag_of cmp ys) (bag_rises xs) (bag_rises ys) (λ z. how_many_bag_of cmp (eq_by_cmp cmp z) xs ∙ often z ∙ sym (how_many_bag_of cmp (eq_by_cmp cmp z) ys))

  module _ (same : IsAntisymmetric cmp) (test : X → Bool) where
    often_joined : (z x : X) (kept xs : List X) (a b : Bool) → eq_by_cmp cmp z x ≡ a → test x ≡ b → how_often cmp z kept ≡ cond (test z) (how_often cmp z xs) 0
        → how_often cmp z (cond b (x ∷ kept) kept) ≡ cond (test z) (cond a 1 0 + how_often cmp z xs) 0
    often_joined z x kept xs true true is passes rest =
        let alike : test z ≡ true = ap test (same z x ((Equal-is _).0 is)) ∙ passes in
        let now : how_often cmp z kept ≡ how_often cmp z xs = rest ∙ ap (λ b. cond b (how_often cmp z xs) 0) alike in
        (λ i. cond (is i) 1 0 + now i) ∙ ap (λ b. cond b (1 + how_often cmp z xs) 0) (sym alike)
    often_joined z x kept xs true false is passes rest =
        let alike : test z ≡ false = ap test (same z x ((Equal-is _).0 is)) ∙ passes in
        rest ∙ ap (λ b. cond b (how_often cmp z xs) 0) alike ∙ ap (λ b. cond b (1 + how_often cmp z xs) 0) (sym alike)
    often_joined z x kept xs false true is passes rest =
        ap (λ a. cond a 1 0 + how_often cmp z kept) is ∙ none_more (how_often cmp z kept) ∙ rest ∙ ap (λ n. cond (test z) n 0) (sym (none_more (how_often cmp z xs)))
      where
        none_more : (n : ℕ) → 0 + n ≡ n
        none_more n = omega arith
    often_joined z x kept xs false false is passes rest = rest ∙ ap (λ n. cond (test z) n 0) (sym (none_more (how_often cmp z xs)))
      where
        none_more : (n : ℕ) → 0 + n ≡ n
        none_more n = omega arith

    none_there : (b : Bool) → ◌≡◌ {A = ℕ} 0 (cond b 0 0)
    none_there true = refl
    none_there false = refl

    -- an item that passes a test stands among those that pass as often as before, and another not at all
    often_filter : (z : X) (xs : List X) → how_often cmp z (filter test xs) ≡ cond (test z) (how_often cmp z xs) 0
    often_filter z [] = none_there (test z)
    often_filter z (x ∷ xs) = often_joined z x (filter test xs) xs (eq_by_cmp cmp z x) (test x) refl refl (often_filter z xs)

    below_filter : (y : X) (xs : List X) → T (is_below cmp y xs) → T (is_below cmp y (filter test xs))
    below_filter y [] h = tt
    below_filter y (x ∷ xs) h =
        let rest = below_filter y xs (second _ _ h) in
        elim (test x) as (λ b. T (is_below cmp y (cond b (x ∷ filter test xs) (filter test xs)))) [ true ↦ both _ _ (first _ _ h) rest | false ↦ rest ]

    rises_filter : (xs : List X) → T (rises cmp xs) → T (rises cmp (filter test xs))
    rises_filter [] h = tt
    rises_filter (x ∷ xs) h =
        let rest = rises_filter xs (second _ _ h) in
        elim (test x) as (λ b. T (rises cmp (cond b (x ∷ filter test xs) (filter test xs)))) [ true ↦ both _ _ (below_filter x xs (first _ _ h)) rest | false ↦ rest ]

    -- the bag of the items that pass a test has those that pass of the bag
    pub bag_filter : (xs : List X) → bag_of cmp (filter test xs) ≡ filter test (bag_of cmp xs)
    bag_filter xs =
        same_rising same (bag_of cmp (filter test xs)) (filter test (bag_of cmp xs)) (bag_rises (filter test xs)) (rises_filter (bag_of cmp xs) (bag_rises xs))
        (λ z. how_many_bag_of cmp (eq_by_cmp cmp z) (filter test xs) ∙ often_filter z xs
        ∙ ap (λ n. cond (test z) n 0) (sym (how_many_bag_of cmp (eq_by_cmp cmp z) xs)) ∙ sym (often_filter z (bag_of cmp xs)))

  -- one less of one more is what was there
  pub one_less_one_more : (x : X) (ys : List X) → one_less cmp x (one_more cmp x ys) ≡ ys
  one_less_one_more x [] = ap (λ o. cond (is_eq o) [] (x ∷ [])) (tied_itself order x)
  one_less_one_more x (y ∷ ys) =
      elim (cmp x y) as (λ o. cmp x y ≡ o → one_less cmp x (cond (is_gt o) (y ∷ one_more cmp x ys) (x ∷ y ∷ ys)) ≡ y ∷ ys) [
        | Less ↦ λ _. ap (λ o. cond (is_eq o) (y ∷ ys) (x ∷ one_less cmp x (y ∷ ys))) (tied_itself order x)
        | Equal ↦ λ _. ap (λ o. cond (is_eq o) (y ∷ ys) (x ∷ one_less cmp x (y ∷ ys))) (tied_itself order x)
        | Greater ↦ λ is. ap (λ o. cond (is_eq o) (one_more cmp x ys) (y ∷ one_less cmp x (one_more cmp x ys))) is ∙ ap (λ zs. y ∷ zs) (one_less_one_more x ys)
      ] refl

  -- one less of what is not there is all
  pub one_less_none : (x : X) (ys : List X) → how_often cmp x ys ≡ 0 → one_less cmp x ys ≡ ys
  one_less_none x [] none = refl
  one_less_none x (y ∷ ys) none =
      elim (eq_by_cmp cmp x y) as (λ b. cond b 1 0 + how_often cmp x ys ≡ 0 → cond b ys (y ∷ one_less cmp x ys) ≡ y ∷ ys) [
        | true ↦ λ none. absurd (omega arith)
        | false ↦ λ none. ap (λ zs. y ∷ zs) (one_less_none x ys (omega arith))
      ] none

-- a bag with one more of an item is longer by one
pub length_one_more : {X : Type 0} (cmp : X → X → Ordering) (x : X) (ys : List X) → length (one_more cmp x ys) ≡ length ys + 1
length_one_more cmp x [] = refl
length_one_more cmp x (y ∷ ys) = let rest = length_one_more cmp x ys in elim (is_gt (cmp x y)) as (λ b. length (cond b (y ∷ one_more cmp x ys) (x ∷ y ∷ ys)) ≡ suc (length ys) + 1) [ true ↦ omega arith | false ↦ omega arith ]

-- one less of an item that is there is there once less
pub how_often_one_less : {X : Type 0} {cmp : X → X → Ordering} → IsAntisymmetric cmp → (k : X) (ys : List X) → 0 < how_often cmp k ys → (z : X) → how_often cmp z ys ≡ cond (eq_by_cmp cmp z k) 1 0 + how_often cmp z (one_less cmp k ys)
how_often_one_less same k [] there z = absurd (omega arith)
how_often_one_less {cmp = cmp} same k (y ∷ ys) there z =
    elim (eq_by_cmp cmp k y) as (λ b. eq_by_cmp cmp k y ≡ b → 0 < cond b 1 0 + how_often cmp k ys → how_often cmp z (y ∷ ys) ≡ cond (eq_by_cmp cmp z k) 1 0 + how_often cmp z (cond b ys (y ∷ one_less cmp k ys))) [
      | true ↦ λ is _. ap (λ x. cond (eq_by_cmp cmp z x) 1 0 + how_often cmp z ys) (sym (same k y ((Equal-is _).0 is)))
      | false ↦ λ is there. let rest = how_often_one_less same k ys (omega arith) z in omega arith
    ] refl there

-- a bag with one less of an item that is there is shorter by one
pub length_one_less : {X : Type 0} (cmp : X → X → Ordering) (k : X) (ys : List X) → 0 < how_often cmp k ys → length ys ≡ length (one_less cmp k ys) + 1
length_one_less cmp k [] there = absurd (omega arith)
length_one_less cmp k (y ∷ ys) there =
    elim (eq_by_cmp cmp k y) as (λ b. 0 < cond b 1 0 + how_often cmp k ys → suc (length ys) ≡ length (cond b ys (y ∷ one_less cmp k ys)) + 1) [ true ↦ λ _. omega arith | false ↦ λ there. let rest = length_one_less cmp k ys (omega arith) in omega arith ] there

-- whether an item of a bag passes a test is whether one of the list does
pub any_one_more : {X : Type 0} (cmp : X → X → Ordering) (test : X → Bool) (x : X) (ys : List X) → list_any test (one_more cmp x ys) ≡ (test x || list_any test ys)
any_one_more cmp test x [] = refl
any_one_more cmp test x (y ∷ ys) =
    elim (is_gt (cmp x y)) as (λ b. list_any test (cond b (y ∷ one_more cmp x ys) (x ∷ y ∷ ys)) ≡ (test x || (test y || list_any test ys))) [
      | true ↦ ap (λ b. test y || b) (any_one_more cmp test x ys) ∙ turned (test y) (test x) (list_any test ys)
      | false ↦ refl
    ]
  where
    turned : (a b c : Bool) → (a || (b || c)) ≡ (b || (a || c))
    turned true true c = refl
    turned true false c = refl
    turned false b c = refl

pub any_bag_of : {X : Type 0} (cmp : X → X → Ordering) (test : X → Bool) (xs : List X) → list_any test (bag_of cmp xs) ≡ list_any test xs
any_bag_of cmp test [] = refl
any_bag_of cmp test (x ∷ xs) = any_one_more cmp test x (bag_of cmp xs) ∙ ap (λ b. test x || b) (any_bag_of cmp test xs)

-- where one passes a test, fewer are left without those that do
pub fewer_left : {X : Type 0} (test : X → Bool) (xs : List X) → list_any test xs ≡ true → length (filter (λ x. not (test x)) xs) < length xs
fewer_left test [] there = absurd (true≢false (sym there))
fewer_left test (x ∷ xs) there =
    elim (test x) as (λ b. (b || list_any test xs) ≡ true → length (cond (not b) (x ∷ filter (λ x. not (test x)) xs) (filter (λ x. not (test x)) xs)) < suc (length xs)) [
      | true ↦ λ _. let few = no_more_left test xs in omega arith
      | false ↦ λ there. let few = fewer_left test xs there in omega arith
    ] there
  where
    no_more_left : {X : Type 0} (test : X → Bool) (xs : List X) → length (filter (λ x. not (test x)) xs) ≤ length xs
    no_more_left test [] = omega arith
    no_more_left test (x ∷ xs) =
        let few = no_more_left test xs in
        elim (test x) as (λ b. length (cond (not b) (x ∷ filter (λ x. not (test x)) xs) (filter (λ x. not (test x)) xs)) ≤ suc (length xs)) [ true ↦ omega arith | false ↦ omega arith ]
