-- How many occurrences a pair has after one came or went, and which pairs need a proxy then.
use Rattle.std.proofs.Common.{◌≡◌, ℕ, ◌+◌, ◌-◌, ◌<◌, Bool, true, false, not, ◌&&◌, cond, nat_eq, List, [], ◌∷◌, length, Option, None, Some, refl, sym, ap, ◌∙◌, subst, arith, is_some}
use Rattle.std.proofs.lemmas.Bool.Decides.{nat_tests}
use Rattle.std.specs.Cmp.{Equal-is}
use Rattle.std.specs.FinMap.{IsAntisymmetric, find, put}
use Rattle.std.specs.FinMap.Entries.{find-put, is_sorted-put, is_sorted-where_key, length-put, length_without}
use Rattle.std.specs.Ordering.{eq_by_cmp}
use Rattle.std.specs.declared.cmp.Ordering.{Ordering}
use Rattle.table_model.specs.Bags.{how_many, how_often, one_less}
use Rattle.table_model.specs.Holdings.{Hold, hold, hold_cmp, Holdings, holders, holds, held, let_go}
use Rattle.table_model.specs.Pair.{Pair, pair_cmp, is_pair}
use Rattle.table_model.specs.Proxies.{Proxies, proxy, arrived, arrived_at, freed}
use Rattle.table_model.specs.Rows.{without}
use Rattle.table_model.specs.declared.holder.Holder.{Holder}
use Rattle.table_model.proofs.BagLaws.{how_many_one_more, one_less_none}
use Rattle.table_model.proofs.HoldLaws.{same_hold, hold_order}
use Rattle.table_model.proofs.PairLaws.{same_pair, pair_order}
use Rattle.table_model.proofs.RowLaws.{found_without}
use Rattle.bridge_tables.specs.Covered.{AreCovered, gave, needs_proxy}

-- ---- occurrences

how_many_one_less : {X : Type 0} (cmp : X → X → Ordering) → IsAntisymmetric cmp → (test : X → Bool) (k : X) (ys : List X) → 0 < how_often cmp k ys
    → how_many test ys ≡ cond (test k) 1 0 + how_many test (one_less cmp k ys)
how_many_one_less cmp same test k [] there = absurd (omega arith)
how_many_one_less cmp same test k (y ∷ ys) there =
    elim (eq_by_cmp cmp k y) as (λ b. eq_by_cmp cmp k y ≡ b → 0 < cond b 1 0 + how_often cmp k ys → how_many test (y ∷ ys) ≡ cond (test k) 1 0 + how_many test (cond b ys (y ∷ one_less cmp k ys))) [
      | true ↦ λ is _. ap (λ x. cond (test x) 1 0 + how_many test ys) (sym (same k y ((Equal-is _).0 is)))
      | false ↦ λ is there. let rest = how_many_one_less cmp same test k ys (omega arith) in omega arith
    ] refl there

holds_some : (h : Hold) (hs : Holdings) → holds h hs ≡ true → 0 < how_often hold_cmp h hs
holds_some h hs is = grind (arith, nat_tests)

pub held_less : (p : Pair) (who : Holder) (q : Pair) (hs : Holdings) → holds (hold who q) hs ≡ true → holders p hs ≡ cond (is_pair p q) 1 0 + holders p (let_go (hold who q) hs)
held_less p who q hs is = how_many_one_less hold_cmp same_hold (λ h. is_pair p h.pair) (hold who q) hs (holds_some (hold who q) hs is)

pub held_more : (p : Pair) (who : Holder) (q : Pair) (hs : Holdings) → holders p (held (hold who q) hs) ≡ cond (is_pair p q) 1 0 + holders p hs
held_more p who q hs = how_many_one_more hold_cmp (λ h. is_pair p h.pair) (hold who q) hs

-- what is not held is let go without a change
pub none_less : (h : Hold) (hs : Holdings) → holds h hs ≡ false → let_go h hs ≡ hs
none_less h hs none = one_less_none hold_order h hs (let zero : how_often hold_cmp h hs ≡ 0 = grind (arith, nat_tests) in zero)

-- ---- which pairs need a proxy

plus_zero : (n : ℕ) → 0 + n ≡ n
plus_zero n = omega arith

some_more : (n : ℕ) → not (nat_eq (1 + n) 0) ≡ true
some_more n = grind (arith, nat_tests)

-- a number is 0 or not, whatever is added to one that is not
same_more : (b : Bool) (n m : ℕ) → m ≡ cond b 1 0 + n → (b ≡ true → nat_eq n 0 ≡ false) → not (nat_eq m 0) ≡ not (nat_eq n 0)
same_more true n m is some = let there = some refl in grind (arith, nat_tests)
same_more false n m is some = ap (λ k. not (nat_eq k 0)) (is ∙ plus_zero n)

module _ (prefix : List ℕ) (who : Holder) (q : Pair) (hs : Holdings) where
  -- another number of occurrences of a pair changes nothing where the pair is of this end, or where there are some before and after
  by_oid : (p : Pair) (b : Bool) → is_pair p q ≡ b → (n m : ℕ) → gave prefix q.oid ≡ true → (b ≡ false → n ≡ m)
      → (not (gave prefix p.oid) && not (nat_eq n 0)) ≡ (not (gave prefix p.oid) && not (nat_eq m 0))
  by_oid p true is n m own same =
      let mine : gave prefix p.oid ≡ true = ap (λ r. gave prefix r.oid) (same_pair p q ((Equal-is _).0 is)) ∙ own in
      ap (λ b. not b && not (nat_eq n 0)) mine ∙ sym (ap (λ b. not b && not (nat_eq m 0)) mine)
  by_oid p false is n m own same = ap (λ k. not (gave prefix p.oid) && not (nat_eq k 0)) (same refl)

  of_pair : (p : Pair) → is_pair p q ≡ true → holders p hs ≡ holders q hs
  of_pair p is = ap (λ r. holders r hs) (same_pair p q ((Equal-is _).0 is))

  -- ---- one more

  more_apart : (p : Pair) → is_pair p q ≡ false → holders p (held (hold who q) hs) ≡ holders p hs
  more_apart p is = held_more p who q hs ∙ ap (λ b. cond b 1 0 + holders p hs) is ∙ plus_zero (holders p hs)

  pub own_more : gave prefix q.oid ≡ true → (p : Pair) → needs_proxy prefix (held (hold who q) hs) p ≡ needs_proxy prefix hs p
  own_more own p = by_oid p (is_pair p q) refl (holders p (held (hold who q) hs)) (holders p hs) own (λ is. more_apart p is)

  pub again_more : nat_eq (holders q hs) 0 ≡ false → (p : Pair) → needs_proxy prefix (held (hold who q) hs) p ≡ needs_proxy prefix hs p
  again_more some p =
      ap (λ b. not (gave prefix p.oid) && b)
      (same_more (is_pair p q) (holders p hs) (holders p (held (hold who q) hs)) (held_more p who q hs) (λ is. ap (λ n. nat_eq n 0) (of_pair p is) ∙ some))

  pub first_more : gave prefix q.oid ≡ false → (p : Pair) (b : Bool) → is_pair p q ≡ b → needs_proxy prefix (held (hold who q) hs) p ≡ cond b true (needs_proxy prefix hs p)
  first_more theirs p true is =
      let not_mine : gave prefix p.oid ≡ false = ap (λ r. gave prefix r.oid) (same_pair p q ((Equal-is _).0 is)) ∙ theirs in
      let one : holders p (held (hold who q) hs) ≡ 1 + holders p hs = held_more p who q hs ∙ ap (λ b. cond b 1 0 + holders p hs) is in
      ap (λ b. not b && not (nat_eq (holders p (held (hold who q) hs)) 0)) not_mine ∙ ap (λ n. not (nat_eq n 0)) one ∙ some_more (holders p hs)
  first_more theirs p false is = ap (λ k. not (gave prefix p.oid) && not (nat_eq k 0)) (more_apart p is)

  -- ---- one less

  module _ (there : holds (hold who q) hs ≡ true) where
    less_apart : (p : Pair) → is_pair p q ≡ false → holders p (let_go (hold who q) hs) ≡ holders p hs
    less_apart p is = sym (held_less p who q hs there ∙ ap (λ b. cond b 1 0 + holders p (let_go (hold who q) hs)) is ∙ plus_zero (holders p (let_go (hold who q) hs)))

    one_fewer : (p : Pair) → is_pair p q ≡ true → holders p hs ≡ 1 + holders p (let_go (hold who q) hs)
    one_fewer p is = held_less p who q hs there ∙ ap (λ b. cond b 1 0 + holders p (let_go (hold who q) hs)) is

    pub own_less : gave prefix q.oid ≡ true → (p : Pair) → needs_proxy prefix (let_go (hold who q) hs) p ≡ needs_proxy prefix hs p
    own_less own p = by_oid p (is_pair p q) refl (holders p (let_go (hold who q) hs)) (holders p hs) own (λ is. less_apart p is)

    still_some : (p : Pair) → nat_eq (holders q hs) 1 ≡ false → is_pair p q ≡ true → nat_eq (holders p (let_go (hold who q) hs)) 0 ≡ false
    still_some p many is = let more = one_fewer p is in let same = of_pair p is in grind (arith, nat_tests)

    pub many_less : nat_eq (holders q hs) 1 ≡ false → (p : Pair) → needs_proxy prefix (let_go (hold who q) hs) p ≡ needs_proxy prefix hs p
    many_less many p =
        ap (λ b. not (gave prefix p.oid) && b)
        (sym (same_more (is_pair p q) (holders p (let_go (hold who q) hs)) (holders p hs) (held_less p who q hs there) (λ is. still_some p many is)))

    last_less : nat_eq (holders q hs) 1 ≡ true → (p : Pair) (b : Bool) → is_pair p q ≡ b → needs_proxy prefix (let_go (hold who q) hs) p ≡ cond b false (needs_proxy prefix hs p)
    last_less one p true is =
        let more = one_fewer p is in let same = of_pair p is in
        let none : nat_eq (holders p (let_go (hold who q) hs)) 0 ≡ true = grind (arith, nat_tests) in
        ap (λ b. not (gave prefix p.oid) && not b) none ∙ and_false (not (gave prefix p.oid))
      where
        and_false : (b : Bool) → (b && false) ≡ false
        and_false true = refl
        and_false false = refl
    last_less one p false is = ap (λ k. not (gave prefix p.oid) && not (nat_eq k 0)) (less_apart p is)

-- ---- proxies after that

-- where the same pairs need a proxy
pub covered_same : (prefix : List ℕ) (hs now : Holdings) (proxies : Proxies) (kept : ℕ) → ((p : Pair) → needs_proxy prefix now p ≡ needs_proxy prefix hs p)
    → AreCovered prefix hs proxies kept → AreCovered prefix now proxies kept
covered_same prefix hs now proxies kept same covered = record { each = λ p. covered.each p ∙ sym (same p); count = covered.count; rises = covered.rises }

some_cond : (b : Bool) (n : ℕ) (o : Option ℕ) → is_some (cond b (Some n) o) ≡ cond b true (is_some o)
some_cond true n o = refl
some_cond false n o = refl

none_cond : (b : Bool) (o : Option ℕ) → is_some (cond b None o) ≡ cond b false (is_some o)
none_cond true o = refl
none_cond false o = refl

is_none_of : (o : Option ℕ) → is_some o ≡ false → o ≡ None
is_none_of None is = refl
is_none_of (Some n) is = absurd (cc)

module _ (prefix : List ℕ) (who : Holder) (q : Pair) (hs : Holdings) (proxies : Proxies) (kept : ℕ) (covered : AreCovered prefix hs proxies kept) where
  -- a pair of the peer's that was not held has none
  pub no_proxy : nat_eq (holders q hs) 0 ≡ true → proxy q proxies ≡ None
  no_proxy none = is_none_of (proxy q proxies) (covered.each q ∙ ap (λ b. not (gave prefix q.oid) && not b) none ∙ and_false (not (gave prefix q.oid)))
    where
      and_false : (b : Bool) → (b && false) ≡ false
      and_false true = refl
      and_false false = refl

  at_put : (after : Proxies) → after ≡ record { made = proxies.made + 1; rows = put pair_cmp q proxies.made proxies.rows } → gave prefix q.oid ≡ false → proxy q proxies ≡ None
      → AreCovered prefix (held (hold who q) hs) after (kept + 1)
  at_put after is theirs none =
      subst (λ x. AreCovered prefix (held (hold who q) hs) x (kept + 1)) (sym is)
      (record {
        each = λ p. ap is_some (find-put pair_cmp pair_order p q proxies.made proxies.rows) ∙ some_cond (is_pair p q) proxies.made (find pair_cmp p proxies.rows)
            ∙ ap (λ b. cond (is_pair p q) true b) (covered.each p) ∙ sym (first_more prefix who q hs theirs p (is_pair p q) refl);
        count = ap (λ n. n + 1) covered.count ∙ sym (length-put pair_cmp pair_order q proxies.made proxies.rows covered.rises ∙ ap (λ o. cond (is_some o) (length proxies.rows) (length proxies.rows + 1)) none);
        rises = is_sorted-put pair_cmp pair_order q proxies.made proxies.rows covered.rises;
      })

  -- the first occurrence of a pair of the peer's gives it a proxy
  pub covered_arrived : gave prefix q.oid ≡ false → nat_eq (holders q hs) 0 ≡ true → AreCovered prefix (held (hold who q) hs) (arrived q proxies) (kept + 1)
  covered_arrived theirs first =
      let none = no_proxy first in
      at_put (arrived q proxies) (ap (λ o. arrived_at q o proxies) none) theirs none

  -- a pair of the peer's that is held has one
  pub has_proxy : gave prefix q.oid ≡ false → nat_eq (holders q hs) 1 ≡ true → is_some (proxy q proxies) ≡ true
  has_proxy theirs one =
      let some : nat_eq (holders q hs) 0 ≡ false = grind (arith, nat_tests) in
      covered.each q ∙ ap (λ b. not b && not (nat_eq (holders q hs) 0)) theirs ∙ ap not some

  -- the last one takes it
  pub covered_freed : holds (hold who q) hs ≡ true → nat_eq (holders q hs) 1 ≡ true → is_some (proxy q proxies) ≡ true
      → (0 < kept) × AreCovered prefix (let_go (hold who q) hs) (freed q proxies) (kept - 1)
  covered_freed there one some =
      let long : cond (is_some (find pair_cmp q proxies.rows)) 1 0 + length (without pair_cmp q proxies.rows) ≡ length proxies.rows
      = length_without pair_cmp pair_order q proxies.rows covered.rises in
      let longer : 1 + length (without pair_cmp q proxies.rows) ≡ length proxies.rows = ap (λ b. cond b 1 0 + length (without pair_cmp q proxies.rows)) (sym some) ∙ long in
      let count = covered.count in (
        omega arith,
        record {
          each = λ p. ap is_some (found_without pair_order p q proxies.rows) ∙ none_cond (is_pair p q) (find pair_cmp p proxies.rows)
              ∙ ap (λ b. cond (is_pair p q) false b) (covered.each p) ∙ sym (last_less prefix who q hs there one p (is_pair p q) refl);
          count = omega arith;
          rises = is_sorted-where_key pair_cmp _ proxies.rows covered.rises;
        },
      )
