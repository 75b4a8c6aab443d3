-- The rows of pairs with their holders, after one of them is counted more or less.
use Rattle.std.proofs.Common.{◌≡◌, ℕ, ◌+◌, ◌<◌, true, false, cond, List, [], ◌∷◌, length, Option, None, Some, IsSome}
use Rattle.std.proofs.Common.{Result, Ok, Err, OnOk, OnErr, refl, sym, ap, ◌∙◌, subst, arith, nat_eq, nat_lt, if◌then◌else◌}
use borrow.Author.Tests.{lt-ltb}
use Rattle.std.specs.Prelude.{T}
use Rattle.std.proofs.lemmas.Bool.Decides.{nat_tests}
use Rattle.std.specs.Ordering.{eq_by_cmp, is_eq}
use Rattle.std.specs.Cmp.{tied_itself}
use Rattle.std.specs.FinMap.{find, put, is_sorted}
use Rattle.std.specs.FinMap.Entries.{find-put, is_sorted-put, is_sorted-where_key}
use Rattle.table_model.specs.Bags.{how_often, bag_of, one_more, one_less}
use Rattle.table_model.specs.Holdings.{hold, holder_cmp, hold_cmp}
use Rattle.table_model.specs.Pair.{Pair, pair_cmp, is_pair}
use Rattle.table_model.specs.Rows.{without}
use Rattle.table_model.specs.declared.holder.Holder.{Holder}
use Rattle.table_model.proofs.BagLaws.{how_many_one_more, how_often_one_less, length_one_less}
use Rattle.table_model.proofs.HoldLaws.{same_holder}
use Rattle.table_model.proofs.PairLaws.{pair_order, same_pair}
use Rattle.table_model.proofs.RowLaws.{found_without, put_twice, put_same}
use Rattle.env_table.specs.Holders.{holders_at, holders_or_none, all_occurrences, with_holders}
use Rattle.env_table.proofs.Occurrences.{occurs_more, occurs_less}

module _ {X : Type 0} (p : Pair) (rows : List (Pair × X)) where
  -- a value that was put is found
  found_put : (v : X) → find pair_cmp p (put pair_cmp p v rows) ≡ Some v
  found_put v = find-put pair_cmp pair_order p p v rows ∙ ap (λ o. cond (is_eq o) (Some v) (find pair_cmp p rows)) (tied_itself pair_order p)

  pub some_after : (v : X) (after : List (Pair × X)) → after ≡ put pair_cmp p v rows → IsSome (find pair_cmp p after)
  some_after v after is = subst (λ rows. IsSome (find pair_cmp p rows)) (sym is) (subst IsSome (sym (found_put v)) refl)

module _ (k : Holder) (p : Pair) (rows between after : List (Pair × List Holder)) (hs changed : List Holder)
    (was : Some hs ≡ find pair_cmp p rows) (out : between ≡ put pair_cmp p [] rows) where
  put_back : after ≡ put pair_cmp p changed between → after ≡ put pair_cmp p changed rows
  put_back back = back ∙ ap (put pair_cmp p changed) out ∙ put_twice pair_order p [] changed rows

  -- holders that were taken out and put back with one more
  pub held_again : {E : Type 0} (r : Result (Unit {0}) E) → after ≡ put pair_cmp p changed between
      → OnOk r (changed ≡ one_more holder_cmp k hs) → OnOk r (after ≡ put pair_cmp p (one_more holder_cmp k (holders_at p rows)) rows)
  held_again (Ok x) back is = put_back back ∙ ap (λ hs. put pair_cmp p hs rows) (is ∙ ap (λ o. one_more holder_cmp k (holders_or_none o)) was)
  held_again (Err e) back is = is

  -- holders that were taken out and put back as they were
  pub kept_again : {E : Type 0} (r : Result (Unit {0}) E) → T (is_sorted pair_cmp rows)
      → after ≡ put pair_cmp p changed between → OnErr r (changed ≡ hs) → OnErr r (after ≡ rows)
  kept_again (Ok x) rises back is = is
  kept_again (Err e) rises back is = put_back back ∙ put_same pair_order p same_pair changed rows rises (sym was ∙ ap Some (sym is))

  -- holders of which some are left
  pub gone_with_others : changed ≡ one_less holder_cmp k hs → ¬ (length changed ≡ 0) → after ≡ put pair_cmp p changed between
      → after ≡ with_holders p (one_less holder_cmp k (holders_at p rows)) rows
  gone_with_others is some back =
      put_back back ∙ some_left changed some
      ∙ ap (λ hs. with_holders p hs rows) (is ∙ ap (λ o. one_less holder_cmp k (holders_or_none o)) was)
    where
      some_left : (hs : List Holder) → ¬ (length hs ≡ 0) → put pair_cmp p hs rows ≡ with_holders p hs rows
      some_left [] e = absurd (e refl)
      some_left (h ∷ hs) e = refl

-- how many holders are left, and how many were there
pub left_of : (k : Holder) (hs changed : List Holder) (found : Option (List Holder)) → Some hs ≡ found
    → changed ≡ one_less holder_cmp k hs → 0 < how_often holder_cmp k (holders_or_none found) → length (holders_or_none found) ≡ length changed + 1
left_of k hs changed found was is there =
    subst (λ o. 0 < how_often holder_cmp k (holders_or_none o) → length (holders_or_none o) ≡ length changed + 1) was
    (λ there. length_one_less holder_cmp k hs there ∙ ap (λ hs. length hs + 1) (sym is)) there

-- a holder that is there is among those that are found
pub there_in : (k : Holder) (hs : List Holder) (found : Option (List Holder)) → Some hs ≡ found
    → 0 < how_often holder_cmp k (holders_or_none found) → 0 < how_often holder_cmp k hs
there_in k hs found was there = subst (λ o. 0 < how_often holder_cmp k (holders_or_none o)) (sym was) there

pub told_one : (n : ℕ) → n ≡ 1 → true ≡ nat_eq n 1
told_one n one = subst (λ n. true ≡ nat_eq n 1) (sym one) refl

pub told_several : (n : ℕ) → ¬ (n ≡ 1) → false ≡ nat_eq n 1
told_several n several = grind (arith, nat_tests)

-- a number that was found to be some
pub held_some : (n m : ℕ) → n ≡ m → ¬ (n ≡ 0) → 0 < m
held_some n m is some = omega (arith, is, some)

pub none_told : (n : ℕ) → n ≡ 0 → true ≡ nat_eq n 0
none_told n none = subst (λ n. true ≡ nat_eq n 0) (sym none) refl

pub some_told : (n m : ℕ) → n ≡ m → ¬ (n ≡ 0) → false ≡ nat_eq m 0
some_told n m is some = grind (arith, nat_tests)

no_holders : (hs : List Holder) → length hs ≡ 0 → hs ≡ []
no_holders [] none = refl
no_holders (h ∷ hs) none = absurd (omega (arith, none))

pub found_some : (found : Option (List Holder)) → 0 < length (holders_or_none found) → IsSome found
found_some None some = absurd (omega (arith, some))
found_some (Some hs) some = refl

pub found_there : (k : Holder) (found : Option (List Holder)) → 0 < how_often holder_cmp k (holders_or_none found) → IsSome found
found_there k None there = absurd (omega (arith, there))
found_there k (Some hs) there = refl

module _ (k : Holder) (p : Pair) (rows after : List (Pair × List Holder)) where
  -- a first holder
  pub held_first : {E : Type 0} (changed fresh : List Holder) (r : Result (Unit {0}) E) → length (holders_at p rows) ≡ 0 → changed ≡ one_more holder_cmp k fresh → fresh ≡ []
      → OnOk r (after ≡ put pair_cmp p changed rows) → OnOk r (after ≡ put pair_cmp p (one_more holder_cmp k (holders_at p rows)) rows)
  held_first changed fresh (Ok x) none is new held = held ∙ ap (λ hs. put pair_cmp p hs rows) (is ∙ ap (one_more holder_cmp k) (new ∙ sym (no_holders (holders_at p rows) none)))
  held_first changed fresh (Err e) none is new held = held

  -- the only holder is gone
  pub gone_at_last : 0 < how_often holder_cmp k (holders_at p rows) → length (holders_at p rows) ≡ 1 → after ≡ without pair_cmp p rows
      → after ≡ with_holders p (one_less holder_cmp k (holders_at p rows)) rows
  gone_at_last there one gone =
      let more = length_one_less holder_cmp k (holders_at p rows) there in
      gone ∙ none_left (one_less holder_cmp k (holders_at p rows)) (omega (arith, more, one))
    where
      none_left : (hs : List Holder) → length hs ≡ 0 → without pair_cmp p rows ≡ with_holders p hs rows
      none_left [] e = refl
      none_left (h ∷ hs) e = absurd (omega (arith, e))

module _ (k : Holder) (p : Pair) (old new : List (Pair × List Holder)) (rises : T (is_sorted pair_cmp old)) where
  -- a row with one holder more is one occurrence more
  pub view_more : new ≡ put pair_cmp p (one_more holder_cmp k (holders_at p old)) old
      → bag_of hold_cmp (all_occurrences new) ≡ one_more hold_cmp (hold k p) (bag_of hold_cmp (all_occurrences old))
  view_more is =
      let more = one_more holder_cmp k (holders_at p old) in
      ap (λ rows. bag_of hold_cmp (all_occurrences rows)) is
      ∙ occurs_more k p old (put pair_cmp p more old) rises (is_sorted-put pair_cmp pair_order p more old rises)
      (λ q apart. find-put pair_cmp pair_order q p more old ∙ ap (λ b. cond b (Some more) (find pair_cmp q old)) apart)
      (λ z. ap (λ o. how_often holder_cmp z (holders_or_none o)) (found_put p old more)
      ∙ how_many_one_more holder_cmp (eq_by_cmp holder_cmp z) k (holders_at p old))

  with_rises : (hs : List Holder) → T (is_sorted pair_cmp (with_holders p hs old))
  with_rises [] = is_sorted-where_key pair_cmp _ old rises
  with_rises (h ∷ hs) = is_sorted-put pair_cmp pair_order p (h ∷ hs) old rises

  with_found : (hs : List Holder) → holders_or_none (find pair_cmp p (with_holders p hs old)) ≡ hs
  with_found [] = ap holders_or_none (found_without pair_order p p old ∙ ap (λ o. cond (is_eq o) None (find pair_cmp p old)) (tied_itself pair_order p))
  with_found (h ∷ hs) = ap holders_or_none (found_put p old (h ∷ hs))

  with_others : (hs : List Holder) (q : Pair) → is_pair q p ≡ false → find pair_cmp q old ≡ find pair_cmp q (with_holders p hs old)
  with_others [] q apart = sym (found_without pair_order q p old ∙ ap (λ b. cond b None (find pair_cmp q old)) apart)
  with_others (h ∷ hs) q apart = sym (find-put pair_cmp pair_order q p (h ∷ hs) old ∙ ap (λ b. cond b (Some (h ∷ hs)) (find pair_cmp q old)) apart)

  -- a row with one holder less is one occurrence less
  pub view_less : 0 < how_often holder_cmp k (holders_at p old) → new ≡ with_holders p (one_less holder_cmp k (holders_at p old)) old
      → bag_of hold_cmp (all_occurrences new) ≡ one_less hold_cmp (hold k p) (bag_of hold_cmp (all_occurrences old))
  view_less there is =
      let less = one_less holder_cmp k (holders_at p old) in
      ap (λ rows. bag_of hold_cmp (all_occurrences rows)) is
      ∙ occurs_less k p (with_holders p less old) old (with_rises less) rises (with_others less)
      (λ z. how_often_one_less same_holder k (holders_at p old) there z
      ∙ ap (λ hs. cond (eq_by_cmp holder_cmp z k) 1 0 + how_often holder_cmp z hs) (sym (with_found less)))

-- nothing is answered where nothing is there
pub refused : {A : Type 0} (n : ℕ) (x : A) → n ≡ 0 → None ≡ (if nat_lt 0 n then Some x else None)
refused n x none = subst (λ n. None ≡ (if nat_lt 0 n then Some x else None)) (sym none) refl

-- and the answer is given where something is
pub answered : {A : Type 0} (n : ℕ) (x y : A) → 0 < n → x ≡ y → Some x ≡ (if nat_lt 0 n then Some y else None)
answered n x y some is = subst (λ b. Some x ≡ (if b then Some y else None)) (sym (lt-ltb 0 n some)) (ap Some is)
