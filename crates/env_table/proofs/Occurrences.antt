-- The occurrences that rows of pairs with their holders stand for.
use Rattle.std.proofs.Common.{◌≡◌, ℕ, suc, ◌+◌, Bool, true, false, cond, ◌&&◌, List, [], ◌∷◌, length, None, Some, refl, sym, ap, ◌∙◌, subst, arith}
use Rattle.std.specs.Prelude.{T}
use Rattle.std.specs.Ordering.{eq_by_cmp}
use Rattle.std.specs.Cmp.{Equal-is}
use Rattle.std.specs.FinMap.{find, is_sorted}
use Rattle.std.specs.FinMap.Entries.{below_all}
use Rattle.table_model.specs.Bags.{how_many, how_often, bag_of, one_more, one_less}
use Rattle.table_model.specs.Holdings.{Hold, hold, holders, holder_cmp, hold_cmp}
use Rattle.table_model.specs.Pair.{Pair, pair_cmp, is_pair}
use Rattle.table_model.specs.declared.holder.Holder.{Holder}
use Rattle.table_model.proofs.BagLaws.{how_many_append, how_many_bag_of, same_bag, one_less_one_more}
use Rattle.table_model.proofs.HoldLaws.{hold_order, same_hold, is_hold_by_parts}
use Rattle.table_model.proofs.PairLaws.{pair_order, same_pair}
use Rattle.table_model.proofs.RowLaws.{find_below}
use Rattle.env_table.specs.Holders.{holders_at, holders_or_none, occurrences, all_occurrences}

rows_rest : (a b : Bool) → T (a && b) → T b
rows_rest true b p = p
rows_rest false b p = absurd p

rows_first : (a b : Bool) → T (a && b) → T a
rows_first true b p = tt
rows_first false b p = p

module _ (test : Hold → Bool) (p : Pair) (number : List Holder → ℕ) (none : number [] ≡ 0)
    (each : (q : Pair) (hs : List Holder) → how_many test (occurrences q hs) ≡ cond (is_pair p q) (number hs) 0) where
  -- as many occurrences pass a test as those of the one pair that may
  pub number_in_rows : (rows : List (Pair × List Holder)) → T (is_sorted pair_cmp rows) → how_many test (all_occurrences rows) ≡ number (holders_at p rows)
  number_in_rows [] rises = sym none
  number_in_rows (row ∷ rows) rises =
      let rest = number_in_rows rows (rows_rest _ _ rises) in
      how_many_append test (occurrences row.0 row.1) (all_occurrences rows)
      ∙ ap (λ n. n + how_many test (all_occurrences rows)) (each row.0 row.1)
      ∙ elim (is_pair p row.0) as (λ b. is_pair p row.0 ≡ b
      → cond b (number row.1) 0 + how_many test (all_occurrences rows) ≡ number (holders_or_none (cond b (Some row.1) (find pair_cmp p rows)))) [
        | true ↦ λ is.
            let same : p ≡ row.0 = same_pair p row.0 ((Equal-is _).0 is) in
            let nothing : find pair_cmp p rows ≡ None =
            find_below pair_order p rows (subst (λ q. T (below_all pair_cmp q rows)) (sym same) (rows_first _ _ rises)) in
            let zeros : how_many test (all_occurrences rows) ≡ 0 = rest ∙ ap (λ o. number (holders_or_none o)) nothing ∙ none in
            omega arith
        | false ↦ λ _. omega arith
      ] refl

of_pair : (p q : Pair) (hs : List Holder) → how_many (λ h. is_pair p h.pair) (occurrences q hs) ≡ cond (is_pair p q) (length hs) 0
of_pair p q [] = elim (is_pair p q) as (λ b. ◌≡◌ {A = ℕ} 0 (cond b 0 0)) [ true ↦ refl | false ↦ refl ]
of_pair p q (h ∷ hs) =
    let rest = of_pair p q hs in
    elim (is_pair p q) as (λ b. how_many (λ h. is_pair p h.pair) (occurrences q hs) ≡ cond b (length hs) 0
    → cond b 1 0 + how_many (λ h. is_pair p h.pair) (occurrences q hs) ≡ cond b (suc (length hs)) 0) [
      | true ↦ λ e. omega arith
      | false ↦ λ e. omega arith
    ] rest

each_hold : (a b : Bool) (n m : ℕ) → n ≡ cond b m 0 → cond (a && b) 1 0 + n ≡ cond b (cond a 1 0 + m) 0
each_hold true true n m e = omega arith
each_hold true false n m e = omega arith
each_hold false true n m e = omega arith
each_hold false false n m e = omega arith

of_hold : (z : Hold) (q : Pair) (hs : List Holder) → how_often hold_cmp z (occurrences q hs) ≡ cond (is_pair z.pair q) (how_often holder_cmp z.holder hs) 0
of_hold z q [] = elim (is_pair z.pair q) as (λ b. ◌≡◌ {A = ℕ} 0 (cond b 0 0)) [ true ↦ refl | false ↦ refl ]
of_hold z q (h ∷ hs) =
    ap (λ b. cond b 1 0 + how_often hold_cmp z (occurrences q hs)) (is_hold_by_parts z (hold h q))
    ∙ each_hold (eq_by_cmp holder_cmp z.holder h) (is_pair z.pair q) _ _ (of_hold z q hs)

module _ (rows : List (Pair × List Holder)) (rises : T (is_sorted pair_cmp rows)) where
  often_in_rows : (z : Hold) → how_often hold_cmp z (all_occurrences rows) ≡ how_often holder_cmp z.holder (holders_at z.pair rows)
  often_in_rows z = number_in_rows (eq_by_cmp hold_cmp z) z.pair (how_often holder_cmp z.holder) refl (of_hold z) rows rises

  -- a pair has as many occurrences as its row has
  pub holders_in_rows : (p : Pair) → length (holders_at p rows) ≡ holders p (bag_of hold_cmp (all_occurrences rows))
  holders_in_rows p =
      sym (how_many_bag_of hold_cmp (λ h. is_pair p h.pair) (all_occurrences rows) ∙ number_in_rows (λ h. is_pair p h.pair) p length refl (of_pair p) rows rises)

  -- a holder has as many occurrences of a pair as its row has
  pub times_in_rows : (h : Holder) (p : Pair) → how_often holder_cmp h (holders_at p rows) ≡ how_often hold_cmp (hold h p) (bag_of hold_cmp (all_occurrences rows))
  times_in_rows h p = sym (how_many_bag_of hold_cmp (eq_by_cmp hold_cmp (hold h p)) (all_occurrences rows) ∙ often_in_rows (hold h p))

and_true : (a : Bool) → a ≡ (a && true)
and_true true = refl
and_true false = refl

none_more : (a : Bool) (n : ℕ) → n ≡ cond (a && false) 1 0 + n
none_more true n = omega arith
none_more false n = omega arith

module _ (k : Holder) (p : Pair) (old new : List (Pair × List Holder)) (rises : T (is_sorted pair_cmp old)) (rises_after : T (is_sorted pair_cmp new))
    (others : (q : Pair) → is_pair q p ≡ false → find pair_cmp q new ≡ find pair_cmp q old)
    (more : (z : Holder) → how_often holder_cmp z (holders_at p new) ≡ cond (eq_by_cmp holder_cmp z k) 1 0 + how_often holder_cmp z (holders_at p old)) where
  often_after : (z : Hold) → how_often hold_cmp z (all_occurrences new) ≡ how_often hold_cmp z (hold k p ∷ all_occurrences old)
  often_after z =
      often_in_rows new rises_after z
      ∙ elim (is_pair z.pair p) as (λ b. is_pair z.pair p ≡ b
      → how_often holder_cmp z.holder (holders_at z.pair new)
      ≡ cond (eq_by_cmp holder_cmp z.holder k && b) 1 0 + how_often holder_cmp z.holder (holders_at z.pair old)) [
        | true ↦ λ is.
            subst (λ q. how_often holder_cmp z.holder (holders_at q new)
            ≡ cond (eq_by_cmp holder_cmp z.holder k && true) 1 0 + how_often holder_cmp z.holder (holders_at q old))
            (sym (same_pair z.pair p ((Equal-is _).0 is)))
            (more z.holder ∙ ap (λ b. cond b 1 0 + how_often holder_cmp z.holder (holders_at p old)) (and_true (eq_by_cmp holder_cmp z.holder k)))
        | false ↦ λ is. ap (λ o. how_often holder_cmp z.holder (holders_or_none o)) (others z.pair is) ∙ none_more (eq_by_cmp holder_cmp z.holder k) _
      ] refl
      ∙ (λ i. cond (sym (is_hold_by_parts z (hold k p)) i) 1 0 + sym (often_in_rows old rises z) i)

  -- one holder more in the row of a pair is one occurrence more
  pub occurs_more : bag_of hold_cmp (all_occurrences new) ≡ one_more hold_cmp (hold k p) (bag_of hold_cmp (all_occurrences old))
  occurs_more = same_bag hold_order same_hold (all_occurrences new) (hold k p ∷ all_occurrences old) often_after

  -- and one less is one less
  pub occurs_less : bag_of hold_cmp (all_occurrences old) ≡ one_less hold_cmp (hold k p) (bag_of hold_cmp (all_occurrences new))
  occurs_less = sym (ap (one_less hold_cmp (hold k p)) occurs_more ∙ one_less_one_more hold_order (hold k p) (bag_of hold_cmp (all_occurrences old)))

module _ (rows : List (Pair × List Holder)) (rises : T (is_sorted pair_cmp rows)) (holdings : List Hold)
    (is : bag_of hold_cmp (all_occurrences rows) ≡ holdings) (p : Pair) (n : ℕ) where
  -- the length of a row is how many occurrences the pair has
  pub holders_are : n ≡ length (holders_at p rows) → n ≡ holders p holdings
  holders_are e = e ∙ holders_in_rows rows rises p ∙ ap (holders p) is

  -- how often a holder is in a row is how often it has the pair
  pub times_are : (h : Holder) → n ≡ how_often holder_cmp h (holders_at p rows) → n ≡ how_often hold_cmp (hold h p) holdings
  times_are h e = e ∙ times_in_rows rows rises h p ∙ ap (how_often hold_cmp (hold h p)) is
