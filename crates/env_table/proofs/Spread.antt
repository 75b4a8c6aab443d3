-- How often a holder is among the holders that a map stands for.
use Rattle.std.proofs.Common.{◌≡◌, ℕ, ◌+◌, Bool, true, false, cond, List, [], ◌∷◌, replicate, suc, zero, None, Some, refl, sym, ap, ◌∙◌, subst, arith}
use Rattle.std.specs.Option.{unwrap_or}
use Rattle.std.specs.Ordering.{eq_by_cmp}
use Rattle.std.specs.List.{IsDistinct, AllByRecursion}
use Rattle.std.specs.Map.{lookup, keys_of}
use Rattle.std.specs.Cmp.{eq_by_cmp_equiv, Equal-is}
use Rattle.table_model.specs.Bags.{how_often, bag_of, one_more}
use Rattle.table_model.specs.Holdings.{holder_cmp}
use Rattle.table_model.specs.declared.holder.Holder.{Holder}
use Rattle.table_model.proofs.BagLaws.{how_many_append, same_bag}
use Rattle.table_model.proofs.HoldLaws.{holder_order, same_holder}
use Rattle.env_table.specs.Holders.{spread}

often_replicate : (h k : Holder) (n : ℕ) → how_often holder_cmp h (replicate n k) ≡ cond (eq_by_cmp holder_cmp h k) n 0
often_replicate h k zero = elim (eq_by_cmp holder_cmp h k) as (λ b. ◌≡◌ {A = ℕ} 0 (cond b 0 0)) [ true ↦ refl | false ↦ refl ]
often_replicate h k (suc n) =
    let rest = often_replicate h k n in
    elim (eq_by_cmp holder_cmp h k) as (λ b. how_often holder_cmp h (replicate n k) ≡ cond b n 0
    → cond b 1 0 + how_often holder_cmp h (replicate n k) ≡ cond b (suc n) 0) [
      | true ↦ λ e. omega arith
      | false ↦ λ e. omega arith
    ] rest

module _ (eq : Holder → Holder → Bool) (ties : (a b : Holder) → eq a b ≡ eq_by_cmp holder_cmp a b) where
  absent : (h k : Holder) (es : List (Holder × ℕ)) → eq h k ≡ true → AllByRecursion (λ y. eq k y ≡ false) (keys_of es) → lookup (eq h) es ≡ None
  absent h k [] is apart = refl
  absent h k (e ∷ es) is apart =
      let other : eq h e.0 ≡ false =
      ties h e.0 ∙ (eq_by_cmp_equiv holder_order).congr h k e.0 (sym (ties h k) ∙ is) ∙ sym (ties k e.0) ∙ apart.0 in
      ap (λ b. cond b (Some e.1) (lookup (eq h) es)) other ∙ absent h k es is apart.1

  -- a holder is there as often as the map has it
  pub often_spread : (h : Holder) (es : List (Holder × ℕ)) → IsDistinct eq (keys_of es) → how_often holder_cmp h (spread es) ≡ unwrap_or (lookup (eq h) es) 0
  unfolding IsDistinct
  often_spread h [] d = refl
  often_spread h (e ∷ es) d =
      how_many_append (eq_by_cmp holder_cmp h) (replicate e.1 e.0) (spread es)
      ∙ ap (λ n. n + how_often holder_cmp h (spread es)) (often_replicate h e.0 e.1 ∙ ap (λ b. cond b e.1 0) (sym (ties h e.0)))
      ∙ elim (eq h e.0) as (λ b. eq h e.0 ≡ b → cond b e.1 0 + how_often holder_cmp h (spread es) ≡ unwrap_or (cond b (Some e.1) (lookup (eq h) es)) 0) [
        | true ↦ λ is.
            let none : how_often holder_cmp h (spread es) ≡ 0 = often_spread h es d.1 ∙ ap (λ o. unwrap_or o 0) (absent h e.0 es is d.0) in omega arith
        | false ↦ λ _. let rest = often_spread h es d.1 in omega arith
      ] refl

  module _ (k : Holder) (old new : List (Holder × ℕ)) (unique : IsDistinct eq (keys_of old)) (unique_after : IsDistinct eq (keys_of new))
      (others : (q : Holder) → eq k q ≡ false → unwrap_or (lookup (eq q) new) 0 ≡ unwrap_or (lookup (eq q) old) 0) where
    often_after : unwrap_or (lookup (eq k) new) 0 ≡ unwrap_or (lookup (eq k) old) 0 + 1 → (q : Holder) → how_often holder_cmp q (spread new) ≡ how_often holder_cmp q (k ∷ spread old)
    often_after more q =
        often_spread q new unique_after
        ∙ elim (eq k q) as (λ b. eq k q ≡ b → unwrap_or (lookup (eq q) new) 0 ≡ cond b 1 0 + unwrap_or (lookup (eq q) old) 0) [
          | true ↦ λ is.
              subst (λ q. unwrap_or (lookup (eq q) new) 0 ≡ 1 + unwrap_or (lookup (eq q) old) 0) (same_holder k q ((Equal-is _).0 (sym (ties k q) ∙ is))) (omega arith)
          | false ↦ λ is. let same = others q is in omega arith
        ] refl
        ∙ (λ i. cond ((ties k q ∙ (eq_by_cmp_equiv holder_order).symm k q) i) 1 0 + sym (often_spread q old unique) i)

    -- a holder that is counted once more stands once more in the bag
    pub counted_more : unwrap_or (lookup (eq k) new) 0 ≡ unwrap_or (lookup (eq k) old) 0 + 1
        → bag_of holder_cmp (spread new) ≡ one_more holder_cmp k (bag_of holder_cmp (spread old))
    counted_more more = same_bag holder_order same_holder (spread new) (k ∷ spread old) (often_after more)
