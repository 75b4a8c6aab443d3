-- The holders that counted ones stand for, before and after one of them is counted more or less.
use Rattle.std.proofs.Common.{◌≡◌, ℕ, ◌+◌, ◌-◌, ◌<◌, Bool, true, false, cond, List, Option, None, Some, IsSome, length, sym, ap, ◌∙◌, subst, arith, refl}
use Rattle.std.specs.List.{IsDistinct}
use Rattle.std.specs.Map.{lookup, keys_of}
use Rattle.std.specs.Option.{unwrap_or}
use Rattle.std.specs.Ordering.{eq_by_cmp, is_eq}
use Rattle.std.specs.Cmp.{tied_itself}
use Rattle.table_model.specs.Bags.{how_often, bag_of, one_more, one_less}
use Rattle.table_model.specs.Holdings.{holder_cmp}
use Rattle.table_model.specs.declared.holder.Holder.{Holder}
use Rattle.table_model.specs.contracts.holder.HolderPartialEq.TheImpl as derived
use Rattle.table_model.proofs.BagLaws.{how_many_bag_of, one_less_one_more, length_one_more}
use Rattle.table_model.proofs.HoldLaws.{holder_order}
use Rattle.env_table.specs.Holders.{spread}
use Rattle.env_table.specs.Times.{times_of, Recounts}
use Rattle.env_table.proofs.Spread.{often_spread, counted_more}
use Rattle.env_table.proofs.Ties.{holder_ties}

some_at : (o : Option ℕ) → 0 < unwrap_or o 0 → IsSome o
some_at (Some n) h = refl
some_at None h = absurd (omega arith)

chosen : (b : Bool) (n m : ℕ) → b ≡ true → cond b n m ≡ n
chosen b n m is = ap (λ b. cond b n m) is

passed : (b : Bool) (n m : ℕ) → b ≡ false → cond b n m ≡ m
passed b n m is = ap (λ b. cond b n m) is

itself : (k : Holder) → derived.ghosts.eq k k ≡ true
itself k = holder_ties k k ∙ ap is_eq (tied_itself holder_order k)

module _ (m : List (Holder × ℕ)) (distinct : IsDistinct derived.ghosts.eq (keys_of m)) (holders : List Holder)
    (is : bag_of holder_cmp (spread m) ≡ holders) (k : Holder) where
  -- a holder is there as often as it is counted
  pub counted_times : times_of derived.ghosts.eq k m ≡ how_often holder_cmp k holders
  counted_times =
      sym (often_spread derived.ghosts.eq holder_ties k m distinct)
      ∙ sym (how_many_bag_of holder_cmp (eq_by_cmp holder_cmp k) (spread m))
      ∙ ap (how_often holder_cmp k) is

  -- a holder that is there is counted
  pub has_times : 0 < how_often holder_cmp k holders → IsSome (lookup (derived.ghosts.eq k) m)
  has_times there = some_at (lookup (derived.ghosts.eq k) m) (subst (λ n. 0 < n) (sym counted_times) there)

  module _ (n : List (Holder × ℕ)) (distinct_after : IsDistinct derived.ghosts.eq (keys_of n)) (t : ℕ)
      (counted : t ≡ how_often holder_cmp k holders) where
    -- after one more is counted, one more is there
    pub bag_more : Recounts derived.ghosts.eq k (t + 1) m n → bag_of holder_cmp (spread n) ≡ one_more holder_cmp k holders
    bag_more set =
        let times = counted_times in
        let one = set k ∙ chosen _ _ _ (itself k) in
        counted_more derived.ghosts.eq holder_ties k m n distinct distinct_after (λ q apart. set q ∙ passed _ _ _ apart) (omega arith)
        ∙ ap (one_more holder_cmp k) is

    module _ (there : 0 < how_often holder_cmp k holders) (set : Recounts derived.ghosts.eq k (t - 1) m n) where
      before_less : holders ≡ one_more holder_cmp k (bag_of holder_cmp (spread n))
      before_less =
          let times = counted_times in
          let one = set k ∙ chosen _ _ _ (itself k) in
          sym is ∙ counted_more derived.ghosts.eq holder_ties k n m distinct_after distinct (λ q apart. sym (set q ∙ passed _ _ _ apart)) (omega arith)

      -- after one less is counted, one less is there
      pub bag_less : bag_of holder_cmp (spread n) ≡ one_less holder_cmp k holders
      bag_less = sym (ap (one_less holder_cmp k) before_less ∙ one_less_one_more holder_order k (bag_of holder_cmp (spread n)))

      pub length_less : length holders ≡ length (bag_of holder_cmp (spread n)) + 1
      length_less = ap length before_less ∙ length_one_more holder_cmp k (bag_of holder_cmp (spread n))
