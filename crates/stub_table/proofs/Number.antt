-- How many stubs a table has, before and after each call.
use Rattle.std.proofs.Common.{◌≡◌, ◌+◌, cond, length, None, Some, is_some, sym, ap, ◌∙◌, arith}
use Rattle.std.specs.Prelude.{T}
use Rattle.std.specs.FinMap.{put, is_sorted}
use Rattle.std.specs.FinMap.Entries.{length-put, length_without}
use Rattle.table_model.specs.Pair.{Pair, pair_cmp}
use Rattle.table_model.specs.Rows.{without}
use Rattle.table_model.specs.Stubs.{Stubs, stub}
use Rattle.table_model.specs.declared.stub.Stub.{Stub}
use Rattle.table_model.proofs.PairLaws.{pair_order}

module _ (p : Pair) (old new rows : Stubs) (is : old ≡ rows) (rises : T (is_sorted pair_cmp rows)) where
  long_put : (s : Stub) → new ≡ put pair_cmp p s old → length new ≡ cond (is_some (stub p rows)) (length rows) (length rows + 1)
  long_put s after = ap length (after ∙ ap (put pair_cmp p s) is) ∙ length-put pair_cmp pair_order p s rows rises

  -- a pair that had no stub and gets one is one more
  pub number_added : (s : Stub) → stub p rows ≡ None → new ≡ put pair_cmp p s old → length new ≡ length old + 1
  number_added s none after =
      let more = long_put s after ∙ ap (λ found. cond (is_some found) (length rows) (length rows + 1)) none in
      let same = ap length is in
      omega (arith, more, same)

  module _ (found : Stub) (there : Some found ≡ stub p rows) where
    -- a pair that had a stub and gets another is as many
    pub number_put : (s : Stub) → new ≡ put pair_cmp p s old → length new ≡ length old
    number_put s after =
        long_put s after ∙ ap (λ found. cond (is_some found) (length rows) (length rows + 1)) (sym there) ∙ ap length (sym is)

    -- a stub that goes is one less
    pub number_without : new ≡ without pair_cmp p old → length new + 1 ≡ length old
    number_without after =
        let all = ap (λ found. cond (is_some found) 1 0 + length (without pair_cmp p rows)) there ∙ length_without pair_cmp pair_order p rows rises in
        let stay = ap length (after ∙ ap (without pair_cmp p) is) in
        let same = ap length is in
        omega (arith, all, stay, same)
