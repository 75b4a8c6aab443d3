-- How often each of some holders is counted, as rows.
use Rattle.std.specs.Prelude.{◌≡◌, ℕ, Bool, cond, List}
use Rattle.std.specs.Map.{lookup}
use Rattle.std.specs.Option.{unwrap_or}
use Rattle.table_model.specs.declared.holder.Holder.{Holder}

module _ (eq : Holder → Holder → Bool) where
  -- how often a holder is counted
  abbrev pub times_of : Holder → List (Holder × ℕ) → ℕ
  times_of holder rows = unwrap_or (lookup (eq holder) rows) 0

  -- afterwards a holder is counted so often, and each other as before
  abbrev pub Recounts : Holder → ℕ → List (Holder × ℕ) → List (Holder × ℕ) → Type 0
  Recounts holder number before after = (other : Holder) → times_of other after ≡ cond (eq holder other) number (times_of other before)
