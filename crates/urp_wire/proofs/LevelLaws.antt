-- Elements by the levels that are left for them.
use Rattle.std.proofs.Common.{◌≡◌, ℕ, zero, suc, ◌-◌, ◌<◌, List, refl, ap}
use Rattle.uno_model.specs.Entities.{Entity}
use Rattle.uno_model.specs.Fits.{member_kinds}
use Rattle.uno_model.specs.Kinds.{Kind}
use Rattle.uno_model.specs.Kinds as kd
use Rattle.urp_model.specs.Reading.{elements_at, tuple_at, value_step, value_at}
use Rattle.urp_model.specs.Tables.{Tables}
use Rattle.urp_model.proofs.Levels.{value_at-level}
use Rattle.urp_wire.specs.Levels.{too_deep}

module _ (reg : List Entity) (n : ℕ) (s : Tables) (bs : List ℕ) where
  -- none is left
  pub none_deeper : (levels : ℕ) (k : Kind) → levels ≡ 0 → elements_at (value_at levels reg k) n s bs ≡ elements_at too_deep n s bs
  unfolding value_at
  none_deeper zero k is = refl
  none_deeper (suc d) k is = absurd cc

  -- a struct is its members, which have a level less
  pub structs_deeper : (levels : ℕ) (name : List ℕ) → 0 < levels
      → elements_at (value_at levels reg (kd.struct name)) n s bs ≡ elements_at (tuple_at (value_at (levels - 1) reg) (member_kinds reg name) name) n s bs
  unfolding value_step
  structs_deeper levels name some = ap (λ r. elements_at r n s bs) (λ i t cs. value_at-level levels reg (kd.struct name) t cs some i)
