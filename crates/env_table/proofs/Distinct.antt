-- No keys, and one, are distinct.
use Rattle.std.proofs.Common.{Bool, [], ◌∷◌}
use Rattle.std.specs.List.{IsDistinct}

module _ {K : Type 0} (eq : K → K → Bool) where
  pub none_distinct : IsDistinct eq []
  unfolding IsDistinct
  none_distinct = tt

  pub lone_distinct : (k : K) → IsDistinct eq (k ∷ [])
  unfolding IsDistinct
  lone_distinct k = (tt, tt)
