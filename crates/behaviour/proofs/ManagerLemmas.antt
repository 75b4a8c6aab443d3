-- What the service manager is given.
use Rattle.std.proofs.Common.{◌≡◌, List, [], ◌∷◌, refl, ap}
use Rattle.plan_model.specs.Effects.{values_in}
use Rattle.uno_model.specs.Values.{Plain, plains}

-- the parts of a sequence, as a list
pub values_back : (xs : List Plain) → values_in (plains xs) ≡ xs
unfolding values_in
values_back [] = refl
values_back (x ∷ xs) = ap (λ ys. x ∷ ys) (values_back xs)
