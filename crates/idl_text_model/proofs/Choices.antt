-- What was read by tests was read by the first one that holds.
use Rattle.std.proofs.Common.{◌≡◌, Bool, true, false, Option, Some, if◌then◌else◌, refl, subst}
use Rattle.uno_model.proofs.Options.{same_some}

-- the first of two that was taken
pub chosen : {Y : Type 0} (b : Bool) (x y : Option Y) (z : Y) {P : Type 0} → (if b then x else y) ≡ Some z → (b ≡ true → x ≡ Some z → P)
    → (b ≡ false → y ≡ Some z → P) → P
chosen true x y z read here other = here refl read
chosen false x y z read here other = other refl read

-- what holds of what was given holds of what was read
pub came : {Y : Type 0} (P : Y → Type 0) {y z : Y} → Some y ≡ Some z → P y → P z
came P e p = subst P (same_some e) p
