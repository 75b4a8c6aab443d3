-- Nine flags that are taken one after the other.
use Rattle.std.proofs.Common.{◌≡◌, ℕ, Bool, List, Option, refl, codes}
use Rattle.registry_reading_model.specs.Words.{take_flag, flags_left}

pub nine_flags : {a b c d e f g h i : Bool} (k : Option (List ℕ)) {l m n o p q r s t : Option (List ℕ)}
    → (a, l) ≡ take_flag (codes "bound") k → (b, m) ≡ take_flag (codes "constrained") l → (c, n) ≡ take_flag (codes "maybeambiguous") m
    → (d, o) ≡ take_flag (codes "maybedefault") n → (e, p) ≡ take_flag (codes "maybevoid") o → (f, q) ≡ take_flag (codes "optional") p
    → (g, r) ≡ take_flag (codes "readonly") q → (h, s) ≡ take_flag (codes "removable") r → (i, t) ≡ take_flag (codes "transient") s
    → (
      record { bound = a; constrained = b; maybeambiguous = c; maybedefault = d; maybevoid = e; optional = f; readonly = g; removable = h; transient = i },
      t,
    ) ≡ flags_left k
unfolding flags_left
nine_flags k ea eb ec ed ee ef eg eh ei = rw (← ea) (rw (← eb) (rw (← ec) (rw (← ed) (rw (← ee) (rw (← ef) (rw (← eg) (rw (← eh) (rw (← ei) refl))))))))
