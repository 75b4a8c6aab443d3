-- Functions by their names.
use Rattle.std.proofs.Common.{◌≡◌, ℕ, Bool, true, false, List, ◌++◌, refl, sym, ap}
use Rattle.std.proofs.lemmas.List.{append_cancel_left}
use Rattle.std.proofs.lemmas.Slice.Eq.{bytes_eq-Decides}
use Rattle.std.specs.Bool.{one_answer}
use Rattle.std.specs.Str.{bytes_eq}

-- texts behind one front are one exactly where the whole texts are
pub same_behind : (front x y : List ℕ) → bytes_eq x y ≡ bytes_eq (front ++ x) (front ++ y)
same_behind front x y =
    let one = bytes_eq-Decides x y in
    let both = bytes_eq-Decides (front ++ x) (front ++ y) in
    one_answer (bytes_eq x y) (bytes_eq (front ++ x) (front ++ y)) one ((λ e. append_cancel_left front x y (both.0 e)), (λ e. both.1 (ap (λ z. front ++ z) e)))

pub no_prefix : (text front name : List ℕ) → ((rest : List ℕ) → text ≡ front ++ rest → ⊥) → false ≡ bytes_eq text (front ++ name)
no_prefix text front name never = by (bytes_eq text (front ++ name)) refl
  where
    by : (b : Bool) → bytes_eq text (front ++ name) ≡ b → false ≡ bytes_eq text (front ++ name)
    by true e = absurd (never name ((bytes_eq-Decides text (front ++ name)).0 e))
    by false e = sym e
