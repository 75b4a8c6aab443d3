-- A text that goes out piece by piece: what has been taken is a front of it, and the rest stands behind.
use Rattle.std.proofs.Common.{◌≡◌, ℕ, List, [], ◌++◌, Option, refl, sym, ◌∙◌, ap, subst, append_assoc, append-nil, take, drop, take-append-drop}
use Rattle.std.specs.Io.KnownBytes.{Appends, Keeps}
use Rattle.std.proofs.KnownBytes.{Appends-nil, Appends-trans, Appends-kept}
use Rattle.uno_io.specs.Fronts.{AppendsFront}

-- all of the bytes but the rest were taken
pub record TookBut (rest : List ℕ) (old new : Option (List ℕ)) (bytes : List ℕ) : Type 0 where
  pub front : List ℕ
  pub split : bytes ≡ front ++ rest
  pub grown : Appends old new front

pub nothing_yet : (old : Option (List ℕ)) (bytes : List ℕ) → TookBut bytes old old bytes
nothing_yet old bytes = record { front = []; split = refl; grown = Appends-nil old }

pub one_more : (old mid new : Option (List ℕ)) (bytes rest : List ℕ) (n : ℕ) → TookBut rest old mid bytes → Appends mid new (take n rest)
    → TookBut (drop n rest) old new bytes
one_more old mid new bytes rest n before more =
    let parts : rest ≡ take n rest ++ drop n rest = sym (take-append-drop n rest) in
    record {
      front = before.front ++ take n rest;
      split = before.split ∙ ap (λ l. before.front ++ l) parts ∙ sym (append_assoc before.front (take n rest) (drop n rest));
      grown = Appends-trans old mid new before.front (take n rest) before.grown more;
    }

pub all_taken : (old new : Option (List ℕ)) (bytes rest : List ℕ) → TookBut rest old new bytes → rest ≡ [] → Appends old new bytes
all_taken old new bytes rest before none =
    let whole : bytes ≡ before.front = before.split ∙ ap (λ l. before.front ++ l) none ∙ append-nil before.front in
    subst (Appends old new) (sym whole) before.grown

pub then_stopped : (old mid new : Option (List ℕ)) (bytes rest : List ℕ) → TookBut rest old mid bytes → Keeps mid new → AppendsFront old new bytes
then_stopped old mid new bytes rest before same =
    record { front = before.front; rest = rest; split = before.split; grown = Appends-kept old mid new before.front before.grown same }
