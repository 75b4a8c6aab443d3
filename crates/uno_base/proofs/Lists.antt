-- Lists that are put together and taken apart.
use Rattle.std.proofs.Common.{◌≡◌, List, [], ◌∷◌, ◌++◌, length, refl, append_assoc, arith}

-- two lists with fronts of one length are one, front by front and behind
pub same_fronts : {A : Type 0} (t u x y : List A) → length t ≡ length u → t ++ x ≡ u ++ y → (t ≡ u) × (x ≡ y)
same_fronts [] [] x y long e = (refl, e)
same_fronts [] (b ∷ u) x y long e = let bad : ⊥ = omega arith in absurd bad
same_fronts (a ∷ t) [] x y long e = let bad : ⊥ = omega arith in absurd bad
same_fronts (a ∷ t) (b ∷ u) x y long e =
    let tails : length t ≡ length u = omega arith in
    let behind : t ++ x ≡ u ++ y = cc in
    let heads : a ≡ b = cc in
    let rest = same_fronts t u x y tails behind in
    let fronts = rest.0 in
    (cc, rest.1)

-- writes one after the other, to what was empty
pub two_writes : {A : Type 0} {u v w : List A} (a b : List A) → u ≡ [] → v ≡ u ++ a → w ≡ v ++ b → w ≡ a ++ b
two_writes a b none p q = rw (q, p, none) refl

pub three_writes : {A : Type 0} {u v w x : List A} (a b c : List A) → u ≡ [] → v ≡ u ++ a → w ≡ v ++ b → x ≡ w ++ c → x ≡ a ++ (b ++ c)
three_writes a b c none p q r = rw (r, q, p, none) (simp append_assoc)

pub four_writes : {A : Type 0} {u v w x y : List A} (a b c d : List A) → u ≡ [] → v ≡ u ++ a → w ≡ v ++ b → x ≡ w ++ c → y ≡ x ++ d → y ≡ a ++ (b ++ (c ++ d))
four_writes a b c d none p q r s = rw (s, r, q, p, none) (simp append_assoc)

-- writes one after the other, to what was there
pub four_more : {A : Type 0} {v w x y : List A} (u a b c d : List A) → v ≡ u ++ a → w ≡ v ++ b → x ≡ w ++ c → y ≡ x ++ d → y ≡ u ++ (a ++ (b ++ (c ++ d)))
four_more u a b c d p q r s = rw (s, r, q, p) (simp append_assoc)
