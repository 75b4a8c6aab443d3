-- A text to which something is put for each number of a range.
use Rattle.std.proofs.Common.{◌≡◌, ◌+◌, ℕ, List, [], ◌∷◌, ◌++◌, map, refl, sym, ap, ◌∙◌, arith}
use Rattle.std.proofs.lemmas.Grind.{flat_map-append}
use Rattle.std.proofs.lemmas.List.{append-nil, append_assoc}
use Rattle.std.proofs.lemmas.List.Folds.{flat_map-map}
use Rattle.std.proofs.lemmas.List.FromFn.{map-range_with_len_more}
use Rattle.std.specs.List.{flat_map, range_with_len}

one_more : (f : ℕ → List ℕ) (n : ℕ) → flat_map f (range_with_len 0 (n + 1)) ≡ flat_map f (range_with_len 0 n) ++ f n
one_more f n =
    sym (flat_map-map f (λ x. x) (range_with_len 0 (n + 1)))
    ∙ (ap (flat_map f) (map-range_with_len_more (λ x. x) 0 n n (omega arith))
    ∙ (flat_map-append f (map (λ x. x) (range_with_len 0 n)) (n ∷ [])
    ∙ (ap (λ t. t ++ flat_map f (n ∷ [])) (flat_map-map f (λ x. x) (range_with_len 0 n)) ∙ ap (λ t. flat_map f (range_with_len 0 n) ++ t) (append-nil (f n)))))

pub put_more : (f : ℕ → List ℕ) (n : ℕ) (a t u : List ℕ) → t ≡ a ++ flat_map f (range_with_len 0 n) → u ≡ t ++ f n → u ≡ a ++ flat_map f (range_with_len 0 (n + 1))
put_more f n a t u at put =
    put ∙ (ap (λ x. x ++ f n) at ∙ (append_assoc a (flat_map f (range_with_len 0 n)) (f n) ∙ ap (λ x. a ++ x) (sym (one_more f n))))
