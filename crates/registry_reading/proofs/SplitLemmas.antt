-- std's ways to take a text apart, as the functions of the model.
use Rattle.std.proofs.Common.{◌≡◌, ◌≢◌, ℕ, suc, ◌<◌, Bool, true, false, List, [], ◌∷◌, ◌++◌, length, take, drop, get_or, Option, None, Some, MatchOption, option_map, refl, sym, ap, ◌∙◌, arith, Bor, eq-eqb, ne_eqb}
use Rattle.std.proofs.lemmas.Str.Pattern.{IsSplitOnceResult, split_parts}
use Rattle.std.proofs.lemmas.List.{take_at, drop_at, take-append-drop}
use Rattle.std.proofs.lemmas.Slice.Eq.{bytes_eq-Decides}
use Rattle.std.specs.Str.{bytes_eq}
use Rattle.registry_reading_model.specs.Words.{split_at, behind}
use Rattle.registry_reading.specs.Views.{one, both}

-- no mark, no split
split_none : (mark : ℕ) (bs : List ℕ) → ((i : ℕ) → i < length bs → get_or bs i 0 ≢ mark) → split_at mark bs ≡ None
unfolding split_at
split_none mark [] free = refl
split_none mark (c ∷ cs) free = rw (ne_eqb c mark (free 0 (omega arith)), split_none mark cs (λ i l. free (suc i) (omega arith))) refl

-- the first mark splits
split_some : (mark : ℕ) (xs ys : List ℕ) → ((i : ℕ) → i < length xs → get_or xs i 0 ≢ mark) → split_at mark (xs ++ mark ∷ ys) ≡ Some (xs, ys)
unfolding split_at
split_some mark [] ys free = rw (eq-eqb mark mark refl) refl
split_some mark (c ∷ cs) ys free = rw (ne_eqb c mark (free 0 (omega arith)), split_some mark cs ys (λ i l. free (suc i) (omega arith))) refl

pub split_is : (mark : ℕ) (bs : List ℕ) (r : Option (Bor (List ℕ) × Bor (List ℕ))) → IsSplitOnceResult mark bs r → mark < 128 → option_map both r ≡ split_at mark bs
split_is mark bs None is low = sym (split_none mark bs (split_parts mark bs None is low))
split_is mark bs (Some x) is low =
    let parts = split_parts mark bs (Some x) is low in
    sym (ap (split_at mark) parts.0 ∙ split_some mark x.0.now x.1.now parts.1)

pub behind_is : (text word : List ℕ) (r : Option (Bor (List ℕ))) → MatchOption r ((rest : List ℕ) → text ≡ word ++ rest → ⊥) (λ b. text ≡ word ++ b.now) → option_map one r ≡ behind word text
unfolding behind
behind_is text word None none = by_test (bytes_eq (take (length word) text) word) refl
  where
    by_test : (b : Bool) → bytes_eq (take (length word) text) word ≡ b → option_map one None ≡ behind word text
    by_test true same = absurd (none (drop (length word) text) (sym (take-append-drop (length word) text) ∙ ap (λ t. t ++ drop (length word) text) ((bytes_eq-Decides (take (length word) text) word).0 same)))
    by_test false other = rw other refl
behind_is text word (Some b) is =
    let front : take (length word) text ≡ word = ap (take (length word)) is ∙ take_at word b.now (length word) refl in
    let back : drop (length word) text ≡ b.now = ap (drop (length word)) is ∙ drop_at word b.now (length word) refl in
    rw (front, (bytes_eq-Decides word word).1 refl, back) refl
