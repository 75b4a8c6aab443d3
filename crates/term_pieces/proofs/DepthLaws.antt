-- The numbers of terms behind a piece are those of the terms that stand there.
use Rattle.std.proofs.Common.{◌≡◌, ℕ, zero, suc, ◌≤◌, List, [], ◌∷◌, length, map, drop, refl, sym, ap, ◌∙◌, arith}
use Rattle.std.proofs.lemmas.List.{drop-map}
use Rattle.plan_model.specs.Limits.{term_depth, terms_depth, parentheses, parentheses_in}
use Rattle.plan_model.specs.Lines.{Term, Terms, none, more}
use Rattle.term_pieces.specs.Pieces.{Piece, leaf, type_named, void_any, typed, elements, members, word, operation, held, gathered, put}
use Rattle.term_pieces.specs.Depths.{largest, depths_behind, parentheses_behind}

gathered_deep : (n : ℕ) (done : List Term) (ts : Terms) → terms_depth (gathered n done ts) ≡ largest n (map term_depth done) (terms_depth ts)
unfolding gathered largest terms_depth
gathered_deep zero done ts = refl
gathered_deep (suc n) [] ts = refl
gathered_deep (suc n) (t ∷ done) ts = gathered_deep n done (more t ts)

gathered_open : (n : ℕ) (done : List Term) (ts : Terms) → parentheses_in (gathered n done ts) ≡ largest n (map parentheses done) (parentheses_in ts)
unfolding gathered largest parentheses_in
gathered_open zero done ts = refl
gathered_open (suc n) [] ts = refl
gathered_open (suc n) (t ∷ done) ts = gathered_open n done (more t ts)

deep_held : (n : ℕ) (done : List Term) → suc (terms_depth (gathered n done none)) ∷ map term_depth (drop n done) ≡ suc (largest n (map term_depth done) 0) ∷ drop n (map term_depth done)
unfolding terms_depth
deep_held n done = ap (λ d. suc d ∷ map term_depth (drop n done)) (gathered_deep n done none) ∙ ap (λ ds. suc (largest n (map term_depth done) 0) ∷ ds) (sym (drop-map term_depth n done))

open_held : (n : ℕ) (done : List Term) → parentheses_in (gathered n done none) ∷ map parentheses (drop n done) ≡ largest n (map parentheses done) 0 ∷ drop n (map parentheses done)
unfolding parentheses_in
open_held n done = ap (λ d. d ∷ map parentheses (drop n done)) (gathered_open n done none) ∙ ap (λ ds. largest n (map parentheses done) 0 ∷ ds) (sym (drop-map parentheses n done))

pub depths_are : (p : Piece) (done : List Term) → held p ≤ length done → map term_depth (put done p) ≡ depths_behind (map term_depth done) p
unfolding put held depths_behind term_depth
depths_are (leaf t) done enough = refl
depths_are (type_named k) done enough = refl
depths_are void_any done enough = refl
depths_are (typed k) [] enough = let bad : ⊥ = omega (arith, enough) in absurd bad
depths_are (typed k) (t ∷ done) enough = refl
depths_are (elements n) done enough = deep_held n done
depths_are (members n) done enough = deep_held n done
depths_are (word w) done enough = refl
depths_are (operation op) [] enough = let bad : ⊥ = omega (arith, enough) in absurd bad
depths_are (operation op) (t ∷ []) enough = let bad : ⊥ = omega (arith, enough) in absurd bad
depths_are (operation op) (t ∷ s ∷ done) enough = refl

pub parentheses_are : (p : Piece) (done : List Term) → held p ≤ length done → map parentheses (put done p) ≡ parentheses_behind (map parentheses done) p
unfolding put held parentheses_behind parentheses
parentheses_are (leaf t) done enough = refl
parentheses_are (type_named k) done enough = refl
parentheses_are void_any done enough = refl
parentheses_are (typed k) [] enough = let bad : ⊥ = omega (arith, enough) in absurd bad
parentheses_are (typed k) (t ∷ done) enough = refl
parentheses_are (elements n) done enough = open_held n done
parentheses_are (members n) done enough = open_held n done
parentheses_are (word w) done enough = refl
parentheses_are (operation op) [] enough = let bad : ⊥ = omega (arith, enough) in absurd bad
parentheses_are (operation op) (t ∷ []) enough = let bad : ⊥ = omega (arith, enough) in absurd bad
parentheses_are (operation op) (t ∷ s ∷ done) enough = refl
