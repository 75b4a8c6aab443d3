-- Pieces one behind the other.
use Rattle.std.proofs.Common.{◌≡◌, ℕ, zero, suc, ◌≤◌, ◌+◌, Bool, true, false, ◌&&◌, ◌==◌, nat_lt, eq-eqb, List, [], ◌∷◌, ◌++◌, length, drop, refl, ap, ◌∙◌, arith}
use Rattle.std.proofs.lemmas.Bool.{and_parts, and_from, eqb-true, lt-ltb, ltb-true}
use Rattle.std.proofs.lemmas.List.{length-drop}
use Rattle.std.specs.List.{list_all}
use Rattle.plan_model.specs.Lines.{Term, Terms, none, more}
use Rattle.term_pieces.specs.Pieces.{Piece, leaf, type_named, void_any, typed, elements, members, word, operation, held, gathered, put, put_all, AreBuilt, are_built, is_term, last_one, term_in}
use Rattle.term_pieces.specs.Tests.{ByPiece}

pub put_more : (done : List Term) (ps : List Piece) (p : Piece) → put_all done (ps ++ p ∷ []) ≡ put (put_all done ps) p
unfolding put_all
put_more done [] p = refl
put_more done (q ∷ ps) p = put_more (put done q) ps p

pub built_more : (done : List Term) (ps : List Piece) (p : Piece) → AreBuilt done ps → held p ≤ length (put_all done ps) → AreBuilt done (ps ++ p ∷ [])
unfolding put_all AreBuilt
built_more done [] p built enough = (enough, tt)
built_more done (q ∷ ps) p built enough = (built.0, built_more (put done q) ps p built.1 enough)

pub built_less : (done : List Term) (ps : List Piece) (p : Piece) → AreBuilt done (ps ++ p ∷ []) → AreBuilt done ps × (held p ≤ length (put_all done ps))
unfolding put_all AreBuilt
built_less done [] p built = (tt, built.0)
built_less done (q ∷ ps) p built = let rest = built_less (put done q) ps p built.1 in ((built.0, rest.0), rest.1)

-- a piece takes the terms that it holds, and is a term itself
pub put_length : (p : Piece) (done : List Term) → held p ≤ length done → length (put done p) + held p ≡ suc (length done)
unfolding put held
put_length (leaf t) done enough = omega arith
put_length (type_named k) done enough = omega arith
put_length void_any done enough = omega arith
put_length (typed k) [] enough = let bad : ⊥ = omega (arith, enough) in absurd bad
put_length (typed k) (t ∷ done) enough = omega arith
put_length (elements n) done enough = let size = length-drop n done in omega (arith, size, enough)
put_length (members n) done enough = let size = length-drop n done in omega (arith, size, enough)
put_length (word w) done enough = omega arith
put_length (operation op) [] enough = let bad : ⊥ = omega (arith, enough) in absurd bad
put_length (operation op) (t ∷ []) enough = let bad : ⊥ = omega (arith, enough) in absurd bad
put_length (operation op) (t ∷ s ∷ done) enough = omega arith

-- ---- one term

pub built_is : (done : List Term) (ps : List Piece) → AreBuilt done ps → are_built done ps ≡ true
unfolding AreBuilt are_built
built_is done [] built = refl
built_is done (p ∷ ps) built = and_from (nat_lt (held p) (suc (length done))) _ (lt-ltb (held p) (suc (length done)) (omega (arith, built.0))) (built_is (put done p) ps built.1)

pub is_built : (done : List Term) (ps : List Piece) → are_built done ps ≡ true → AreBuilt done ps
unfolding AreBuilt are_built
is_built done [] passes = tt
is_built done (p ∷ ps) passes =
    let parts = and_parts (nat_lt (held p) (suc (length done))) (are_built (put done p) ps) passes in
    let low = ltb-true (held p) (suc (length done)) parts.0 in
    (omega (arith, low), is_built (put done p) ps parts.1)

pub one_is : (ps : List Piece) → AreBuilt [] ps → length (put_all [] ps) ≡ 1 → is_term ps ≡ true
unfolding is_term
one_is ps built one = and_from (are_built [] ps) _ (built_is [] ps built) (eq-eqb (length (put_all [] ps)) 1 one)

last_alone : (done : List Term) → length done ≡ 1 → done ≡ last_one done ∷ []
last_alone [] one = let bad : ⊥ = omega (arith, one) in absurd bad
last_alone (t ∷ []) one = refl
last_alone (t ∷ s ∷ done) one = let bad : ⊥ = omega (arith, one) in absurd bad

-- the pieces of one term are built, and it alone stands there
pub is_one : (ps : List Piece) → is_term ps ≡ true → AreBuilt [] ps × (put_all [] ps ≡ term_in ps ∷ [])
unfolding is_term term_in
is_one ps passes =
    let parts = and_parts (are_built [] ps) (length (put_all [] ps) == 1) passes in
    (is_built [] ps parts.0, last_alone (put_all [] ps) (eqb-true (length (put_all [] ps)) 1 parts.1))

-- the terms that stand there are no more than the pieces
pub put_less : (ps : List Piece) (done : List Term) → AreBuilt done ps → length (put_all done ps) ≤ length done + length ps
unfolding put_all AreBuilt
put_less [] done built = omega arith
put_less (p ∷ ps) done built =
    let size = put_length p done built.0 in let more = put_less ps (put done p) built.1 in omega (arith, size, more)

-- ---- tests

and_comm : (a b : Bool) → (a && b) ≡ (b && a)
and_comm true true = refl
and_comm true false = refl
and_comm false true = refl
and_comm false false = refl

and_group : (a b d : Bool) → ((a && b) && d) ≡ (a && (b && d))
and_group true b d = refl
and_group false b d = refl

regrouped : (a b d : Bool) → (a && (b && d)) ≡ ((b && a) && d)
regrouped true true d = refl
regrouped true false d = refl
regrouped false true d = refl
regrouped false false d = refl

crossed : (a b d e : Bool) → ((a && (b && d)) && e) ≡ (a && (d && (b && e)))
crossed true true true e = refl
crossed true true false e = refl
crossed true false true e = refl
crossed true false false e = refl
crossed false b d e = refl

module _ {one : Term → Bool} {all : Terms → Bool} {piece : Piece → Bool} (tests : ByPiece one all piece) where
  gathered_pass : (n : ℕ) (done : List Term) (ts : Terms) → n ≤ length done → (all (gathered n done ts) && list_all one (drop n done)) ≡ (list_all one done && all ts)
  unfolding gathered
  gathered_pass zero done ts enough = and_comm (all ts) (list_all one done)
  gathered_pass (suc n) [] ts enough = let bad : ⊥ = omega (arith, enough) in absurd bad
  gathered_pass (suc n) (t ∷ done) ts enough =
      gathered_pass n done (more t ts) (omega (arith, enough)) ∙ ap (λ b. list_all one done && b) (tests.cons t ts) ∙ regrouped (list_all one done) (one t) (all ts)

  held_pass : (n : ℕ) (done : List Term) (b : Bool) → n ≤ length done → ((b && all (gathered n done none)) && list_all one (drop n done)) ≡ (b && list_all one done)
  held_pass n done b enough =
      and_group b (all (gathered n done none)) (list_all one (drop n done))
      ∙ ap (λ x. b && x) (gathered_pass n done none enough ∙ ap (λ x. list_all one done && x) tests.nil ∙ and_comm (list_all one done) true)

  pub put_passes : (p : Piece) (done : List Term) → held p ≤ length done → list_all one (put done p) ≡ (piece p && list_all one done)
  unfolding put held
  put_passes (leaf t) done enough = ap (λ b. b && list_all one done) (tests.of_leaf t)
  put_passes (type_named k) done enough = ap (λ b. b && list_all one done) (tests.of_type k)
  put_passes void_any done enough = ap (λ b. b && list_all one done) tests.of_void
  put_passes (typed k) [] enough = let bad : ⊥ = omega (arith, enough) in absurd bad
  put_passes (typed k) (t ∷ done) enough = ap (λ b. b && list_all one done) (tests.of_typed k t) ∙ and_group (piece (typed k)) (one t) (list_all one done)
  put_passes (elements n) done enough =
      ap (λ b. b && list_all one (drop n done)) (tests.of_elements n (gathered n done none)) ∙ held_pass n done (piece (elements n)) enough
  put_passes (members n) done enough =
      ap (λ b. b && list_all one (drop n done)) (tests.of_members n (gathered n done none)) ∙ held_pass n done (piece (members n)) enough
  put_passes (word w) done enough = ap (λ b. b && list_all one done) (tests.of_word w)
  put_passes (operation op) [] enough = let bad : ⊥ = omega (arith, enough) in absurd bad
  put_passes (operation op) (t ∷ []) enough = let bad : ⊥ = omega (arith, enough) in absurd bad
  put_passes (operation op) (t ∷ s ∷ done) enough =
      ap (λ b. b && list_all one done) (tests.of_operation op s t) ∙ crossed (piece (operation op)) (one s) (one t) (list_all one done)

  -- terms pass where all their pieces do
  pub all_pass : (ps : List Piece) (done : List Term) → AreBuilt done ps → list_all one (put_all done ps) ≡ (list_all piece ps && list_all one done)
  unfolding put_all AreBuilt
  all_pass [] done built = refl
  all_pass (p ∷ ps) done built =
      all_pass ps (put done p) built.1 ∙ ap (λ b. list_all piece ps && b) (put_passes p done built.0)
      ∙ regrouped (list_all piece ps) (piece p) (list_all one done)
