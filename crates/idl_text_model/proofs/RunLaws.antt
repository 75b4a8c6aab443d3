-- The longest front of a text of which each byte passes a test.
use Rattle.std.proofs.Common.{◌≡◌, ℕ, Bool, true, false, List, [], ◌∷◌, ◌++◌, refl, ap}
use Rattle.std.proofs.lemmas.Bool.{and_parts, and_from, not-true, not_from_false}
use Rattle.std.specs.List.{list_all}
use Rattle.idl_text_model.specs.Pieces.{next_byte, is_none_of}
use Rattle.literal_model.specs.Shapes.{run_of, behind_run}

-- what is all of one kind is the run, where what is behind it begins with another kind
pub run_back : (test : ℕ → Bool) (xs rest : List ℕ) → list_all test xs ≡ true → is_none_of test (next_byte rest) ≡ true
    → (run_of test (xs ++ rest) ≡ xs) × (behind_run test (xs ++ rest) ≡ rest)
unfolding run_of behind_run
run_back test [] [] all over = (refl, refl)
run_back test [] (c ∷ cs) all over = let other = not-true (test c) over in (rw other refl, rw other refl)
run_back test (x ∷ xs) rest all over =
    let parts = and_parts (test x) (list_all test xs) all in
    let inner = run_back test xs rest parts.1 over in
    (rw parts.0 (ap (λ ys. x ∷ ys) inner.0), rw parts.0 inner.1)

-- a text is its run and what is behind it
pub run_whole : (test : ℕ → Bool) (text : List ℕ) → text ≡ run_of test text ++ behind_run test text
unfolding run_of behind_run
run_whole test [] = refl
run_whole test (c ∷ cs) = by_test (test c) refl (run_whole test cs)
  where
    by_test : (b : Bool) → test c ≡ b → cs ≡ run_of test cs ++ behind_run test cs → c ∷ cs ≡ run_of test (c ∷ cs) ++ behind_run test (c ∷ cs)
    by_test true here inner = rw here (ap (λ ys. c ∷ ys) inner)
    by_test false here inner = rw here refl

pub run_passes : (test : ℕ → Bool) (text : List ℕ) → list_all test (run_of test text) ≡ true
unfolding run_of
run_passes test [] = refl
run_passes test (c ∷ cs) = by_test (test c) refl (run_passes test cs)
  where
    by_test : (b : Bool) → test c ≡ b → list_all test (run_of test cs) ≡ true → list_all test (run_of test (c ∷ cs)) ≡ true
    by_test true here inner = rw here (and_from (test c) _ here inner)
    by_test false here inner = rw here refl

pub run_over : (test : ℕ → Bool) (text : List ℕ) → is_none_of test (next_byte (behind_run test text)) ≡ true
unfolding behind_run
run_over test [] = refl
run_over test (c ∷ cs) = by_test (test c) refl (run_over test cs)
  where
    by_test : (b : Bool) → test c ≡ b → is_none_of test (next_byte (behind_run test cs)) ≡ true → is_none_of test (next_byte (behind_run test (c ∷ cs))) ≡ true
    by_test true here inner = rw here inner
    by_test false here inner = rw here (not_from_false (test c) here)
