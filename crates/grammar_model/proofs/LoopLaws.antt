-- A loop that reads one after the other comes to what `many` reads.
use Rattle.std.proofs.Common.{◌≡◌, ℕ, zero, suc, ◌<◌, ◌≤◌, Bool, true, false, List, [], ◌∷◌, ◌++◌, length, Option, Result, Ok, Err}
use Rattle.std.proofs.Common.{refl, sym, ap, ◌∙◌, append_assoc, append-nil, le_refl, arith}
use Rattle.grammar_model.specs.Loops.{SoFar, with_front}
use Rattle.grammar_model.specs.Readings.{Reads, next, ◌>>=◌, many_at, many, seq, image, empty}
use Rattle.grammar_model.specs.declared.fault.Fault.{Fault}
use Rattle.grammar_model.proofs.Choices.{chosen_first, chosen_other}

module _ {T X : Type 0} (c : Option T → Bool) (r : Reads T X) where
  -- nothing was read yet
  pub begins : (toks : List T) → SoFar c r (many c r toks) [] toks
  begins toks = record { fuel = length toks; enough = le_refl (length toks); same = none_before (many c r toks) }
    where
      none_before : (read : Result (List X × List T) Fault) → with_front [] read ≡ read
      none_before (Ok z) = refl
      none_before (Err e) = refl

  -- one more
  with_one : (front : List X) (x : X) (read : Result (List X × List T) Fault) → with_front front (read >>= λ z. Ok (x ∷ z.0, z.1)) ≡ with_front
      (front ++ (x ∷ [])) read
  with_one front x (Ok z) = ap (λ k. Ok (k, z.1)) (sym (append_assoc front (x ∷ []) z.0))
  with_one front x (Err e) = refl

  -- an item and the list behind it
  abbrev behind_item : ℕ → X × List T → Result ((X × List X) × List T) Fault
  behind_item fuel v = many_at fuel c r v.1 >>= λ w. Ok ((v.0, w.0), w.1)

  abbrev joined_up : Result ((X × List X) × List T) Fault → Result (List X × List T) Fault
  joined_up read = read >>= λ z. Ok (z.0.0 ∷ z.0.1, z.1)

  paired : (fuel : ℕ) (x : X) (read : Result (List X × List T) Fault) (behind : List T) → many_at fuel c r behind ≡ read
      → joined_up (behind_item fuel (x, behind)) ≡ (many_at fuel c r behind >>= λ z. Ok (x ∷ z.0, z.1))
  paired fuel x (Ok z) behind is = rw is refl
  paired fuel x (Err e) behind is = rw is refl

  one_step : (fuel : ℕ) (rest behind : List T) (x : X) → c (next rest) ≡ true → r rest ≡ Ok (x, behind)
      → many_at (suc fuel) c r rest ≡ (many_at fuel c r behind >>= λ z. Ok (x ∷ z.0, z.1))
  unfolding many_at
  one_step fuel rest behind x on is =
      chosen_first c (image (λ z. z.0 ∷ z.1) (seq r (many_at fuel c r))) (empty []) rest on
      ∙ (ap (λ (k : Result (X × List T) Fault). joined_up (k >>= behind_item fuel)) is ∙ paired fuel x (many_at fuel c r behind) behind refl)

  wrong_step : (fuel : ℕ) (rest : List T) (e : Fault) → c (next rest) ≡ true → r rest ≡ Err e → many_at (suc fuel) c r rest ≡ Err e
  unfolding many_at
  wrong_step fuel rest e on is =
      chosen_first c (image (λ z. z.0 ∷ z.1) (seq r (many_at fuel c r))) (empty []) rest on
      ∙ ap (λ (k : Result (X × List T) Fault). joined_up (k >>= behind_item fuel)) is

  no_step : (fuel : ℕ) (rest : List T) → c (next rest) ≡ false → many_at fuel c r rest ≡ Ok ([], rest)
  unfolding many_at
  no_step zero rest off = refl
  no_step (suc fuel) rest off = chosen_other c (image (λ z. z.0 ∷ z.1) (seq r (many_at fuel c r))) (empty []) rest off

  -- a round of the loop: the test passes, and what is left behind the item is shorter
  pub reads_on : (total : Result (List X × List T) Fault) (front : List X) (rest behind : List T) (x : X) → SoFar c r total front rest
      → c (next rest) ≡ true → r rest ≡ Ok (x, behind) → length behind < length rest → SoFar c r total (front ++ (x ∷ [])) behind
  reads_on total front rest behind x far on is shorter = of_fuel far.fuel far.enough far.same
    where
      of_fuel : (fuel : ℕ) → length rest ≤ fuel → with_front front (many_at fuel c r rest) ≡ total → SoFar c r total (front ++ (x ∷ [])) behind
      of_fuel zero short same = let bad : ⊥ = omega arith in absurd bad
      of_fuel (suc fuel) short same = record {
        fuel = fuel;
        enough = omega arith;
        same = sym (with_one front x (many_at fuel c r behind)) ∙ (ap (with_front front) (sym (one_step fuel rest behind x on is)) ∙ same);
      }

  -- the loop is over: what was read is all
  pub is_done : (total : Result (List X × List T) Fault) (front : List X) (rest : List T) → SoFar c r total front rest → c (next rest) ≡ false
      → total ≡ Ok (front, rest)
  is_done total front rest far off =
      sym far.same ∙ (ap (with_front front) (no_step far.fuel rest off) ∙ ap (λ k. Ok (k, rest)) (append-nil front))

  -- an item goes wrong, and so does all
  pub goes_wrong : (total : Result (List X × List T) Fault) (front : List X) (rest : List T) (e : Fault) → SoFar c r total front rest
      → c (next rest) ≡ true → r rest ≡ Err e → 0 < length rest → total ≡ Err e
  goes_wrong total front rest e far on is some = of_fuel far.fuel far.enough far.same
    where
      of_fuel : (fuel : ℕ) → length rest ≤ fuel → with_front front (many_at fuel c r rest) ≡ total → total ≡ Err e
      of_fuel zero short same = let bad : ⊥ = omega arith in absurd bad
      of_fuel (suc fuel) short same = sym same ∙ ap (with_front front) (wrong_step fuel rest e on is)
