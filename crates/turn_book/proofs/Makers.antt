-- Whose items are whose, as the list of items grows.
use Rattle.std.proofs.Common.{◌≡◌, ℕ, zero, suc, ◌<◌, List, [], ◌∷◌, ◌++◌, length, sym, refl, ap, ◌∙◌, append_assoc, append-nil, arith}
use Rattle.turn_book.specs.History.{StartsWith, chosen, made_by, Owns, AllBelow, same, times, numbers_of}
use Rattle.turn_book.proofs.Counts.{same_self, same_back, apart_below}

module _ {I : Type 0} where
  -- the maker m of each of these items
  abbrev pub fill : ℕ → List I → List ℕ
  fill m [] = []
  fill m (x ∷ xs) = m ∷ fill m xs

  pub length_fill : (m : ℕ) (xs : List I) → length (fill m xs) ≡ length xs
  length_fill m [] = refl
  length_fill m (x ∷ xs) = ap suc (length_fill m xs)

  pub all_fill : (n m : ℕ) (xs : List I) → m < n → AllBelow n (fill m xs)
  all_fill n m [] h = tt
  all_fill n m (x ∷ xs) h = (h, all_fill n m xs h)

  pub starts_more : (log seen new : List I) → StartsWith log seen → StartsWith (log ++ new) seen
  starts_more log seen new s = (s.0 ++ new, ap (λ l. l ++ new) s.1 ∙ append_assoc seen s.0 new)

  pub starts_same : (log seen : List I) → seen ≡ log → StartsWith log seen
  starts_same log seen e = ([], sym e ∙ sym (append-nil seen))

  pub starts_chosen : (k : ℕ) (log xs ys : List I) → StartsWith log xs → StartsWith log ys → StartsWith log (chosen k xs ys)
  starts_chosen zero log xs ys a b = a
  starts_chosen (suc k) log xs ys a b = b

  chosen_more : (k : ℕ) (made : List I) (x : I) (xs : List I) → made ≡ chosen k [] xs → chosen k made (x ∷ made) ≡ chosen k [] (x ∷ xs)
  chosen_more zero made x xs e = e
  chosen_more (suc k) made x xs e = ap (λ (l : List I). x ∷ l) e

  chosen_append : (k : ℕ) (made before new : List I) (x : I) → made ≡ before ++ new → chosen k made (x ∷ made) ≡ chosen k before (x ∷ before) ++ new
  chosen_append zero made before new x e = e
  chosen_append (suc k) made before new x e = ap (λ (l : List I). x ∷ l) e

  chosen_none : (k : ℕ) → chosen {I = I} k [] [] ≡ []
  chosen_none zero = refl
  chosen_none (suc k) = refl

  pub made_fill : (n m : ℕ) (xs : List I) → made_by n (fill m xs) xs ≡ chosen (same n m) [] xs
  made_fill n m [] = sym (chosen_none (same n m))
  made_fill n m (x ∷ xs) = chosen_more (same n m) (made_by n (fill m xs) xs) x xs (made_fill n m xs)

  pub made_more : (n m : ℕ) (ms : List ℕ) (xs new : List I) → length ms ≡ length xs → made_by n (ms ++ fill m new) (xs ++ new) ≡ made_by n ms xs ++ chosen (same n m) [] new
  made_more n m [] [] new e = made_fill n m new
  made_more n m [] (x ∷ xs) new e = let bad : ⊥ = omega arith in absurd bad
  made_more n m (k ∷ ms) [] new e = let bad : ⊥ = omega arith in absurd bad
  made_more n m (k ∷ ms) (x ∷ xs) new e =
      let tails : length ms ≡ length xs = omega arith in
      chosen_append (same n k) (made_by n (ms ++ fill m new) (xs ++ new)) (made_by n ms xs) (chosen (same n m) [] new) x (made_more n m ms xs new tails)

  -- who is not their maker has made no more
  pub made_same : (n m : ℕ) (ms : List ℕ) (xs new : List I) → length ms ≡ length xs → same m n ≡ 0 → made_by n (ms ++ fill m new) (xs ++ new) ≡ made_by n ms xs
  made_same n m ms xs new e other =
      let apart : same n m ≡ 0 = same_back n m ∙ other in
      made_more n m ms xs new e ∙ (ap (λ (k : ℕ). made_by n ms xs ++ chosen k [] new) apart ∙ append-nil (made_by n ms xs))

  pub owns_same : (m : ℕ) (ms : List ℕ) (xs new : List I) (own : List (ℕ × List I)) → length ms ≡ length xs → times m (numbers_of own) ≡ 0 → Owns ms xs own → Owns (ms ++ fill m new) (xs ++ new) own
  owns_same m ms xs new [] e other o = tt
  owns_same m ms xs new (p ∷ ps) e other o =
      let here : same m p.0 ≡ 0 = omega arith in
      let there : times m (numbers_of ps) ≡ 0 = omega arith in
      (o.0 ∙ sym (made_same p.0 m ms xs new e here), owns_same m ms xs new ps e there o.1)

  -- the maker owns them
  pub owns_more : (ms : List ℕ) (xs new : List I) (p : ℕ × List I) (ps : List (ℕ × List I)) → length ms ≡ length xs → times p.0 (numbers_of ps) ≡ 0 → Owns ms xs (p ∷ ps)
      → Owns (ms ++ fill p.0 new) (xs ++ new) ((p.0, p.1 ++ new) ∷ ps)
  owns_more ms xs new p ps e other o =
      let grown : made_by p.0 (ms ++ fill p.0 new) (xs ++ new) ≡ made_by p.0 ms xs ++ new = made_more p.0 p.0 ms xs new e ∙ ap (λ (k : ℕ). made_by p.0 ms xs ++ chosen k [] new) (same_self p.0) in
      (ap (λ l. l ++ new) o.0 ∙ sym grown, owns_same p.0 ms xs new ps e other o.1)

  pub owns_both : (ms : List ℕ) (xs : List I) (own other : List (ℕ × List I)) → Owns ms xs own → Owns ms xs other → Owns ms xs (own ++ other)
  owns_both ms xs [] other a b = b
  owns_both ms xs (p ∷ ps) other a b = (a.0, owns_both ms xs ps other a.1 b)

  -- a number above all makers has made nothing
  pub made_none : (n : ℕ) (ms : List ℕ) (xs : List I) → AllBelow n ms → made_by n ms xs ≡ []
  made_none n [] xs all = refl
  made_none n (m ∷ ms) [] all = refl
  made_none n (m ∷ ms) (x ∷ xs) all =
      let apart : same n m ≡ 0 = apart_below m n all.0 in
      ap (λ (k : ℕ). chosen k (made_by n ms xs) (x ∷ made_by n ms xs)) apart ∙ made_none n ms xs all.1
