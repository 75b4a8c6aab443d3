-- Digits read one after the other.
use Rattle.std.proofs.Common.{◌≡◌, sym, ℕ, ◌+◌, ◌-◌, ◌*◌, ◌^◌, ◌<◌, ◌≤◌, List, [], ◌∷◌, ◌++◌, length, take, get_or, min, refl, ap, ◌∙◌, arith, ◌⊎◌, inl, inr, ℤ, pos, negsuc, Option, None, Some, option_map, Bool, true, false, not, if◌then◌else◌}
use Rattle.std.proofs.lemmas.Bool.{cases_lt}
use Rattle.std.proofs.lemmas.List.{take_more}
use Rattle.registry_text_model.specs.EnumValues.{is_long}
use Rattle.registry_reading_model.specs.Heads.{is_beyond}
use Rattle.registry_reading_model.specs.Kept.{clamped, long_or_zero, greatest}
use Rattle.registry_reading_model.specs.Numbers.{read_on}

read_push : (n : ℕ) (ds : List ℕ) (c : ℕ) → read_on n (ds ++ c ∷ []) ≡ read_on n ds * 10 + (c - 48)
unfolding read_on
read_push n [] c = refl
read_push n (d ∷ ds) c = read_push (n * 10 + (d - 48)) ds c

-- a bound on the way is the bound at the end
sat : (x n m d : ℕ) → n ≡ min x (2 ^ 128 - 1) → m ≡ min (min (n * 10) (2 ^ 128 - 1) + d) (2 ^ 128 - 1) → m ≡ min (x * 10 + d) (2 ^ 128 - 1)
sat x n m d e f = omega (arith, e, f)

pub goes_on : (ds : List ℕ) (i n m d : ℕ) → n ≡ min (read_on 0 (take i ds)) (2 ^ 128 - 1) → i < length ds → d ≡ get_or ds i 0
    → m ≡ min (min (n * 10) (2 ^ 128 - 1) + (d - 48)) (2 ^ 128 - 1) → m ≡ min (read_on 0 (take (i + 1) ds)) (2 ^ 128 - 1)
goes_on ds i n m d before inside here after =
    sat (read_on 0 (take i ds)) n m (d - 48) before after
    ∙ ap (λ k. min k (2 ^ 128 - 1)) (ap (λ b. read_on 0 (take i ds) * 10 + (b - 48)) here ∙ sym (ap (read_on 0) (take_more ds i 0 inside) ∙ read_push 0 (take i ds) (get_or ds i 0)))

pub begins : 0 ≡ min (read_on 0 []) (2 ^ 128 - 1)
unfolding read_on
begins = omega arith

-- what is kept of a number of 128 bits is long where the number is
long_alike : (z : ℤ) → is_long (clamped z) ≡ is_long z
unfolding clamped
long_alike (pos n) = by_size (cases_lt n (2 ^ 127))
  where
    by_size : (n < 2 ^ 127) ⊎ (2 ^ 127 ≤ n) → is_long (pos (min greatest n)) ≡ is_long (pos n)
    by_size (inl low) = let same : min greatest n ≡ n = omega (arith, low) in ap (λ k. is_long (pos k)) same
    by_size (inr high) =
        let kept : is_long (pos (min greatest n)) ≡ false = grind (arith, high) in
        let whole : is_long (pos n) ≡ false = grind (arith, high) in
        kept ∙ sym whole
long_alike (negsuc n) = by_size (cases_lt n (2 ^ 127 - 1))
  where
    by_size : (n < 2 ^ 127 - 1) ⊎ (2 ^ 127 - 1 ≤ n) → is_long (negsuc (min (greatest - 1) n)) ≡ is_long (negsuc n)
    by_size (inl low) = let same : min (greatest - 1) n ≡ n = omega (arith, low) in ap (λ k. is_long (negsuc k)) same
    by_size (inr high) =
        let kept : is_long (negsuc (min (greatest - 1) n)) ≡ false = grind (arith, high) in
        let whole : is_long (negsuc n) ≡ false = grind (arith, high) in
        kept ∙ sym whole

-- a long number is kept as it is
small_stays : (z : ℤ) → is_long z ≡ true → clamped z ≡ z
unfolding clamped
small_stays (pos n) is = let low : n < 2 ^ 127 = grind (arith, is) in let same : min greatest n ≡ n = omega (arith, low) in ap pos same
small_stays (negsuc n) is = let low : n < 2 ^ 127 - 1 = grind (arith, is) in let same : min (greatest - 1) n ≡ n = omega (arith, low) in ap negsuc same

long_clamped : (z : ℤ) → long_or_zero (clamped z) ≡ long_or_zero z
unfolding long_or_zero
long_clamped z = by_test (is_long z) refl
  where
    by_test : (b : Bool) → is_long z ≡ b → (if is_long (clamped z) then clamped z else pos 0) ≡ (if is_long z then z else pos 0)
    by_test false is = rw (long_alike z, is) refl
    by_test true is = rw (long_alike z, is) (small_stays z is)

pub long_read : (o : Option ℤ) (z : ℤ) → Some z ≡ option_map clamped o → Some (long_or_zero z) ≡ option_map long_or_zero o
long_read None z is = absurd cc
long_read (Some y) z is = ap (option_map long_or_zero) is ∙ ap Some (long_clamped y)

pub long_none : (o : Option ℤ) → None ≡ option_map clamped o → None ≡ option_map long_or_zero o
long_none None is = refl
long_none (Some y) is = absurd cc

pub beyond_some : (o : Option ℤ) (z : ℤ) → Some z ≡ option_map clamped o → not (is_long z) ≡ is_beyond o
beyond_some None z is = absurd cc
beyond_some (Some y) z is = ap is_beyond is ∙ ap not (long_alike y)

pub beyond_none : (o : Option ℤ) → None ≡ option_map clamped o → false ≡ is_beyond o
beyond_none None is = refl
beyond_none (Some y) is = absurd cc
