-- The lines of a text, one after the other.
use Rattle.std.proofs.Common.{◌≡◌, ◌≢◌, ℕ, ◌+◌, ◌<◌, ◌≤◌, suc, Bool, true, false, cond, List, [], ◌∷◌, length, take, drop, refl, sym, ap, ◌∙◌, arith, ◌==◌, ◌||◌}
use Rattle.std.proofs.Common.{None, Some, nat_lt}
use Rattle.std.proofs.Common.{true≢false, subst}
use Rattle.std.proofs.lemmas.Bool.Decides.{Decides-ltb}
use Rattle.std.proofs.lemmas.List.{drop-drop, take_all, drop_all}
use Rattle.std.specs.List.{position, position_or_len}
use Rattle.plan_model.specs.PlanText.{lines_of, behind_blanks}

-- a byte that ends no line stands in front of the first line
lines_cons : (c : ℕ) (cs l : List ℕ) (ls : List (List ℕ)) → (c == 10) ≡ false → lines_of cs ≡ l ∷ ls → lines_of (c ∷ cs) ≡ (c ∷ l) ∷ ls
unfolding lines_of
lines_cons c cs l ls other is = rw (other, is) refl

line_ends : (c : ℕ) (cs : List ℕ) → (c == 10) ≡ true → lines_of (c ∷ cs) ≡ [] ∷ lines_of cs
unfolding lines_of
line_ends c cs ends = rw ends refl

line_alone : (c : ℕ) → (c == 10) ≡ false → lines_of (c ∷ []) ≡ (c ∷ []) ∷ []
unfolding lines_of
line_alone c other = rw other refl

no_lines : lines_of [] ≡ []
unfolding lines_of
no_lines = refl

abbrev pub until : List ℕ → ℕ
until bytes = position_or_len (λ b. b == 10) bytes

abbrev SplitsAt : List ℕ → ℕ → Type 0
SplitsAt bytes n = lines_of bytes ≡ take n bytes ∷ lines_of (drop (suc n) bytes)

split_end : (c : ℕ) (cs : List ℕ) → (c == 10) ≡ true → SplitsAt (c ∷ cs) 0
split_end c cs e = line_ends c cs e

split_last : (c : ℕ) → (c == 10) ≡ false → SplitsAt (c ∷ []) 1
split_last c e = line_alone c e ∙ ap (λ ls. (c ∷ []) ∷ ls) (sym no_lines)

split_more : (c d : ℕ) (ds : List ℕ) (n : ℕ) → (c == 10) ≡ false → SplitsAt (d ∷ ds) n → SplitsAt (c ∷ (d ∷ ds)) (suc n)
split_more c d ds n e splits = lines_cons c (d ∷ ds) (take n (d ∷ ds)) (lines_of (drop (suc n) (d ∷ ds))) e splits

one : (c : ℕ) (b : Bool) → (c == 10) ≡ b → SplitsAt (c ∷ []) (until (c ∷ []))
one c true e = let here : until (c ∷ []) ≡ 0 = rw e refl in subst (SplitsAt (c ∷ [])) (sym here) (split_end c [] e)
one c false e = let here : until (c ∷ []) ≡ 1 = rw e refl in subst (SplitsAt (c ∷ [])) (sym here) (split_last c e)

many : (c d : ℕ) (ds : List ℕ) (b : Bool) → (c == 10) ≡ b → SplitsAt (d ∷ ds) (until (d ∷ ds)) → SplitsAt (c ∷ (d ∷ ds)) (until (c ∷ (d ∷ ds)))
many c d ds true e splits = let here : until (c ∷ (d ∷ ds)) ≡ 0 = rw e refl in subst (SplitsAt (c ∷ (d ∷ ds))) (sym here) (split_end c (d ∷ ds) e)
many c d ds false e splits =
    let here : until (c ∷ (d ∷ ds)) ≡ 1 + until (d ∷ ds) = rw e refl in
    let next : 1 + until (d ∷ ds) ≡ suc (until (d ∷ ds)) = omega arith in
    subst (SplitsAt (c ∷ (d ∷ ds))) (sym (here ∙ next)) (split_more c d ds (until (d ∷ ds)) e splits)

pub split_at_line : (c : ℕ) (cs : List ℕ) → SplitsAt (c ∷ cs) (until (c ∷ cs))
split_at_line c [] = one c (c == 10) refl
split_at_line c (d ∷ ds) = many c d ds (c == 10) refl (split_at_line d ds)

place_is : (n m i : ℕ) → cond (nat_lt n m) (Some n) None ≡ Some i → n ≡ i
place_is n m i at = by (nat_lt n m) at
  where
    by : (b : Bool) → cond b (Some n) None ≡ Some i → n ≡ i
    by true e = cc
    by false e = let bad : ⊥ = cc in absurd bad

past_all : (n m : ℕ) → cond (nat_lt n m) (Some n) None ≡ None → m ≤ n
past_all n m none = by (nat_lt n m) refl none
  where
    by : (b : Bool) → nat_lt n m ≡ b → cond b (Some n) None ≡ None → m ≤ n
    by true e at = let bad : ⊥ = cc in absurd bad
    by false e at = let no_less : ¬ (n < m) = λ l. true≢false (sym ((Decides-ltb n m).1 l) ∙ e) in omega (arith, no_less)

pub line_before : (bytes : List ℕ) (i : ℕ) (line rest behind : List ℕ) → position (λ b. b == 10) bytes ≡ Some i → line ≡ take i bytes → rest ≡ drop i bytes → behind ≡ drop 1 rest
    → lines_of bytes ≡ line ∷ lines_of behind
line_before [] i line rest behind at front back tail = let bad : ⊥ = cc in absurd bad
line_before (c ∷ cs) i line rest behind at front back tail =
    let place : until (c ∷ cs) ≡ i = place_is (until (c ∷ cs)) (length (c ∷ cs)) i at in
    let next : i + 1 ≡ suc i = omega arith in
    let cut : drop (suc i) (c ∷ cs) ≡ behind = sym (tail ∙ ap (drop 1) back ∙ drop-drop 1 i (c ∷ cs) ∙ ap (λ n. drop n (c ∷ cs)) next) in
    let first : take (until (c ∷ cs)) (c ∷ cs) ≡ line = ap (λ n. take n (c ∷ cs)) place ∙ sym front in
    let others : lines_of (drop (suc (until (c ∷ cs))) (c ∷ cs)) ≡ lines_of behind = ap (λ n. lines_of (drop (suc n) (c ∷ cs))) place ∙ ap lines_of cut in
    split_at_line c cs ∙ (λ j. first j ∷ others j)

pub line_last : (bytes : List ℕ) → position (λ b. b == 10) bytes ≡ None → bytes ≢ [] → lines_of bytes ≡ bytes ∷ lines_of []
line_last [] none some = absurd (some refl)
line_last (c ∷ cs) none some =
    let past : length (c ∷ cs) ≤ until (c ∷ cs) = past_all (until (c ∷ cs)) (length (c ∷ cs)) none in
    let further : length (c ∷ cs) ≤ suc (until (c ∷ cs)) = omega (arith, past) in
    let first : take (until (c ∷ cs)) (c ∷ cs) ≡ c ∷ cs = take_all (until (c ∷ cs)) (c ∷ cs) past in
    let others : lines_of (drop (suc (until (c ∷ cs))) (c ∷ cs)) ≡ lines_of [] = ap lines_of (drop_all (suc (until (c ∷ cs))) (c ∷ cs) further) in
    split_at_line c cs ∙ (λ j. first j ∷ others j)

pub cons_some : {xs ys : List ℕ} {y : ℕ} → xs ≡ y ∷ ys → xs ≢ []
cons_some is none = absurd cc

-- ---- blanks in front

pub blank_ends : (rest cs target : List ℕ) (c : ℕ) → rest ≡ c ∷ cs → false ≡ ((c == 32) || (c == 9)) → behind_blanks rest ≡ target → rest ≡ target
unfolding behind_blanks
blank_ends rest cs target c cut other so_far = let same : behind_blanks rest ≡ rest = rw (cut, ← other) refl in sym same ∙ so_far

pub blank_goes : (rest cs target : List ℕ) (c : ℕ) → rest ≡ c ∷ cs → true ≡ ((c == 32) || (c == 9)) → behind_blanks rest ≡ target → behind_blanks cs ≡ target
unfolding behind_blanks
blank_goes rest cs target c cut blank so_far = let same : behind_blanks rest ≡ behind_blanks cs = rw (cut, ← blank) refl in sym same ∙ so_far

pub blank_none : (rest target : List ℕ) → rest ≡ [] → behind_blanks rest ≡ target → rest ≡ target
unfolding behind_blanks
blank_none rest target none so_far = let same : behind_blanks rest ≡ rest = rw none refl in sym same ∙ so_far
