-- Words with a point between any two, and the first bytes of a run.
use Rattle.std.proofs.Common.{◌≡◌, ◌≢◌, ℕ, zero, suc, ◌+◌, ◌<◌, ◌==◌, Bool, true, false, List, [], ◌∷◌, ◌++◌, length, take, refl, sym, ap, ◌∙◌, arith, if◌then◌else◌}
use Rattle.std.proofs.Common.{length-append}
use Rattle.std.proofs.lemmas.Bool.{and_parts, and_from, eq-eqb, ne_eqb}
use Rattle.std.specs.List.{list_all}
use Rattle.literal_model.proofs.ScanLaws.{front_rest}
use Rattle.literal_model.specs.Shapes.{behind_letters, behind_word, behind_words, run_of, behind_run}
use Rattle.uno_model.specs.Names.{begins_identifier, goes_on_identifier}

-- ---- words

-- behind a word: a point, and further words
abbrev pub after_word : List ℕ → List ℕ
after_word [] = []
after_word (c ∷ cs) = if c == 46 then behind_words cs else c ∷ cs

word_on : (cs : List ℕ) → behind_word cs ≡ after_word (behind_run goes_on_identifier cs)
unfolding behind_word behind_run
word_on [] = refl
word_on (c ∷ cs) = by_test (goes_on_identifier c) refl (word_on cs)
  where
    by_test : (b : Bool) → goes_on_identifier c ≡ b → behind_word cs ≡ after_word (behind_run goes_on_identifier cs) → behind_word (c ∷ cs) ≡ after_word (behind_run goes_on_identifier (c ∷ cs))
    by_test true passes inner = rw passes inner
    by_test false fails inner = rw fails refl

-- one word was taken, and this is behind it
pub record TakesWord (bytes behind : List ℕ) : Type 0 where
  pub first : ℕ
  pub letters : List ℕ
  pub split : bytes ≡ first ∷ letters
  pub begun : begins_identifier first ≡ true
  pub is : behind ≡ behind_run goes_on_identifier bytes

words_on : (bytes behind : List ℕ) → TakesWord bytes behind → after_word behind ≡ behind_words bytes
unfolding behind_words behind_run
words_on bytes behind at =
    let goes : goes_on_identifier at.first ≡ true = letter_goes_on at.first at.begun in
    let here : behind_words (at.first ∷ at.letters) ≡ behind_word at.letters = rw at.begun refl in
    let run : behind_run goes_on_identifier (at.first ∷ at.letters) ≡ behind_run goes_on_identifier at.letters = rw goes refl in
    sym (ap behind_words at.split ∙ here ∙ word_on at.letters ∙ ap after_word (sym run ∙ ap (behind_run goes_on_identifier) (sym at.split) ∙ sym at.is))
  where
    letter_goes_on : (c : ℕ) → begins_identifier c ≡ true → goes_on_identifier c ≡ true
    letter_goes_on c begun = grind (arith, begun)

pub words_end : (bytes behind : List ℕ) → TakesWord bytes behind → length behind ≡ 0 → behind ≡ behind_words bytes
words_end bytes [] at none = words_on bytes [] at
words_end bytes (c ∷ cs) at none = let bad : ⊥ = omega arith in absurd bad

pub words_stop : (bytes behind next : List ℕ) (p : ℕ) → TakesWord bytes behind → behind ≡ p ∷ next → p ≢ 46 → behind ≡ behind_words bytes
words_stop bytes behind next p at split other =
    let stays : after_word (p ∷ next) ≡ p ∷ next = rw (ne_eqb p 46 other) refl in
    split ∙ sym stays ∙ ap after_word (sym split) ∙ words_on bytes behind at

pub words_next : (bytes behind next : List ℕ) (p : ℕ) → TakesWord bytes behind → behind ≡ p ∷ next → p ≡ 46 → behind_words next ≡ behind_words bytes
words_next bytes behind next p at split point =
    let goes : after_word (p ∷ next) ≡ behind_words next = rw (eq-eqb p 46 point) refl in
    sym goes ∙ ap after_word (sym split) ∙ words_on bytes behind at

pub words_shrink : (bytes behind next : List ℕ) (p : ℕ) → behind ≡ behind_run goes_on_identifier bytes → behind ≡ p ∷ next → length next < length bytes
words_shrink bytes behind next p is split =
    let whole : bytes ≡ run_of goes_on_identifier bytes ++ p ∷ next = front_rest goes_on_identifier bytes ∙ ap (λ r. run_of goes_on_identifier bytes ++ r) (sym is ∙ split) in
    let long : length bytes ≡ length (run_of goes_on_identifier bytes) + length (p ∷ next) = ap length whole ∙ length-append (run_of goes_on_identifier bytes) (p ∷ next) in
    omega (arith, long)

pub letters_end : (ws cs x : List ℕ) → length cs ≡ 0 → behind_letters ws cs ≡ x → cs ≡ x
unfolding behind_letters
letters_end [] [] x none is = is
letters_end (w ∷ ws) [] x none is = is
letters_end ws (c ∷ cs) x none is = let bad : ⊥ = omega arith in absurd bad

-- the first of bytes that pass a test pass it
pub first_pass : (test : ℕ → Bool) (n : ℕ) (bytes front : List ℕ) → front ≡ take n bytes → list_all test bytes ≡ true → list_all test front ≡ true
first_pass test n bytes front is all = ap (list_all test) is ∙ taken n bytes all
  where
    taken : (m : ℕ) (xs : List ℕ) → list_all test xs ≡ true → list_all test (take m xs) ≡ true
    taken zero xs passes = refl
    taken (suc m) [] passes = refl
    taken (suc m) (x ∷ xs) passes = let parts = and_parts (test x) (list_all test xs) passes in and_from (test x) _ parts.0 (taken m xs parts.1)
