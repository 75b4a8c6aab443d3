-- As many levels as a text has bytes read as more do.
use Rattle.std.proofs.Common.{◌≡◌, ℕ, zero, suc, ◌≤◌, Bool, true, false, List, [], ◌∷◌, ◌++◌, length, length-append, Option, None, Some}
use Rattle.std.proofs.Common.{refl, sym, ap, ◌∙◌, codes, arith}
use Rattle.uno_model.specs.Entities.{Entity}
use Rattle.uno_model.specs.Names.{begins_identifier, goes_on_identifier}
use Rattle.literal_model.specs.Shapes.{run_of, behind_run}
use Rattle.literal_model.proofs.ScanLaws.{front_rest}
use Rattle.plan_model.specs.Lines.{Term, Terms, operation}
use Rattle.plan_model.specs.PlanText.{term_text}
use Rattle.plan_model.specs.declared.operation.Operation.{Operation}
use Rattle.plan_model.specs.declared.operation.Operation.TheVariants.{Add, Sub}
use Rattle.plan_reading_model.specs.Parts.{on_some, behind, type_at}
use Rattle.plan_reading_model.specs.TermReading.{Reads, cast_value, cast_of, behind_term}
use Rattle.plan_reading_model.specs.TermReading.{terms_on, elements_at, members_at, second_operand, operands_at}
use Rattle.plan_reading_model.specs.TermReading.{behind_word, letters_at, term_step, term_within, term_at}
use Rattle.plan_reading_model.proofs.PartRuns.{behind_back}
use Rattle.plan_reading_model.proofs.PartNames.{begun_goes_on}
use Rattle.plan_reading_model.proofs.PartTypes.{type_back}
use Rattle.plan_reading_model.proofs.TermForth.{none_of_nothing}
use Rattle.plan_reading_model.proofs.TermBack.{within_back}
use Rattle.plan_reading_model.proofs.TermStepBack.{IsSound}

-- two readings read texts of at most so many bytes alike
abbrev pub Agree : ℕ → Reads Term → Reads Term → Type 0
Agree k read other = (bytes : List ℕ) → length bytes ≤ k → read bytes ≡ other bytes

-- no more stands behind what is read than stood in front
abbrev pub Shrinks : Reads Term → Type 0
Shrinks read = (bytes : List ℕ) (x : Term × List ℕ) → read bytes ≡ Some x → length x.1 ≤ length bytes

behind_size : (bytes front rest : List ℕ) → bytes ≡ front ++ rest → length rest ≤ length bytes
behind_size bytes front rest e =
    let size = ap length e ∙ length-append front rest in omega (arith, size)

pub sound_shrinks : (reg : List Entity) (read : Reads Term) → IsSound reg read → Shrinks read
sound_shrinks reg read sound bytes x e = behind_size bytes (term_text x.0) x.1 (sound bytes x e).1

-- what goes on alike from what there is
pub alike : {X Y : Type 0} (o : Option X) (f g : X → Option Y) → ((x : X) → o ≡ Some x → f x ≡ g x) → on_some o f ≡ on_some o g
alike None f g same = refl
alike (Some x) f g same = same x refl

-- ---- terms with commas between them

module _ (k : ℕ) (read other : Reads Term) (same : Agree k read other) (shrinks : Shrinks other) where
  behind_term_alike : (close : ℕ) (f g : Reads Terms) (t : Term) (rest : List ℕ) → length rest ≤ k
      → ((bytes : List ℕ) → length bytes ≤ k → f bytes ≡ g bytes) → behind_term close f (t, rest) ≡ behind_term close g (t, rest)
  behind_term_alike close f g t [] long inner = refl
  behind_term_alike close f g t (c ∷ cs) long inner = rw (inner cs (omega (arith, long))) refl

  terms_alike : (close most : ℕ) (bytes : List ℕ) → length bytes ≤ k → terms_on most read close bytes ≡ terms_on most other close bytes
  unfolding terms_on
  terms_alike close zero bytes long = refl
  terms_alike close (suc most) bytes long =
      let inner : (b : List ℕ) → length b ≤ k → terms_on most read close b ≡ terms_on most other close b = λ b short. terms_alike close most b short in
      ap (λ o. on_some o (behind_term close (terms_on most read close))) (same bytes long)
      ∙ alike (other bytes) (behind_term close (terms_on most read close)) (behind_term close (terms_on most other close))
      (λ x e. let less = shrinks bytes x e in behind_term_alike close (terms_on most read close) (terms_on most other close) x.0 x.1 (omega (arith, less, long)) inner)

  elements_alike : (bytes : List ℕ) → length bytes ≤ k → elements_at read bytes ≡ elements_at other bytes
  unfolding elements_at
  elements_alike [] long = refl
  elements_alike (c ∷ cs) long = rw (terms_alike 93 (length (c ∷ cs)) (c ∷ cs) long) refl

  members_alike : (bytes : List ℕ) → length bytes ≤ k → members_at read bytes ≡ members_at other bytes
  unfolding members_at
  members_alike bytes long = rw (terms_alike 125 (length bytes) bytes long) refl

  -- ---- types and operations

  cast_value_alike : (kind rest : List ℕ) → length rest ≤ k → cast_value read kind rest ≡ cast_value other kind rest
  cast_value_alike kind rest long = rw (same rest long) refl

  cast_alike : (cs : List ℕ) → length cs ≤ k → on_some (type_at cs) (cast_of read) ≡ on_some (type_at cs) (cast_of other)
  cast_alike cs long =
      alike (type_at cs) (cast_of read) (cast_of other)
      (λ x e.
      let type_size = behind_size cs x.0 x.1 (type_back cs x e).1 in
      alike (behind (codes ")") x.1) (cast_value read x.0) (cast_value other x.0)
      (λ rest f.
      let size = behind_size x.1 (codes ")") rest (behind_back (codes ")") x.1 rest f) in
      cast_value_alike x.0 rest (omega (arith, type_size, size, long))))

  operands_alike : (op : Operation) (bytes : List ℕ) → length bytes ≤ k → operands_at read op bytes ≡ operands_at other op bytes
  unfolding operands_at
  operands_alike op bytes long =
      ap (λ o. on_some o (second_operand read op)) (same bytes long)
      ∙ alike (other bytes) (second_operand read op) (second_operand other op)
      (λ x e.
      let less = shrinks bytes x e in
      alike (behind (codes ",") x.1) _ _
      (λ rest f.
      let size = behind_size x.1 (codes ",") rest (behind_back (codes ",") x.1 rest f) in
      let one = same rest (omega (arith, less, size, long)) in
      ap (λ o. on_some o (λ y. on_some (behind (codes ")") y.1) (λ left. Some (operation op x.0 y.0, left)))) one))

  behind_word_alike : (reg : List Entity) (w rest : List ℕ) → length rest ≤ k → behind_word reg read w rest ≡ behind_word reg other w rest
  behind_word_alike reg w [] long = refl
  behind_word_alike reg w (c ∷ cs) long = rw (operands_alike Add cs (omega (arith, long)), operands_alike Sub cs (omega (arith, long))) refl

  letters_alike : (reg : List Entity) (c : ℕ) (cs : List ℕ) → begins_identifier c ≡ true → length cs ≤ k
      → letters_at reg read (c ∷ cs) ≡ letters_at reg other (c ∷ cs)
  unfolding letters_at behind_run
  letters_alike reg c cs begun long =
      let size = behind_size cs (run_of goes_on_identifier cs) (behind_run goes_on_identifier cs) (front_rest goes_on_identifier cs) in
      rw (begun_goes_on c begun) (behind_word_alike reg (run_of goes_on_identifier (c ∷ cs)) (behind_run goes_on_identifier cs) (omega (arith, size, long)))

  -- ---- a level more

  pub step_alike : (reg : List Entity) (bytes : List ℕ) → length bytes ≤ suc k → term_step reg read bytes ≡ term_step reg other bytes
  unfolding term_step
  step_alike reg [] long = refl
  step_alike reg (c ∷ cs) long = by_letters (begins_identifier c) refl (omega (arith, long))
    where
      by_letters : (b : Bool) → begins_identifier c ≡ b → length cs ≤ k → term_step reg read (c ∷ cs) ≡ term_step reg other (c ∷ cs)
      by_letters true begun short = rw (elements_alike cs short, members_alike cs short, cast_alike cs short, letters_alike reg c cs begun short) refl
      by_letters false other_byte short = rw (elements_alike cs short, members_alike cs short, cast_alike cs short, other_byte) refl

-- ---- all levels

levels_agree : (k n m : ℕ) (reg : List Entity) → k ≤ n → k ≤ m → Agree k (term_within n reg) (term_within m reg)
unfolding term_within
levels_agree k n m reg enough enough_too [] long = none_of_nothing n reg ∙ sym (none_of_nothing m reg)
levels_agree zero n m reg enough enough_too (c ∷ cs) long = let bad : ⊥ = omega (arith, long) in absurd bad
levels_agree (suc k) zero m reg enough enough_too (c ∷ cs) long = let bad : ⊥ = omega (arith, enough) in absurd bad
levels_agree (suc k) (suc n) zero reg enough enough_too (c ∷ cs) long = let bad : ⊥ = omega (arith, enough_too) in absurd bad
levels_agree (suc k) (suc n) (suc m) reg enough enough_too (c ∷ cs) long =
    step_alike k (term_within n reg) (term_within m reg) (levels_agree k n m reg (omega (arith, enough)) (omega (arith, enough_too)))
    (sound_shrinks reg (term_within m reg) (within_back m reg)) reg (c ∷ cs) long

pub enough : (reg : List Entity) (most : ℕ) (bytes : List ℕ) → length bytes ≤ most → term_within most reg bytes ≡ term_at reg bytes
unfolding term_at
enough reg most bytes long = levels_agree (length bytes) most (length bytes) reg long (omega arith) bytes (omega arith)
