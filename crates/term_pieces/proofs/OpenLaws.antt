-- What the whole reading gives, step by step: a term begins, and one ends.
use Rattle.std.proofs.Common.{◌≡◌, ℕ, zero, suc, ◌≤◌, true, false, ◌==◌, List, [], ◌∷◌, length, drop, Option, None, Some, refl, sym, ap, ◌∙◌, codes, arith}
use Rattle.std.specs.Str.{bytes_eq}
use Rattle.uno_model.specs.Entities.{Entity}
use Rattle.plan_model.specs.Lines.{Term, Terms, more}
use Rattle.plan_model.specs.Lines as plain
use Rattle.plan_model.specs.declared.operation.Operation.{Operation}
use Rattle.plan_reading_model.specs.Parts.{on_some, behind}
use Rattle.plan_reading_model.specs.TermReading.{Reads, term_at, term_within, term_step, terms_on, behind_term, in_front, cast_value, operands_at, elements_at, members_at, as_elements, as_members}
use Rattle.plan_reading_model.proofs.TermLaws.{enough, term_back}
use Rattle.plan_reading_model.proofs.TermForth.{none_of_nothing}
use Rattle.term_pieces.specs.Pieces.{gathered, put}
use Rattle.term_pieces.specs.Pieces as piece
use Rattle.term_pieces.specs.Opened.{Open, others, made, whole, before, after, comes_of}
use Rattle.term_pieces.specs.Opened as open_term
use Rattle.plan_reading_model.proofs.TermLevels.{Shrinks, alike, step_alike, sound_shrinks}

-- ---- a term by its first byte, with the terms in it read alike

pub shrinks : (reg : List Entity) → Shrinks (term_at reg)
shrinks reg = sound_shrinks reg (term_at reg) (term_back reg)

pub term_fix : (reg : List Entity) (c : ℕ) (cs : List ℕ) → term_at reg (c ∷ cs) ≡ term_step reg (term_at reg) (c ∷ cs)
unfolding term_at term_within
term_fix reg c cs =
    step_alike (length cs) (term_within (length cs) reg) (term_at reg) (λ bytes long. enough reg (length cs) bytes long) (shrinks reg) reg (c ∷ cs) (omega arith)

pub nothing_read : (reg : List Entity) → term_at reg [] ≡ None
unfolding term_at
nothing_read reg = none_of_nothing 0 reg

-- ---- as many terms as there are bytes are enough

module _ (reg : List Entity) (close : ℕ) where
  behind_alike : (k : ℕ) (f g : Reads Terms) (bytes : List ℕ) → length bytes ≤ suc k → ((b : List ℕ) → length b ≤ k → f b ≡ g b)
      → on_some (term_at reg bytes) (behind_term close f) ≡ on_some (term_at reg bytes) (behind_term close g)
  behind_alike k f g bytes long inner =
      alike (term_at reg bytes) (behind_term close f) (behind_term close g) (λ x e. let less = shrinks reg bytes x e in by_rest x.0 x.1 (omega (arith, less, long)))
    where
      by_rest : (t : Term) (rest : List ℕ) → length rest ≤ suc k → behind_term close f (t, rest) ≡ behind_term close g (t, rest)
      by_rest t [] short = refl
      by_rest t (c ∷ cs) short = rw (inner cs (omega (arith, short))) refl

  no_others : (m : ℕ) → terms_on m (term_at reg) close [] ≡ None
  unfolding terms_on
  no_others zero = refl
  no_others (suc m) = rw (nothing_read reg) refl

  as_many : (k m n : ℕ) (bytes : List ℕ) → length bytes ≤ k → k ≤ m → k ≤ n → terms_on m (term_at reg) close bytes ≡ terms_on n (term_at reg) close bytes
  unfolding terms_on
  as_many k m n [] long low low_too = no_others m ∙ sym (no_others n)
  as_many zero m n (c ∷ cs) long low low_too = let bad : ⊥ = omega (arith, long) in absurd bad
  as_many (suc k) zero n (c ∷ cs) long low low_too = let bad : ⊥ = omega (arith, low) in absurd bad
  as_many (suc k) (suc m) zero (c ∷ cs) long low low_too = let bad : ⊥ = omega (arith, low_too) in absurd bad
  as_many (suc k) (suc m) (suc n) (c ∷ cs) long low low_too =
      behind_alike k (terms_on m (term_at reg) close) (terms_on n (term_at reg) close) (c ∷ cs) long
      (λ b short. as_many k m n b short (omega (arith, low)) (omega (arith, low_too)))

  -- terms are the first one, and what stands behind that
  pub others_first : (bytes : List ℕ) → others reg close bytes ≡ on_some (term_at reg bytes) (behind_term close (others reg close))
  unfolding terms_on
  others_first [] = rw (nothing_read reg) refl
  others_first (c ∷ cs) =
      behind_alike (length cs) (terms_on (length cs) (term_at reg) close) (others reg close) (c ∷ cs) (omega arith)
      (λ b short. as_many (length b) (length cs) (length b) b (omega arith) short (omega arith))

-- ---- a term begins

pub whole_none : (reg : List Entity) (os : List Open) (done : List Term) → whole reg os done None ≡ None
unfolding whole
whole_none reg [] done = refl
whole_none reg (open_term.elements n ∷ os) done = whole_none reg os (drop n done)
whole_none reg (open_term.members n ∷ os) done = whole_none reg os (drop n done)
whole_none reg (open_term.typed k ∷ os) done = whole_none reg os done
whole_none reg (open_term.left op ∷ os) done = whole_none reg os done
whole_none reg (open_term.right op ∷ os) [] = refl
whole_none reg (open_term.right op ∷ os) (t ∷ done) = whole_none reg os done

-- what is read through a bracket: the first term, and the others behind it
through : (mk : Terms → Term) (f : Term × List ℕ → Option (Terms × List ℕ)) (o : Option (Term × List ℕ)) → on_some (on_some o f) (made mk) ≡ on_some o (λ y. on_some (f y) (made mk))
through mk f None = refl
through mk f (Some y) = refl

in_front_made : (mk : Terms → Term) (t : Term) (r : Option (Terms × List ℕ)) → on_some (in_front t r) (made mk) ≡ on_some r (made (λ ts. mk (more t ts)))
in_front_made mk t None = refl
in_front_made mk t (Some r) = refl

behind_comma : (mk : Terms → Term) (t : Term) (f : Term × List ℕ → Option (Terms × List ℕ)) (o : Option (Term × List ℕ))
    → on_some (in_front t (on_some o f)) (made mk) ≡ on_some o (λ y. on_some (f y) (made (λ ts. mk (more t ts))))
behind_comma mk t f None = refl
behind_comma mk t f (Some y) = in_front_made mk t (f y)

module _ (reg : List Entity) (os : List Open) (done : List Term) where
  -- none begins there
  pub none_begins : (bytes : List ℕ) → term_at reg bytes ≡ None → comes_of reg os done (before bytes) ≡ None
  unfolding comes_of
  none_begins bytes e = ap (whole reg os done) e ∙ whole_none reg os done

  -- one that holds no other
  pub one_read : (bytes rest : List ℕ) (t : Term) → term_at reg bytes ≡ Some (t, rest) → comes_of reg os done (before bytes) ≡ comes_of reg os (t ∷ done) (after rest)
  unfolding comes_of
  one_read bytes rest t e = ap (whole reg os done) e

  pub members_begin : (cs : List ℕ) → whole reg os done (members_at (term_at reg) cs) ≡ comes_of reg (open_term.members 0 ∷ os) done (before cs)
  unfolding members_at gathered comes_of whole
  members_begin cs = ap (whole reg os done) (ap (λ o. on_some o as_members) (others_first reg 125 cs) ∙ through plain.members (behind_term 125 (others reg 125)) (term_at reg cs))

  pub elements_begin : (c : ℕ) (cs : List ℕ) → (c == 93) ≡ false → whole reg os done (elements_at (term_at reg) (c ∷ cs)) ≡ comes_of reg (open_term.elements 0 ∷ os) done (before (c ∷ cs))
  unfolding elements_at gathered comes_of whole
  elements_begin c cs other =
      rw other (ap (whole reg os done) (ap (λ o. on_some o as_elements) (others_first reg 93 (c ∷ cs)) ∙ through plain.elements (behind_term 93 (others reg 93)) (term_at reg (c ∷ cs))))

  pub no_elements : (c : ℕ) (cs : List ℕ) → (c == 93) ≡ true → whole reg os done (elements_at (term_at reg) (c ∷ cs)) ≡ comes_of reg os (put done (piece.elements 0)) (after cs)
  unfolding elements_at gathered put comes_of
  no_elements c cs same = rw same refl

  pub typed_begins : (k rest : List ℕ) → bytes_eq k (codes "void") ≡ false → bytes_eq k (codes "any") ≡ false
      → whole reg os done (cast_value (term_at reg) k rest) ≡ comes_of reg (open_term.typed k ∷ os) done (before rest)
  unfolding comes_of whole
  typed_begins k rest value other = rw (value, other) refl

  pub operation_begins : (op : Operation) (bytes : List ℕ) → whole reg os done (operands_at (term_at reg) op bytes) ≡ comes_of reg (open_term.left op ∷ os) done (before bytes)
  unfolding operands_at comes_of whole
  operation_begins op bytes = refl

-- ---- a term ends

module _ (reg : List Entity) (os : List Open) (done : List Term) (t : Term) where
  pub elements_end : (n : ℕ) (cs : List ℕ) → comes_of reg (open_term.elements n ∷ os) (t ∷ done) (after (93 ∷ cs)) ≡ comes_of reg os (put (t ∷ done) (piece.elements (suc n))) (after cs)
  unfolding gathered put comes_of whole
  elements_end n cs = refl

  pub members_end : (n : ℕ) (cs : List ℕ) → comes_of reg (open_term.members n ∷ os) (t ∷ done) (after (125 ∷ cs)) ≡ comes_of reg os (put (t ∷ done) (piece.members (suc n))) (after cs)
  unfolding gathered put comes_of whole
  members_end n cs = refl

  pub elements_go_on : (n : ℕ) (cs : List ℕ)
      → comes_of reg (open_term.elements n ∷ os) (t ∷ done) (after (44 ∷ cs)) ≡ comes_of reg (open_term.elements (suc n) ∷ os) (t ∷ done) (before cs)
  unfolding gathered comes_of whole
  elements_go_on n cs =
      ap (whole reg os (drop n done))
      (ap (λ o. on_some (in_front t o) (made (λ ts. plain.elements (gathered n done ts)))) (others_first reg 93 cs)
      ∙ behind_comma (λ ts. plain.elements (gathered n done ts)) t (behind_term 93 (others reg 93)) (term_at reg cs))

  pub members_go_on : (n : ℕ) (cs : List ℕ)
      → comes_of reg (open_term.members n ∷ os) (t ∷ done) (after (44 ∷ cs)) ≡ comes_of reg (open_term.members (suc n) ∷ os) (t ∷ done) (before cs)
  unfolding gathered comes_of whole
  members_go_on n cs =
      ap (whole reg os (drop n done))
      (ap (λ o. on_some (in_front t o) (made (λ ts. plain.members (gathered n done ts)))) (others_first reg 125 cs)
      ∙ behind_comma (λ ts. plain.members (gathered n done ts)) t (behind_term 125 (others reg 125)) (term_at reg cs))

  -- another byte stands there, or none
  pub elements_lost : (n c : ℕ) (cs : List ℕ) → (c == 93) ≡ false → (c == 44) ≡ false → comes_of reg (open_term.elements n ∷ os) (t ∷ done) (after (c ∷ cs)) ≡ None
  unfolding comes_of whole
  elements_lost n c cs other no_comma = rw (other, no_comma) (whole_none reg os (drop n done))

  pub members_lost : (n c : ℕ) (cs : List ℕ) → (c == 125) ≡ false → (c == 44) ≡ false → comes_of reg (open_term.members n ∷ os) (t ∷ done) (after (c ∷ cs)) ≡ None
  unfolding comes_of whole
  members_lost n c cs other no_comma = rw (other, no_comma) (whole_none reg os (drop n done))

  pub elements_cut : (n : ℕ) → comes_of reg (open_term.elements n ∷ os) (t ∷ done) (after []) ≡ None
  unfolding comes_of whole
  elements_cut n = whole_none reg os (drop n done)

  pub members_cut : (n : ℕ) → comes_of reg (open_term.members n ∷ os) (t ∷ done) (after []) ≡ None
  unfolding comes_of whole
  members_cut n = whole_none reg os (drop n done)

  pub typed_ends : (k rest : List ℕ) → comes_of reg (open_term.typed k ∷ os) (t ∷ done) (after rest) ≡ comes_of reg os (put (t ∷ done) (piece.typed k)) (after rest)
  unfolding put comes_of whole
  typed_ends k rest = refl

  pub left_ends : (op : Operation) (rest behind_mark : List ℕ) → behind (codes ",") rest ≡ Some behind_mark
      → comes_of reg (open_term.left op ∷ os) (t ∷ done) (after rest) ≡ comes_of reg (open_term.right op ∷ os) (t ∷ done) (before behind_mark)
  unfolding comes_of whole
  left_ends op rest behind_mark mark = rw mark refl

  pub left_lost : (op : Operation) (rest : List ℕ) → behind (codes ",") rest ≡ None → comes_of reg (open_term.left op ∷ os) (t ∷ done) (after rest) ≡ None
  unfolding comes_of whole
  left_lost op rest lacks = rw lacks (whole_none reg os done)

  pub right_ends : (op : Operation) (s : Term) (rest behind_mark : List ℕ) → behind (codes ")") rest ≡ Some behind_mark
      → comes_of reg (open_term.right op ∷ os) (t ∷ s ∷ done) (after rest) ≡ comes_of reg os (put (t ∷ s ∷ done) (piece.operation op)) (after behind_mark)
  unfolding put comes_of whole
  right_ends op s rest behind_mark mark = rw mark refl

  pub right_lost : (op : Operation) (s : Term) (rest : List ℕ) → behind (codes ")") rest ≡ None → comes_of reg (open_term.right op ∷ os) (t ∷ s ∷ done) (after rest) ≡ None
  unfolding comes_of whole
  right_lost op s rest lacks = rw lacks (whole_none reg os done)
