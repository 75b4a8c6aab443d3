-- Any number of them, and others behind separators: the readings that are recursive agree with their relations.
use Rattle.std.proofs.Common.{◌≡◌, ℕ, zero, suc, ◌<◌, ◌≤◌, Bool, true, false, not, ◌&&◌, List, [], ◌∷◌, ◌++◌, length, Option, None, Result, Ok}
use Rattle.std.proofs.Common.{Err}
use Rattle.std.proofs.Common.{refl, sym, ap, subst, ◌∙◌, ◌⊎◌, inl, inr, length-append, arith}
use Rattle.std.specs.List.{list_all}
use Rattle.grammar_model.specs.Agreement.{Agrees}
use Rattle.grammar_model.specs.Readings.{Reads, next, seq, image, choice, empty, many_at, many}
use Rattle.grammar_model.specs.Relations.{Seq, Image, Either, Empty, Many}
use Rattle.grammar_model.specs.declared.fault.Fault.{Fault}
use Rattle.grammar_model.proofs.Bounded.{Below, HasRoom, below, everywhere, weaken_below, replaced_below, seq_below}
use Rattle.grammar_model.proofs.Choices.{image_below, choice_below, chosen_other}
use Rattle.grammar_model.proofs.Fronts.{apart, fit_both, both_fit}
use Rattle.grammar_model.proofs.Leaves.{always, empty_agrees}

-- a reading that is one step of itself agrees where the step does, as long as each step takes a token
pub recursion : {T X : Type 0} {opens : T → Bool} {ends : X → Option T → Bool} {fits : X → Bool} {r : Reads T X} {P : X → List T → Type 0}
    → (x : X) × (used : List T) × P x used
    → ((bound : ℕ) → Below bound opens ends fits r P → Below (suc bound) opens ends fits r P) → (bound : ℕ) → Below bound opens ends fits r P
recursion some step zero = record {
  sound = λ toks x rest short is. let bad : ⊥ = omega arith in absurd bad;
  complete = λ x used rest short p over. let bad : ⊥ = omega arith in absurd bad;
  halts = λ toks why n short is. let bad : ⊥ = omega arith in absurd bad;
  some = some;
}
recursion some step (suc bound) = step bound (recursion some step bound)

-- ---- what spells a list is over

-- where the last one is over
unfoldable pub last_ends : {T X : Type 0} → (X → Option T → Bool) → List X → Option T → Bool
last_ends ends [] o = true
last_ends ends (x ∷ []) o = ends x o
last_ends ends (x ∷ (y ∷ ys)) o = last_ends ends (y ∷ ys) o

-- and where no other one begins
abbrev pub list_ends : {T X : Type 0} → (Option T → Bool) → (X → Option T → Bool) → List X → Option T → Bool
list_ends c ends xs o = not (c o) && last_ends ends xs o

-- what begins with a token that passes a test that the end does not has a token
pub takes_one : {T X : Type 0} (c : Option T → Bool) (P : X → List T → Type 0) → (c None ≡ false)
    → ((x : X) (used rest : List T) → P x used → c (next (used ++ rest)) ≡ true)
    → (x : X) (used : List T) → P x used → 0 < length used
takes_one c P none first x [] p = let bad : true ≡ false = sym (first x [] [] p) ∙ none in let worse : ⊥ = cc in absurd worse
takes_one c P none first x (t ∷ ts) p = omega arith

-- ---- enough fuel is enough

module _ {T X : Type 0} (step : Reads T X → Reads T X) (at : ℕ → Reads T X) (none : X)
    (next_at : (n : ℕ) (toks : List T) → at (suc n) toks ≡ step (at n) toks)
    (at_end : (n : ℕ) → at n [] ≡ Ok (none, [])) (step_end : (more : Reads T X) → step more [] ≡ Ok (none, []))
    (guarded : (more other : Reads T X) (toks : List T) → ((rest : List T) → length rest < length toks → more rest ≡ other rest)
    → step more toks ≡ step other toks) where
  enough : (n m : ℕ) (toks : List T) → length toks ≤ n → length toks ≤ m → at n toks ≡ at m toks
  enough n m [] short also = at_end n ∙ sym (at_end m)
  enough zero m (t ∷ ts) short also = let bad : ⊥ = omega arith in absurd bad
  enough (suc n) zero (t ∷ ts) short also = let bad : ⊥ = omega arith in absurd bad
  enough (suc n) (suc m) (t ∷ ts) short also = next_at n (t ∷ ts)
      ∙ (guarded (at n) (at m) (t ∷ ts) (λ rest shorter. enough n m rest (omega arith) (omega arith)) ∙ sym (next_at m (t ∷ ts)))

  -- with a token of fuel for each token of the text a reading is one step of itself
  pub unrolled : (toks : List T) → at (length toks) toks ≡ step (λ us. at (length us) us) toks
  unrolled [] = at_end 0 ∙ sym (step_end (λ us. at (length us) us))
  unrolled (t ∷ ts) = next_at (length ts) (t ∷ ts)
      ∙ guarded (at (length ts)) (λ us. at (length us) us) (t ∷ ts) (λ rest shorter. enough (length ts) (length rest) rest (omega arith) (omega arith))

-- a reading behind another one, by what is left there
pub seq_same : {T X Y : Type 0} (r : Reads T X) (more other : Reads T Y) (toks : List T)
    → ((x : X) (rest : List T) → r toks ≡ Ok (x, rest) → more rest ≡ other rest) → seq r more toks ≡ seq r other toks
seq_same {T} {X} r more other toks same = of_first (r toks) refl
  where
    of_first : (read : Result (X × List T) Fault) → r toks ≡ read → seq r more toks ≡ seq r other toks
    of_first (Ok z) is =
        let behind : more z.1 ≡ other z.1 = same z.0 z.1 is in
        rw (is, behind) refl
    of_first (Err e) is = rw is refl

pub image_same : {T X Y : Type 0} (g : X → Y) (r s : Reads T X) (toks : List T) → r toks ≡ s toks → image g r toks ≡ image g s toks
image_same g r s toks same = rw same refl

pub choice_same : {T X : Type 0} (c : Option T → Bool) (r s other : Reads T X) (toks : List T) → r toks ≡ s toks
    → choice c r other toks ≡ choice c s other toks
choice_same c r s other toks same = rw same refl

-- ---- any number of them

module _ {T X : Type 0} (c : Option T → Bool) (r : Reads T X) (none : c None ≡ false)
    (shrinks : (toks : List T) (x : X) (rest : List T) → r toks ≡ Ok (x, rest) → length rest < length toks) where
  -- a list is read by one step and the rest of the list
  pub many_unrolled : (toks : List T) → many c r toks ≡ choice c (image (λ z. z.0 ∷ z.1) (seq r (many c r))) (empty []) toks
  unfolding many_at
  many_unrolled = unrolled step (λ n. many_at n c r) [] next_at at_end step_end guarded
    where
      step : Reads T (List X) → Reads T (List X)
      step more = choice c (image (λ z. z.0 ∷ z.1) (seq r more)) (empty [])

      next_at : (n : ℕ) (toks : List T) → many_at (suc n) c r toks ≡ step (many_at n c r) toks
      next_at n toks = refl

      step_end : (more : Reads T (List X)) → step more [] ≡ Ok ([], [])
      step_end more = chosen_other c (image (λ z. z.0 ∷ z.1) (seq r more)) (empty []) [] none

      at_end : (n : ℕ) → many_at n c r [] ≡ Ok ([], [])
      at_end zero = refl
      at_end (suc n) = step_end (many_at n c r)

      guarded : (more other : Reads T (List X)) (toks : List T) → ((rest : List T) → length rest < length toks → more rest ≡ other rest)
          → step more toks ≡ step other toks
      guarded more other toks same = choice_same c (image (λ z. z.0 ∷ z.1) (seq r more)) (image (λ z. z.0 ∷ z.1) (seq r other)) (empty []) toks
          (image_same (λ z. z.0 ∷ z.1) (seq r more) (seq r other) toks (seq_same r more other toks (λ x rest is. same rest (shrinks toks x rest is))))

module _ {T X : Type 0} {opens : T → Bool} {ends : X → Option T → Bool} {fits : X → Bool} {r : Reads T X} {P : X → List T → Type 0} where
  -- what is read is shorter by what spells it
  pub shrinks_by : Agrees opens ends fits r P → ((x : X) (used : List T) → P x used → 0 < length used)
      → (toks : List T) (x : X) (rest : List T) → r toks ≡ Ok (x, rest) → length rest < length toks
  shrinks_by g takes toks x rest is =
      let a = g.sound toks x rest is in
      let some = takes x a.0 a.2 in
      let e : length toks ≡ length (a.0 ++ rest) = ap length a.1 in
      let d = length-append a.0 rest in
      omega arith

not_true : (b : Bool) → not b ≡ true → b ≡ false
not_true true e = let bad : ⊥ = cc in absurd bad
not_true false e = refl

not_false : (b : Bool) → b ≡ false → not b ≡ true
not_false b e = rw e refl

module _ {T X : Type 0} (c : Option T → Bool) (ends : X → Option T → Bool) (P : X → List T → Type 0)
    (first : (x : X) (used rest : List T) → P x used → c (next (used ++ rest)) ≡ true) (goes : (x : X) (o : Option T) → c o ≡ true → ends x o ≡ true) where
  pub many_first : (x : X) (xs : List X) (used rest : List T) → Many P (x ∷ xs) used → c (next (used ++ rest)) ≡ true
  unfolding Many
  many_first x xs used rest p = ap (λ k. c (next k)) (apart used p.0 p.1 rest p.2) ∙ first x p.0 (p.1 ++ rest) p.3

  -- where one and others behind it are over
  pub in_list : (x : X) (xs : List X) (q rest : List T) → Many P xs q → list_ends c ends (x ∷ xs) (next rest) ≡ true
      → (ends x (next (q ++ rest)) ≡ true) × (list_ends c ends xs (next rest) ≡ true)
  unfolding Many last_ends
  in_list x [] q rest p over =
      let o = both_fit (not (c (next rest))) (ends x (next rest)) over in
      (ap (λ k. ends x (next (k ++ rest))) p ∙ o.1, fit_both (not (c (next rest))) true o.0 refl)
  in_list x (y ∷ ys) q rest p over = (goes x (next (q ++ rest)) (many_first y ys q rest p), over)

  pub out_list : (x : X) (xs : List X) (q rest : List T) → Many P xs q → ends x (next (q ++ rest)) ≡ true → list_ends c ends xs (next rest) ≡ true
      → list_ends c ends (x ∷ xs) (next rest) ≡ true
  unfolding Many last_ends
  out_list x [] q rest p one_over over =
      let o = both_fit (not (c (next rest))) true over in
      fit_both (not (c (next rest))) (ends x (next rest)) o.0 (ap (λ k. ends x (next (k ++ rest))) (sym p) ∙ one_over)
  out_list x (y ∷ ys) q rest p one_over over = over

  -- a list is one and others, or none
  pub to_many : (xs : List X) (used : List T) → Either (Image (λ (z : X × List X). z.0 ∷ z.1) (Seq P (Many P))) (Empty []) xs used → Many P xs used
  unfolding Many
  to_many xs used (inl p) =
      let here : Many P ((p.0).0 ∷ (p.0).1) used = p.2 in
      subst (λ k. Many P k used) (sym p.1) here
  to_many xs used (inr p) =
      let here : Many P [] used = p.1 in
      subst (λ k. Many P k used) (sym p.0) here

  pub from_many : (xs : List X) (used : List T) → Many P xs used → Either (Image (λ (z : X × List X). z.0 ∷ z.1) (Seq P (Many P))) (Empty []) xs used
  unfolding Many
  from_many [] used p = inr (refl, p)
  from_many (x ∷ xs) used p = inl ((x, xs), refl, p)

module _ {T X : Type 0} {opens : T → Bool} {ends : X → Option T → Bool} {fits : X → Bool} {r : Reads T X} {P : X → List T → Type 0} where
  -- the test passes where one begins, and not at the end; one is over where the test passes
  pub many_agrees : (c : Option T → Bool) → Agrees opens ends fits r P → (c None ≡ false)
      → ((x : X) (used rest : List T) → P x used → c (next (used ++ rest)) ≡ true)
      → ((x : X) (o : Option T) → c o ≡ true → ends x o ≡ true) → Agrees opens (list_ends c ends) (list_all fits) (many c r) (Many P)
  unfolding Many last_ends
  many_agrees c g none first goes = everywhere (recursion some step)
    where
      takes : (x : X) (used : List T) → P x used → 0 < length used
      takes = takes_one c P none first

      some : (xs : List X) × (used : List T) × Many P xs used
      some = ([], [], refl)

      room : HasRoom (list_all fits) (Many P)
      room = ([], [], refl, refl)

      ends_none : (b : Bool) → (not b && true) ≡ true → b ≡ false
      ends_none true e = let bad : ⊥ = cc in absurd bad
      ends_none false e = refl

      ends_some : (b : Bool) → b ≡ false → (not b && true) ≡ true
      ends_some b e = rw e refl

      other : (xs : List X) (used rest : List T) → Empty [] xs used → list_ends c ends xs (next rest) ≡ true
          → Image (λ (z : X × List X). z.0 ∷ z.1) (Seq P (Many P)) xs used ⊎ ((c (next (used ++ rest)) ≡ false) × (always {T = T} xs (next rest) ≡ true))
      other xs used rest p over =
          let here : list_ends c ends [] (next rest) ≡ true = subst (λ k. list_ends c ends k (next rest) ≡ true) p.0 over in
          inr (ap (λ k. c (next (k ++ rest))) p.1 ∙ ends_none (c (next rest)) here, refl)

      back : (xs : List X) (used rest : List T) → Empty [] xs used → c (next (used ++ rest)) ≡ false → always {T = T} xs (next rest) ≡ true
          → list_ends c ends xs (next rest) ≡ true
      back xs used rest p off any =
          let here : list_ends c ends [] (next rest) ≡ true = ends_some (c (next rest)) (ap (λ k. c (next (k ++ rest))) (sym p.1) ∙ off) in
          subst (λ k. list_ends c ends k (next rest) ≡ true) (sym p.0) here

      first_of_step : (xs : List X) (used rest : List T) → Image (λ (z : X × List X). z.0 ∷ z.1) (Seq P (Many P)) xs used → c (next (used ++ rest)) ≡ true
      first_of_step xs used rest p = let q = p.2 in ap (λ k. c (next k)) (apart used q.0 q.1 rest q.2) ∙ first (p.0).0 q.0 (q.1 ++ rest) q.3

      step : (bound : ℕ) → Below bound opens (list_ends c ends) (list_all fits) (many c r) (Many P)
          → Below (suc bound) opens (list_ends c ends) (list_all fits) (many c r) (Many P)
      step bound h =
          replaced_below (many_unrolled c r none (shrinks_by g takes))
          (weaken_below
          (choice_below c
          (image_below (λ z. z.0 ∷ z.1) (list_ends c ends) (list_all fits)
          (seq_below (λ z o. list_ends c ends (z.0 ∷ z.1) o) (below (suc bound) g) h (inl room)
          (λ x p q is short. let e = length-append p q in let d = takes x p is in omega arith)
          (λ x xs q rest p over. in_list c ends P first goes x xs q rest p over)
          (λ x xs q rest p one_over over. out_list c ends P first goes x xs q rest p one_over over))
          (λ z used p o. refl) (λ z used p. refl))
          (below (suc bound) (empty_agrees opens (list_all fits) [] refl))
          first_of_step other back)
          (to_many c ends P first goes) (from_many c ends P first goes))
