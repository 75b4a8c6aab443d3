-- How agreement goes from the parts of a grammar to the whole, a lemma for each combinator.
use Rattle.std.proofs.Common.{◌≡◌, ℕ, Bool, true, false, not, ◌&&◌, List, [], ◌∷◌, ◌++◌, Option, None, Some}
use Rattle.std.proofs.Common.{refl, sym, ap, subst, ◌∙◌, ◌⊎◌, inl, inr, length-append, arith}
use Rattle.std.specs.List.{list_all}
use Rattle.grammar_model.specs.Agreement.{Agrees}
use Rattle.grammar_model.specs.Readings.{Reads, next, seq, image, choice, optional, many, ◌&>◌, ◌<&◌}
use Rattle.grammar_model.specs.Relations.{Seq, Image, Either, Empty, Optional, Many, Separated}
use Rattle.grammar_model.specs.Relations as rel
use Rattle.grammar_model.proofs.Bounded.{Below, HasRoom, IsQuiet, below, everywhere, weaken_below, replaced_below, seq_below}
use Rattle.grammar_model.proofs.Choices.{image_below, choice_below}
use Rattle.grammar_model.proofs.Fronts.{apart, fit_both}
use Rattle.grammar_model.proofs.Leaves.{always, all_fit, empty_agrees}
use Rattle.grammar_model.proofs.Repeats.{list_ends, many_agrees}

-- ---- what a text of a rule begins with

-- the first token of each text, or the one behind it where it is empty, passes a test
abbrev pub StartsWith : {T X : Type 0} → (Option T → Bool) → (X → List T → Type 0) → Type 0
StartsWith {T = T} {X = X} c P = (x : X) (used rest : List T) → P x used → c (next (used ++ rest)) ≡ true

module _ {T X : Type 0} (c : Option T → Bool) where
  pub starts_one : (f : T → Option X) → ((t : T) (x : X) → f t ≡ Some x → c (Some t) ≡ true) → StartsWith c (rel.One f)
  starts_one f passes x used rest p = ap (λ k. c (next (k ++ rest))) p.1 ∙ passes p.0 x p.2

  pub starts_touching : (f : T → Option X) (belongs : T → T → Bool) → ((t : T) (x : X) → f t ≡ Some x → c (Some t) ≡ true)
      → StartsWith c (rel.Touching f belongs)
  starts_touching f belongs passes x used rest p = ap (λ k. c (next (k ++ rest))) p.2 ∙ passes p.0 x p.3

  pub starts_either : (P Q : X → List T → Type 0) → StartsWith c P → StartsWith c Q → StartsWith c (Either P Q)
  starts_either P Q first other x used rest p = elim p [ inl is ↦ first x used rest is | inr is ↦ other x used rest is ]

module _ {T X Y : Type 0} (c : Option T → Bool) where
  pub starts_image : (g : X → Y) (P : X → List T → Type 0) → StartsWith c P → StartsWith c (Image g P)
  starts_image g P first y used rest p = first p.0 used rest p.2

  pub starts_seq : (P : X → List T → Type 0) (Q : Y → List T → Type 0) → StartsWith c P → StartsWith c (Seq P Q)
  starts_seq P Q first z used rest p = ap (λ k. c (next k)) (apart used p.0 p.1 rest p.2) ∙ first z.0 p.0 (p.1 ++ rest) p.3

  pub starts_behind : (P : X → List T → Type 0) (Q : Y → List T → Type 0) → StartsWith c P → StartsWith c (rel.◌&>◌ P Q)
  starts_behind P Q first y used rest p = let q = p.2 in ap (λ k. c (next k)) (apart used q.0 q.1 rest q.2) ∙ first (p.0).0 q.0 (q.1 ++ rest) q.3

  pub starts_before : (P : X → List T → Type 0) (Q : Y → List T → Type 0) → StartsWith c P → StartsWith c (rel.◌<&◌ P Q)
  starts_before P Q first x used rest p = let q = p.2 in ap (λ k. c (next k)) (apart used q.0 q.1 rest q.2) ∙ first (p.0).0 q.0 (q.1 ++ rest) q.3

  -- what may be left out, and what stands behind it
  pub starts_optional : (P : X → List T → Type 0) (Q : Y → List T → Type 0) → StartsWith c P → StartsWith c Q → StartsWith c (Seq (Optional P) Q)
  starts_optional P Q first other (None, y) used rest p =
      ap (λ k. c (next k)) (apart used p.0 p.1 rest p.2 ∙ ap (λ k. k ++ (p.1 ++ rest)) p.3) ∙ other y p.1 rest p.4
  starts_optional P Q first other (Some x, y) used rest p = ap (λ k. c (next k)) (apart used p.0 p.1 rest p.2) ∙ first x p.0 (p.1 ++ rest) p.3

  pub starts_many : (P : X → List T → Type 0) (Q : Y → List T → Type 0) → StartsWith c P → StartsWith c Q → StartsWith c (Seq (Many P) Q)
  unfolding Many
  starts_many P Q first other ([], y) used rest p =
      ap (λ k. c (next k)) (apart used p.0 p.1 rest p.2 ∙ ap (λ k. k ++ (p.1 ++ rest)) p.3) ∙ other y p.1 rest p.4
  starts_many P Q first other (x ∷ xs, y) used rest p =
      let q = p.3 in
      ap (λ k. c (next k)) (apart used p.0 p.1 rest p.2 ∙ apart p.0 q.0 q.1 (p.1 ++ rest) q.2) ∙ first x q.0 (q.1 ++ (p.1 ++ rest)) q.3

-- ---- a rule: a reading and a relation that agree, and a text that keeps the limits

pub record IsRule {T X : Type 0} (opens : T → Bool) (ends : X → Option T → Bool) (fits : X → Bool) (r : Reads T X) (P : X → List T → Type 0) : Type 0 where
  pub agrees : Agrees opens ends fits r P
  pub room : HasRoom fits P

module _ {T X : Type 0} {opens : T → Bool} {ends : X → Option T → Bool} {fits : X → Bool} {r : Reads T X} {P : X → List T → Type 0} where
  -- the same relation in other words
  pub weaken : {Q : X → List T → Type 0} → Agrees opens ends fits r P → ((x : X) (used : List T) → P x used → Q x used)
      → ((x : X) (used : List T) → Q x used → P x used)
      → Agrees opens ends fits r Q
  weaken g to from = everywhere (λ bound. weaken_below (below bound g) to from)

  pub weaken_rule : {Q : X → List T → Type 0} → IsRule opens ends fits r P → ((x : X) (used : List T) → P x used → Q x used)
      → ((x : X) (used : List T) → Q x used → P x used)
      → IsRule opens ends fits r Q
  weaken_rule h to from = record {
    agrees = weaken h.agrees to from;
    room = let a = h.room in (a.0, a.1, to a.0 a.1 a.2, a.3);
  }

  -- the same reading in other words
  pub replaced : {s : Reads T X} → ((toks : List T) → s toks ≡ r toks) → Agrees opens ends fits r P → Agrees opens ends fits s P
  replaced same g = everywhere (λ bound. replaced_below same (below bound g))

  pub replaced_rule : {s : Reads T X} → ((toks : List T) → s toks ≡ r toks) → IsRule opens ends fits r P → IsRule opens ends fits s P
  replaced_rule same h = record { agrees = replaced same h.agrees; room = h.room }

-- ---- what is made of a tree

module _ {T X Y : Type 0} {opens : T → Bool} {endsX : X → Option T → Bool} {fitsX : X → Bool} {r : Reads T X} {P : X → List T → Type 0} where
  pub image_agrees : (g : X → Y) (ends : Y → Option T → Bool) (fits : Y → Bool) → Agrees opens endsX fitsX r P
      → ((x : X) (o : Option T) → ends (g x) o ≡ endsX x o) → ((x : X) → fits (g x) ≡ fitsX x) → Agrees opens ends fits (image g r) (Image g P)
  image_agrees g ends fits h same same_fits = everywhere (λ bound. image_below g ends fits (below bound h) (λ x used p o. same x o) (λ x used p. same_fits x))

  pub image_rule : (g : X → Y) (ends : Y → Option T → Bool) (fits : Y → Bool) → IsRule opens endsX fitsX r P
      → ((x : X) (o : Option T) → ends (g x) o ≡ endsX x o) → ((x : X) → fits (g x) ≡ fitsX x) → IsRule opens ends fits (image g r) (Image g P)
  image_rule g ends fits h same same_fits = record {
    agrees = image_agrees g ends fits h.agrees same same_fits;
    room = let a = h.room in (g a.0, a.1, (a.0, refl, a.2), same_fits a.0 ∙ a.3);
  }

-- ---- the one behind the other

module _ {T X Y : Type 0} {opens : T → Bool} {endsX : X → Option T → Bool} {endsY : Y → Option T → Bool} {fitsX : X → Bool} {fitsY : Y → Bool}
    {r : Reads T X} {s : Reads T Y} {P : X → List T → Type 0} {Q : Y → List T → Type 0} where
  -- with the two conditions when both are over
  pub seq_agrees : (ends : X × Y → Option T → Bool) → Agrees opens endsX fitsX r P → Agrees opens endsY fitsY s Q → HasRoom fitsY Q ⊎ IsQuiet opens P
      → ((x : X) (y : Y) (q rest : List T) → Q y q → ends (x, y) (next rest) ≡ true → (endsX x (next (q ++ rest)) ≡ true) × (endsY y (next rest) ≡ true))
      → ((x : X) (y : Y) (q rest : List T) → Q y q → endsX x (next (q ++ rest)) ≡ true → endsY y (next rest) ≡ true → ends (x, y) (next rest) ≡ true)
      → Agrees opens ends (λ z. fitsX z.0 && fitsY z.1) (seq r s) (Seq P Q)
  seq_agrees ends g h room in_parts out_of = everywhere (λ bound. seq_below ends (below bound g) (below bound h) room
      (λ x p q is short. let e = length-append p q in omega arith) in_parts out_of)

  pub seq_rule : (ends : X × Y → Option T → Bool) → IsRule opens endsX fitsX r P → IsRule opens endsY fitsY s Q
      → ((x : X) (y : Y) (q rest : List T) → Q y q → ends (x, y) (next rest) ≡ true → (endsX x (next (q ++ rest)) ≡ true) × (endsY y (next rest) ≡ true))
      → ((x : X) (y : Y) (q rest : List T) → Q y q → endsX x (next (q ++ rest)) ≡ true → endsY y (next rest) ≡ true → ends (x, y) (next rest) ≡ true)
      → IsRule opens ends (λ z. fitsX z.0 && fitsY z.1) (seq r s) (Seq P Q)
  seq_rule ends g h in_parts out_of = record {
    agrees = seq_agrees ends g.agrees h.agrees (inl h.room) in_parts out_of;
    room =
        let a = g.room in
        let b = h.room in
        ((a.0, b.0), a.1 ++ b.1, (a.1, b.1, refl, a.2, b.2), fit_both (fitsX a.0) (fitsY b.0) a.3 b.3);
  }

  -- where the first is over wherever the second begins
  pub then_agrees : Agrees opens endsX fitsX r P → Agrees opens endsY fitsY s Q → HasRoom fitsY Q ⊎ IsQuiet opens P
      → ((x : X) (y : Y) (q rest : List T) → Q y q → endsY y (next rest) ≡ true → endsX x (next (q ++ rest)) ≡ true)
      → Agrees opens (λ z o. endsY z.1 o) (λ z. fitsX z.0 && fitsY z.1) (seq r s) (Seq P Q)
  then_agrees g h room link = seq_agrees (λ z o. endsY z.1 o) g h room (λ x y q rest p over. (link x y q rest p over, over))
      (λ x y q rest p one_over over. over)

  pub then_rule : IsRule opens endsX fitsX r P → IsRule opens endsY fitsY s Q
      → ((x : X) (y : Y) (q rest : List T) → Q y q → endsY y (next rest) ≡ true → endsX x (next (q ++ rest)) ≡ true)
      → IsRule opens (λ z o. endsY z.1 o) (λ z. fitsX z.0 && fitsY z.1) (seq r s) (Seq P Q)
  then_rule g h link = seq_rule (λ z o. endsY z.1 o) g h (λ x y q rest p over. (link x y q rest p over, over)) (λ x y q rest p one_over over. over)

fit_before : (b : Bool) → b ≡ (b && true)
fit_before true = refl
fit_before false = refl

-- words and marks: over whatever comes next, and without a limit
module _ {T X W : Type 0} {opens : T → Bool} {ends : X → Option T → Bool} {fits : X → Bool} {r : Reads T X} {w : Reads T W} {P : X → List T → Type 0}
    {M : W → List T → Type 0} where
  pub mark_then : IsRule opens always all_fit w M → IsRule opens ends fits r P → IsRule opens (λ (z : W × X) o. ends z.1 o) (λ z. all_fit z.0 && fits z.1)
      (seq w r) (Seq M P)
  mark_then g h = then_rule g h (λ x y q rest p over. refl)

  pub behind_agrees : Agrees opens always all_fit w M → Agrees opens ends fits r P → HasRoom fits P ⊎ IsQuiet opens M
      → Agrees opens ends fits (w &> r) (rel.◌&>◌ M P)
  behind_agrees g h room = image_agrees (λ (z : W × X). z.1) ends fits (then_agrees g h room (λ x y q rest p over. refl)) (λ z o. refl) (λ z. refl)

  pub behind_rule : IsRule opens always all_fit w M → IsRule opens ends fits r P → IsRule opens ends fits (w &> r) (rel.◌&>◌ M P)
  behind_rule g h = image_rule (λ (z : W × X). z.1) ends fits (mark_then g h) (λ z o. refl) (λ z. refl)

  pub before_agrees : Agrees opens ends fits r P → Agrees opens always all_fit w M → HasRoom {X = W} all_fit M
      → ((x : X) (y : W) (q rest : List T) → M y q → ends x (next (q ++ rest)) ≡ true) → Agrees opens always fits (r <& w) (rel.◌<&◌ P M)
  before_agrees g h room link = image_agrees (λ (z : X × W). z.0) always fits (then_agrees g h (inl room) (λ x y q rest p over. link x y q rest p))
      (λ z o. refl) (λ z. fit_before (fits z.0))

  pub before_rule : IsRule opens ends fits r P → IsRule opens always all_fit w M
      → ((x : X) (y : W) (q rest : List T) → M y q → ends x (next (q ++ rest)) ≡ true) → IsRule opens always fits (r <& w) (rel.◌<&◌ P M)
  before_rule g h link = image_rule (λ (z : X × W). z.0) always fits (then_rule g h (λ x y q rest p over. link x y q rest p)) (λ z o. refl)
      (λ z. fit_before (fits z.0))

-- ---- the one or the other

module _ {T X : Type 0} {opens : T → Bool} {ends : X → Option T → Bool} {fits : X → Bool} {r s : Reads T X} {P Q : X → List T → Type 0} where
  pub choice_agrees : (c : Option T → Bool) → Agrees opens ends fits r P → Agrees opens ends fits s Q → StartsWith c P
      → ((x : X) (used rest : List T) → Q x used → ends x (next rest) ≡ true → c (next (used ++ rest)) ≡ false)
      → Agrees opens ends fits (choice c r s) (Either P Q)
  choice_agrees c g h first other = everywhere (λ bound. choice_below c (below bound g) (below bound h) first
      (λ x used rest q over. inr (other x used rest q over, over)) (λ x used rest q off over. over))

  -- where the other may begin so too, if it is then one of the first
  pub choice_over : (c : Option T → Bool) → Agrees opens ends fits r P → Agrees opens ends fits s Q → StartsWith c P
      → ((x : X) (used rest : List T) → Q x used → ends x (next rest) ≡ true → P x used ⊎ (c (next (used ++ rest)) ≡ false))
      → Agrees opens ends fits (choice c r s) (Either P Q)
  choice_over c g h first other = everywhere (λ bound. choice_below c (below bound g) (below bound h) first
      (λ x used rest q over. elim (other x used rest q over) [ inl both ↦ inl both | inr off ↦ inr (off, over) ]) (λ x used rest q off over. over))

  -- where one of the two has a text that keeps the limits
  pub choice_rule : (c : Option T → Bool) → Agrees opens ends fits r P → IsRule opens ends fits s Q → StartsWith c P
      → ((x : X) (used rest : List T) → Q x used → ends x (next rest) ≡ true → c (next (used ++ rest)) ≡ false)
      → IsRule opens ends fits (choice c r s) (Either P Q)
  choice_rule c g h first other = record {
    agrees = choice_agrees c g h.agrees first other;
    room = let a = h.room in (a.0, a.1, inr a.2, a.3);
  }

  -- where the other is over sooner, by what it knows of its first token
  pub choice_by : {endsQ : X → Option T → Bool} → (c : Option T → Bool) → Agrees opens ends fits r P → Agrees opens endsQ fits s Q → StartsWith c P
      → ((x : X) (used rest : List T) → Q x used → ends x (next rest) ≡ true → (c (next (used ++ rest)) ≡ false) × (endsQ x (next rest) ≡ true))
      → ((x : X) (used rest : List T) → Q x used → c (next (used ++ rest)) ≡ false → endsQ x (next rest) ≡ true → ends x (next rest) ≡ true)
      → Agrees opens ends fits (choice c r s) (Either P Q)
  choice_by c g h first other back = everywhere (λ bound. choice_below c (below bound g) (below bound h) first
      (λ x used rest q over. inr (other x used rest q over)) back)

-- ---- it or nothing

abbrev pub optional_ends : {T X : Type 0} → (Option T → Bool) → (X → Option T → Bool) → Option X → Option T → Bool
optional_ends c ends None o = not (c o)
optional_ends c ends (Some x) o = ends x o

abbrev pub optional_fits : {X : Type 0} → (X → Bool) → Option X → Bool
optional_fits fits None = true
optional_fits fits (Some x) = fits x

not_true : (b : Bool) → not b ≡ true → b ≡ false
not_true true e = let bad : ⊥ = cc in absurd bad
not_true false e = refl

not_false : (b : Bool) → b ≡ false → not b ≡ true
not_false b e = rw e refl

module _ {T X : Type 0} {bound : ℕ} {opens : T → Bool} {ends : X → Option T → Bool} {fits : X → Bool} {r : Reads T X} {P : X → List T → Type 0} where
  pub optional_below : (c : Option T → Bool) → Below bound opens ends fits r P → StartsWith c P
      → Below bound opens (optional_ends c ends) (optional_fits fits) (optional c r) (Optional P)
  optional_below c g first = weaken_below step to from
    where
      to : (o : Option X) (used : List T) → Either (Image Some P) (Empty None) o used → Optional P o used
      to o used (inl p) = subst (λ k. Optional P k used) (sym p.1) p.2
      to o used (inr p) =
          let here : Optional P None used = p.1 in
          subst (λ k. Optional P k used) (sym p.0) here

      from : (o : Option X) (used : List T) → Optional P o used → Either (Image Some P) (Empty None) o used
      from None used p = inr (refl, p)
      from (Some x) used p = inl (x, refl, p)

      first_of : (o : Option X) (used rest : List T) → Image Some P o used → c (next (used ++ rest)) ≡ true
      first_of o used rest p = first p.0 used rest p.2

      other : (o : Option X) (used rest : List T) → Empty None o used → optional_ends c ends o (next rest) ≡ true
          → Image Some P o used ⊎ ((c (next (used ++ rest)) ≡ false) × (always {T = T} o (next rest) ≡ true))
      other o used rest p over =
          let here : optional_ends c ends None (next rest) ≡ true = subst (λ k. optional_ends c ends k (next rest) ≡ true) p.0 over in
          inr (ap (λ k. c (next (k ++ rest))) p.1 ∙ not_true (c (next rest)) here, refl)

      back : (o : Option X) (used rest : List T) → Empty None o used → c (next (used ++ rest)) ≡ false → always {T = T} o (next rest) ≡ true
          → optional_ends c ends o (next rest) ≡ true
      back o used rest p off any =
          let here : optional_ends c ends None (next rest) ≡ true = not_false (c (next rest)) (ap (λ k. c (next (k ++ rest))) (sym p.1) ∙ off) in
          subst (λ k. optional_ends c ends k (next rest) ≡ true) (sym p.0) here

      step : Below bound opens (optional_ends c ends) (optional_fits fits) (optional c r) (Either (Image Some P) (Empty None))
      step = choice_below c (image_below Some (optional_ends c ends) (optional_fits fits) g (λ x used p o. refl) (λ x used p. refl))
          (below bound (empty_agrees opens (optional_fits fits) None refl)) first_of other back

module _ {T X : Type 0} {opens : T → Bool} {ends : X → Option T → Bool} {fits : X → Bool} {r : Reads T X} {P : X → List T → Type 0} where
  pub optional_agrees : (c : Option T → Bool) → Agrees opens ends fits r P → StartsWith c P
      → Agrees opens (optional_ends c ends) (optional_fits fits) (optional c r) (Optional P)
  optional_agrees c g first = everywhere (λ bound. optional_below c (below bound g) first)

  pub optional_rule : (c : Option T → Bool) → IsRule opens ends fits r P → StartsWith c P
      → IsRule opens (optional_ends c ends) (optional_fits fits) (optional c r) (Optional P)
  optional_rule c h first = record { agrees = optional_agrees c h.agrees first; room = (None, [], refl, refl) }

  -- ---- any number of them

  pub many_rule : (c : Option T → Bool) → IsRule opens ends fits r P → (c None ≡ false) → StartsWith c P
      → ((x : X) (o : Option T) → c o ≡ true → ends x o ≡ true) → IsRule opens (list_ends c ends) (list_all fits) (many c r) (Many P)
  unfolding Many
  many_rule c h none first goes = record { agrees = many_agrees c h.agrees none first goes; room = ([], [], refl, refl) }

-- ---- what has no limit

pub optional_all_fit : {X : Type 0} (o : Option X) → optional_fits {X = X} all_fit o ≡ true
optional_all_fit None = refl
optional_all_fit (Some x) = refl

pub list_all_fit : {X : Type 0} (xs : List X) → list_all {X = X} all_fit xs ≡ true
list_all_fit [] = refl
list_all_fit (x ∷ xs) = list_all_fit xs
