-- Lists with separators, and what stands between brackets: agreement of the readings with the relations.
use Rattle.std.proofs.Common.{◌≡◌, ℕ, zero, suc, ◌<◌, ◌≤◌, Bool, true, false, not, ◌&&◌, List, [], ◌∷◌, ◌++◌, length, Option, None, Some, Ok}
use Rattle.std.proofs.Common.{refl, sym, ap, subst, ◌∙◌, ◌⊎◌, inl, inr, append_assoc, append-nil, length-append, arith}
use Rattle.std.specs.List.{list_all}
use Rattle.grammar_model.specs.Agreement.{Agrees}
use Rattle.grammar_model.specs.Readings.{Reads, next, seq, image, choice, empty, optional, separated, joined, others_at, others, separated_and_last}
use Rattle.grammar_model.specs.Relations.{Seq, Image, Either, Empty, Optional, Many, Separated, Bracketed}
use Rattle.grammar_model.specs.Relations as rel
use Rattle.grammar_model.proofs.Agreeing.{StartsWith, starts_behind, IsRule, weaken_rule, image_rule, seq_rule, behind_rule, many_rule, optional_ends}
use Rattle.grammar_model.proofs.Agreeing.{optional_fits, optional_below}
use Rattle.grammar_model.proofs.Bounded.{Below, HasRoom, below, everywhere, weaken_below, replaced_below, seq_below}
use Rattle.grammar_model.proofs.Choices.{image_below, choice_below, chosen_other}
use Rattle.grammar_model.proofs.Fronts.{apart}
use Rattle.grammar_model.proofs.Leaves.{always, all_fit, empty_agrees}
use Rattle.grammar_model.proofs.Repeats.{recursion, last_ends, list_ends, takes_one, unrolled, seq_same, image_same, choice_same, shrinks_by, many_first}
use Rattle.grammar_model.proofs.Repeats.{in_list, out_list}

-- where all are over the last one is
pub last_ends_all : {T X : Type 0} (ends : X → Option T → Bool) (xs : List X) (o : Option T) → ((x : X) → ends x o ≡ true) → last_ends ends xs o ≡ true
unfolding last_ends
last_ends_all ends [] o all = refl
last_ends_all ends (x ∷ []) o all = all x
last_ends_all ends (x ∷ (y ∷ ys)) o all = last_ends_all ends (y ∷ ys) o all

-- ---- one, and others behind separators

module _ {T X Y : Type 0} {opens : T → Bool} {ends : X → Option T → Bool} {fits : X → Bool} {r : Reads T X} {s : Reads T Y} {P : X → List T → Type 0}
    {S : Y → List T → Type 0} where
  pub separated_rule : (c : Option T → Bool) → IsRule opens ends fits r P → IsRule opens always all_fit s S → (c None ≡ false) → StartsWith c S
      → ((x : X) (o : Option T) → c o ≡ true → ends x o ≡ true) → IsRule opens (list_ends c ends) (list_all fits) (separated c r s) (Separated P S)
  separated_rule c h m none first goes = image_rule (λ (z : X × List X). z.0 ∷ z.1) (list_ends c ends) (list_all fits)
      (seq_rule (λ z o. list_ends c ends (z.0 ∷ z.1) o) h (many_rule c (behind_rule m h) none starts goes)
      (λ x xs q rest p over. in_list c ends (rel.◌&>◌ S P) starts goes x xs q rest p over)
      (λ x xs q rest p one_over over. out_list c ends (rel.◌&>◌ S P) starts goes x xs q rest p one_over over))
      (λ z o. refl) (λ z. refl)
    where
      starts : StartsWith c (rel.◌&>◌ S P)
      starts = starts_behind c S P first

-- ---- the same with a last separator

-- others behind separators are over where no separator comes; behind a last separator where none comes that would stand behind it
abbrev pub others_ends : {T X Y : Type 0} → (Option T → Bool) → (Option T → Bool) → (X → Option T → Bool) → List X × Option Y → Option T → Bool
others_ends c d ends (xs, None) o = list_ends c ends xs o
others_ends c d ends (xs, Some y) o = not (d o)

abbrev pub others_fit : {X Y : Type 0} → (X → Bool) → List X × Option Y → Bool
others_fit fits z = list_all fits z.0

-- how such a list is spelled
abbrev pub Others : {T X Y : Type 0} → (X → List T → Type 0) → (Y → List T → Type 0) → List X × Option Y → List T → Type 0
Others P S = Seq (Many (rel.◌&>◌ S P)) (Optional S)

ends_none : (b : Bool) → (not b && true) ≡ true → b ≡ false
ends_none true e = let bad : ⊥ = cc in absurd bad
ends_none false e = refl

ends_some : (b : Bool) → b ≡ false → (not b && true) ≡ true
ends_some b e = rw e refl

module _ {T X Y : Type 0} (c d : Option T → Bool) (ends : X → Option T → Bool) (P : X → List T → Type 0) (S : Y → List T → Type 0)
    (first : StartsWith c S) (goes : (x : X) (o : Option T) → c o ≡ true → ends x o ≡ true) where
  -- a text of others that is not empty begins with a separator
  others_first : (xs : List X) (y : Y) (q rest : List T) → Others P S (xs, Some y) q → c (next (q ++ rest)) ≡ true
  unfolding Many
  others_first [] y q rest p = ap (λ k. c (next k)) (apart q p.0 p.1 rest p.2 ∙ ap (λ k. k ++ (p.1 ++ rest)) p.3) ∙ first y p.1 rest p.4
  others_first (x ∷ xs) y q rest p = ap (λ k. c (next k)) (apart q p.0 p.1 rest p.2)
      ∙ many_first c ends (rel.◌&>◌ S P) (starts_behind c S P first) goes x xs p.0 (p.1 ++ rest) p.3

  in_others : (x : X) (z : List X × Option Y) (q rest : List T) → Others P S z q → others_ends c d ends (x ∷ z.0, z.1) (next rest) ≡ true
      → (ends x (next (q ++ rest)) ≡ true) × (others_ends c d ends z (next rest) ≡ true)
  in_others x (xs, None) q rest p over =
      let o = in_list c ends (rel.◌&>◌ S P) (starts_behind c S P first) goes x xs p.0 rest p.3 over in
      let same : q ++ rest ≡ p.0 ++ rest = apart q p.0 p.1 rest p.2 ∙ ap (λ k. p.0 ++ (k ++ rest)) p.4 in
      (ap (λ k. ends x (next k)) same ∙ o.0, o.1)
  in_others x (xs, Some y) q rest p over = (goes x (next (q ++ rest)) (others_first xs y q rest p), over)

  out_others : (x : X) (z : List X × Option Y) (q rest : List T) → Others P S z q → ends x (next (q ++ rest)) ≡ true
      → others_ends c d ends z (next rest) ≡ true
      → others_ends c d ends (x ∷ z.0, z.1) (next rest) ≡ true
  out_others x (xs, None) q rest p one_over over =
      let same : q ++ rest ≡ p.0 ++ rest = apart q p.0 p.1 rest p.2 ∙ ap (λ k. p.0 ++ (k ++ rest)) p.4 in
      out_list c ends (rel.◌&>◌ S P) (starts_behind c S P first) goes x xs p.0 rest p.3 (ap (λ k. ends x (next k)) (sym same) ∙ one_over) over
  out_others x (xs, Some y) q rest p one_over over = over

-- one separator more in front, or none
module _ {T X Y : Type 0} (P : X → List T → Type 0) (S : Y → List T → Type 0) where
  abbrev OneMore : List X × Option Y → List T → Type 0
  OneMore = Either (Image joined (Seq S (Optional (Seq P (Others P S))))) (Empty ([], None))

  to_others : (z : List X × Option Y) (used : List T) → OneMore z used → Others P S z used
  unfolding Many
  to_others z used (inl p) = subst (λ k. Others P S k used) (sym p.1) (of_joined p.0 p.2)
    where
      of_joined : (w : Y × Option (X × (List X × Option Y))) → Seq S (Optional (Seq P (Others P S))) w used → Others P S (joined w) used
      of_joined (y, None) q = ([], q.0, q.2 ∙ (ap (λ k. q.0 ++ k) q.4 ∙ append-nil q.0), refl, q.3)
      of_joined (y, Some (x, others)) q =
          let a = q.4 in
          let b = a.4 in (
            (q.0 ++ a.0) ++ b.0,
            b.1,
            q.2 ∙ (ap (λ k. q.0 ++ k) (a.2 ∙ ap (λ k. a.0 ++ k) b.2) ∙ (sym (append_assoc q.0 a.0 (b.0 ++ b.1)) ∙ sym (append_assoc (q.0 ++ a.0) b.0 b.1))),
            (q.0 ++ a.0, b.0, refl, ((y, x), refl, (q.0, a.0, refl, q.3, a.3)), b.3),
            b.4,
          )
  to_others z used (inr p) =
      let here : Others P S ([], None) used = ([], [], p.1, refl, refl) in
      subst (λ k. Others P S k used) (sym p.0) here

  from_others : (z : List X × Option Y) (used : List T) → Others P S z used → OneMore z used
  unfolding Many
  from_others ([], None) used p = inr (refl, p.2 ∙ (ap (λ k. k ++ p.1) p.3 ∙ p.4))
  from_others ([], Some y) used p = inl ((y, None), refl, (p.1, [], p.2 ∙ (ap (λ k. k ++ p.1) p.3 ∙ sym (append-nil p.1)), p.4, refl))
  from_others (x ∷ xs, o) used p =
      let m = p.3 in
      let i = m.3 in
      let w : Y × X = i.0 in
      let same : x ≡ w.1 = i.1 in
      let a = i.2 in
      let item : P x a.1 = subst (λ k. P k a.1) (sym same) a.4 in
      inl (
        (w.0, Some (x, (xs, o))),
        refl,
        (
          a.0,
          a.1 ++ (m.1 ++ p.1),
          p.2 ∙ (ap (λ k. k ++ p.1) (m.2 ∙ ap (λ k. k ++ m.1) a.2) ∙ (append_assoc (a.0 ++ a.1) m.1 p.1 ∙ append_assoc a.0 a.1 (m.1 ++ p.1))),
          a.3,
          (a.1, m.1 ++ p.1, refl, item, (m.1, p.1, refl, m.4, p.4)),
        ),
      )

module _ {T X Y : Type 0} (c d : Option T → Bool) (r : Reads T X) (s : Reads T Y) (none : c None ≡ false)
    (shrinks : (toks : List T) (y : Y) (rest : List T) → s toks ≡ Ok (y, rest) → length rest < length toks)
    (grows_not : (toks : List T) (x : X) (rest : List T) → r toks ≡ Ok (x, rest) → length rest ≤ length toks) where
  pub others_unrolled : (toks : List T) → others c d r s toks ≡ choice c (image joined (seq s (optional d (seq r (others c d r s))))) (empty ([], None)) toks
  unfolding others_at
  others_unrolled = unrolled step (λ n. others_at n c d r s) ([], None) next_at at_end step_end guarded
    where
      step : Reads T (List X × Option Y) → Reads T (List X × Option Y)
      step more = choice c (image joined (seq s (optional d (seq r more)))) (empty ([], None))

      next_at : (n : ℕ) (toks : List T) → others_at (suc n) c d r s toks ≡ step (others_at n c d r s) toks
      next_at n toks = refl

      step_end : (more : Reads T (List X × Option Y)) → step more [] ≡ Ok (([], None), [])
      step_end more = chosen_other c (image joined (seq s (optional d (seq r more)))) (empty ([], None)) [] none

      at_end : (n : ℕ) → others_at n c d r s [] ≡ Ok (([], None), [])
      at_end zero = refl
      at_end (suc n) = step_end (others_at n c d r s)

      inner_same : (more other : Reads T (List X × Option Y)) (toks : List T) → ((rest : List T) → length rest ≤ length toks → more rest ≡ other rest)
          → optional d (seq r more) toks ≡ optional d (seq r other) toks
      inner_same more other toks same = choice_same d (image Some (seq r more)) (image Some (seq r other)) (empty None) toks
          (image_same Some (seq r more) (seq r other) toks (seq_same r more other toks (λ x rest is. same rest (grows_not toks x rest is))))

      guarded : (more other : Reads T (List X × Option Y)) (toks : List T) → ((rest : List T) → length rest < length toks → more rest ≡ other rest)
          → step more toks ≡ step other toks
      guarded more other toks same = choice_same c (image joined (seq s (optional d (seq r more)))) (image joined (seq s (optional d (seq r other))))
          (empty ([], None)) toks
          (image_same joined (seq s (optional d (seq r more))) (seq s (optional d (seq r other))) toks
          (seq_same s (optional d (seq r more)) (optional d (seq r other)) toks
          (λ y behind is. let e = shrinks toks y behind is in inner_same more other behind (λ rest short. same rest (omega arith)))))

module _ {T X Y : Type 0} {opens : T → Bool} {ends : X → Option T → Bool} {fits : X → Bool} {r : Reads T X} {s : Reads T Y} {P : X → List T → Type 0}
    {S : Y → List T → Type 0} where
  -- the first test is that of a separator, the other that of what stands between two
  pub others_agrees : (c d : Option T → Bool) → Agrees opens ends fits r P → Agrees opens always all_fit s S → (c None ≡ false) → StartsWith c S
      → StartsWith d P
      → ((x : X) (o : Option T) → c o ≡ true → ends x o ≡ true) → Agrees opens (others_ends c d ends) (others_fit fits) (others c d r s) (Others P S)
  unfolding Many last_ends
  others_agrees c d g m none first item_first goes = everywhere (recursion ((([], None), [], ([], [], refl, refl, refl))) step)
    where
      takes : (y : Y) (used : List T) → S y used → 0 < length used
      takes = takes_one c S none first

      grows_not : (toks : List T) (x : X) (rest : List T) → r toks ≡ Ok (x, rest) → length rest ≤ length toks
      grows_not toks x rest is =
          let a = g.sound toks x rest is in
          let e : length toks ≡ length (a.0 ++ rest) = ap length a.1 in
          let l = length-append a.0 rest in
          omega arith

      room : HasRoom (others_fit {Y = Y} fits) (Others P S)
      room = (([], None), [], ([], [], refl, refl, refl), refl)

      other : (z : List X × Option Y) (used rest : List T) → Empty ([], None) z used → others_ends c d ends z (next rest) ≡ true
          → Image joined (Seq S (Optional (Seq P (Others P S)))) z used ⊎ ((c (next (used ++ rest)) ≡ false) × (always {T = T} z (next rest) ≡ true))
      other z used rest p over =
          let here : others_ends {Y = Y} c d ends ([], None) (next rest) ≡ true = subst (λ k. others_ends c d ends k (next rest) ≡ true) p.0 over in
          inr (ap (λ k. c (next (k ++ rest))) p.1 ∙ ends_none (c (next rest)) here, refl)

      back : (z : List X × Option Y) (used rest : List T) → Empty ([], None) z used → c (next (used ++ rest)) ≡ false → always {T = T} z (next rest) ≡ true
          → others_ends c d ends z (next rest) ≡ true
      back z used rest p off any =
          let here : others_ends {Y = Y} c d ends ([], None) (next rest) ≡ true = ends_some (c (next rest))
          (ap (λ k. c (next (k ++ rest))) (sym p.1) ∙ off) in
          subst (λ k. others_ends c d ends k (next rest) ≡ true) (sym p.0) here

      first_of_step : (z : List X × Option Y) (used rest : List T) → Image joined (Seq S (Optional (Seq P (Others P S)))) z used
          → c (next (used ++ rest)) ≡ true
      first_of_step z used rest p = let q = p.2 in ap (λ k. c (next k)) (apart used q.0 q.1 rest q.2) ∙ first (p.0).0 q.0 (q.1 ++ rest) q.3

      joined_ends : (w : Y × Option (X × (List X × Option Y))) (o : Option T) → others_ends c d ends (joined w) o ≡ optional_ends d
          (λ v k. others_ends c d ends (v.0 ∷ (v.1).0, (v.1).1) k) w.1 o
      joined_ends (y, None) o = refl
      joined_ends (y, Some v) o = refl

      joined_fits : (w : Y × Option (X × (List X × Option Y))) → others_fit fits (joined w) ≡
          (all_fit w.0 && optional_fits (λ v. fits v.0 && others_fit fits v.1) w.1)
      joined_fits (y, None) = refl
      joined_fits (y, Some v) = refl

      inner_first : StartsWith d (Seq P (Others P S))
      inner_first z used rest p = ap (λ k. d (next k)) (apart used p.0 p.1 rest p.2) ∙ item_first z.0 p.0 (p.1 ++ rest) p.3

      step : (bound : ℕ) → Below bound opens (others_ends c d ends) (others_fit fits) (others c d r s) (Others P S)
          → Below (suc bound) opens (others_ends c d ends) (others_fit fits) (others c d r s) (Others P S)
      step bound h =
          replaced_below (others_unrolled c d r s none (shrinks_by m takes) grows_not)
          (weaken_below
          (choice_below c
          (image_below joined (others_ends c d ends) (others_fit fits)
          (seq_below (λ w o. optional_ends d (λ v k. others_ends c d ends (v.0 ∷ (v.1).0, (v.1).1) k) w.1 o) (below (suc bound) m)
          (optional_below d
          (seq_below (λ v o. others_ends c d ends (v.0 ∷ (v.1).0, (v.1).1) o) (below bound g) h (inl room)
          (λ x p q is short. let e = length-append p q in omega arith)
          (λ x z q rest p over. in_others c d ends P S first goes x z q rest p over)
          (λ x z q rest p one_over over. out_others c d ends P S first goes x z q rest p one_over over))
          inner_first)
          (inl (None, [], refl, refl))
          (λ y p q is short. let e = length-append p q in let t = takes y p is in omega arith)
          (λ y o q rest p over. (refl, over))
          (λ y o q rest p one_over over. over))
          (λ w used p o. joined_ends w o) (λ w used p. joined_fits w))
          (below (suc bound) (empty_agrees opens (others_fit fits) ([], None) refl))
          first_of_step other back)
          (to_others P S) (from_others P S))

  pub separated_and_last_rule : (c d : Option T → Bool) → IsRule opens ends fits r P → IsRule opens always all_fit s S → (c None ≡ false) → StartsWith c S
      → StartsWith d P
      → ((x : X) (o : Option T) → c o ≡ true → ends x o ≡ true)
      → IsRule opens (others_ends c d ends) (others_fit fits) (separated_and_last c d r s) (Seq (Separated P S) (Optional S))
  unfolding Many
  separated_and_last_rule c d h m none first item_first goes = weaken_rule
      (image_rule (λ (z : X × (List X × Option Y)). (z.0 ∷ (z.1).0, (z.1).1)) (others_ends c d ends) (others_fit fits)
      (seq_rule (λ z o. others_ends c d ends (z.0 ∷ (z.1).0, (z.1).1) o) h
      (record { agrees = others_agrees c d h.agrees m.agrees none first item_first goes; room = (([], None), [], ([], [], refl, refl, refl), refl) })
      (λ x z q rest p over. in_others c d ends P S first goes x z q rest p over)
      (λ x z q rest p one_over over. out_others c d ends P S first goes x z q rest p one_over over))
      (λ z o. refl) (λ z. refl))
      to from
    where
      to : (z : List X × Option Y) (used : List T) → Image (λ (z : X × (List X × Option Y)). (z.0 ∷ (z.1).0, (z.1).1)) (Seq P (Others P S)) z used
          → Seq (Separated P S) (Optional S) z used
      to z used p =
          let w : X × (List X × Option Y) = p.0 in
          let q = p.2 in
          let t = q.4 in
          let here : Seq (Separated P S) (Optional S) (w.0 ∷ (w.1).0, (w.1).1) used =
          (q.0 ++ t.0, t.1, q.2 ∙ (ap (λ k. q.0 ++ k) t.2 ∙ sym (append_assoc q.0 t.0 t.1)), ((w.0, (w.1).0), refl, (q.0, t.0, refl, q.3, t.3)), t.4) in
          subst (λ k. Seq (Separated P S) (Optional S) k used) (sym p.1) here

      from : (z : List X × Option Y) (used : List T) → Seq (Separated P S) (Optional S) z used
          → Image (λ (z : X × (List X × Option Y)). (z.0 ∷ (z.1).0, (z.1).1)) (Seq P (Others P S)) z used
      from z used p =
          let i = p.3 in
          let w : X × List X = i.0 in
          let q = i.2 in (
            (w.0, (w.1, z.1)),
            ap (λ (k : List X). (k, z.1)) i.1,
            (q.0, q.1 ++ p.1, p.2 ∙ (ap (λ k. k ++ p.1) q.2 ∙ append_assoc q.0 q.1 p.1), q.3, (q.1, p.1, refl, q.4, p.4)),
          )

-- ---- between brackets

module _ {T X Y Z : Type 0} (P : X → List T → Type 0) (R : Z → List T → Type 0) (Q : Y → List T → Type 0) where
  pub to_bracketed : (x : X) (z : Z) (used : List T) → Seq P (rel.◌<&◌ R Q) (x, z) used → Bracketed P (R z) Q x used
  to_bracketed x z used p =
      let i = p.4 in
      let w : Z × Y = i.0 in
      let q = i.2 in
      (p.0, q.0, q.1, p.2 ∙ ap (λ k. p.0 ++ k) q.2, p.3, subst (λ k. R k q.0) (sym i.1) q.3, (w.1, q.4))

  pub from_bracketed : (x : X) (z : Z) (used : List T) → Bracketed P (R z) Q x used → Seq P (rel.◌<&◌ R Q) (x, z) used
  from_bracketed x z used p = (p.0, p.1 ++ p.2, p.3, p.4, ((z, (p.6).0), refl, (p.1, p.2, refl, p.5, (p.6).1)))
