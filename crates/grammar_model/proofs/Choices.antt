-- What is made of a tree, and the one or the other by the next token: how agreement goes from parts to the whole.
use Rattle.std.proofs.Common.{◌≡◌, ℕ, ◌<◌, Bool, true, false, List, ◌++◌, length, Option, Result, Ok, Err}
use Rattle.std.proofs.Common.{refl, sym, ap, subst, ◌∙◌, ◌⊎◌, inl, inr}
use Rattle.grammar_model.specs.Agreement.{Halts, OpenedWithin, Outcome}
use Rattle.grammar_model.specs.Readings.{Reads, next, fault, ◌>>=◌, image, choice}
use Rattle.grammar_model.specs.Relations.{Image, Either}
use Rattle.grammar_model.specs.declared.fault.Fault.{Fault}
use Rattle.grammar_model.specs.declared.fault.Why.{Why}
use Rattle.grammar_model.proofs.Bounded.{Below, Read, halts_to}
use Rattle.grammar_model.proofs.Fronts.{same_next, bind_ok, bind_err, stops, same_ok, not_err}

-- ---- what is made of a tree

module _ {T X Y : Type 0} (g : X → Y) where
  imaged_outcome : (b : Bool) (read : Result (X × List T) Fault) (x : X) (rest : List T) → Outcome {A = X × List T} b read (x, rest)
      → Outcome {A = Y × List T} b (read >>= λ v. Ok (g v.0, v.1)) (g x, rest)
  imaged_outcome true read x rest o = rw o refl
  imaged_outcome false read x rest o = (o.0, rw (o.1) refl)

  module _ {bound : ℕ} {opens : T → Bool} {endsX : X → Option T → Bool} {fitsX : X → Bool} {r : Reads T X} {P : X → List T → Type 0} where
    -- the tree that is made ends and fits as the one that it is made of
    pub image_below : (ends : Y → Option T → Bool) (fits : Y → Bool) → Below bound opens endsX fitsX r P
        → ((x : X) (used : List T) → P x used → (o : Option T) → ends (g x) o ≡ endsX x o) → ((x : X) (used : List T) → P x used → fits (g x) ≡ fitsX x)
        → Below bound opens ends fits (image g r) (Image g P)
    image_below ends fits h same same_fits = record {
      sound = sound;
      complete = λ y used rest short p over.
          let x = p.0 in
          let was : ends (g x) (next rest) ≡ true = subst (λ k. ends k (next rest) ≡ true) p.1 over in
          let out = h.complete x used rest short p.2 (sym (same x used p.2 (next rest)) ∙ was) in
          let made = imaged_outcome (fitsX x) (r (used ++ rest)) x rest out in
          let fit : Outcome {A = Y × List T} (fits (g x)) (image g r (used ++ rest)) (g x, rest) =
          subst (λ b. Outcome {A = Y × List T} b (image g r (used ++ rest)) (g x, rest)) (sym (same_fits x used p.2)) made in
          subst (λ k. Outcome {A = Y × List T} (fits k) (image g r (used ++ rest)) (k, rest)) (sym p.1) fit;
      halts = halts;
      some = let s = h.some in (g s.0, s.1, (s.0, refl, s.2));
    }
      where
        sound : (toks : List T) (y : Y) (rest : List T) → length toks < bound → image g r toks ≡ Ok (y, rest) → Read ends fits (Image g P) toks y rest
        sound toks y rest short is =
            let o = bind_ok (r toks) (λ v. Ok (g v.0, v.1)) (y, rest) is in
            let x : X = (o.0).0 in
            let a = h.sound toks x (o.0).1 short o.1 in
            subst (λ (k : Y × List T). Read ends fits (Image g P) toks k.0 k.1) (same_ok o.2)
            (a.0, a.1, (x, refl, a.2), same x a.0 a.2 (next (o.0).1) ∙ a.3, same_fits x a.0 a.2 ∙ a.4)

        opened : {front : List T} → OpenedWithin opens fitsX P front → OpenedWithin opens fits (Image g P) front
        opened o = record {
          up_to = o.up_to;
          behind = o.behind;
          parts = o.parts;
          quiet = o.quiet;
          within = elim o.within [
            | inl none ↦ inl none
            | inr b ↦ inr (g b.0, b.1, (b.0, refl, b.2), same_fits b.0 (o.up_to ++ b.1) b.2 ∙ b.3)
          ];
        }

        halts : (toks : List T) (why : Why) (n : ℕ) → length toks < bound → image g r toks ≡ Err (fault why n)
            → Halts opens fits (image g r) (Image g P) why toks n
        halts toks why n short is = elim (bind_err (r toks) (λ v. Ok (g v.0, v.1)) (fault why n) is) [
          | inr never ↦ absurd (not_err never.2)
          | inl wrong ↦
              let a = h.halts toks why n short wrong in
              record {
                front = a.front;
                rest = a.rest;
                whole = a.whole;
                left = a.left;
                steady = λ more e. stops (r (a.front ++ more)) (λ v. Ok (g v.0, v.1)) (fault why (length more)) (a.steady more e);
                tree = g a.tree;
                more = a.more;
                viable = (a.tree, refl, a.viable);
                nested = λ e. let d = a.nested e in (d.0, d.1, d.2, d.3, g d.4, d.5, (d.4, refl, d.6));
                opened = opened a.opened;
              }
        ]

-- ---- the one or the other

module _ {T X : Type 0} (c : Option T → Bool) (r s : Reads T X) where
  -- what a choice reads
  pub chosen_first : (toks : List T) → c (next toks) ≡ true → choice c r s toks ≡ r toks
  chosen_first toks is = rw is refl

  pub chosen_other : (toks : List T) → c (next toks) ≡ false → choice c r s toks ≡ s toks
  chosen_other toks is = rw is refl

either_way : {A : Type 0} (b : Bool) → (b ≡ true → A) → (b ≡ false → A) → A
either_way true p q = p refl
either_way false p q = q refl

module _ {T X : Type 0} {bound : ℕ} {opens : T → Bool} {ends endsQ : X → Option T → Bool} {fits : X → Bool} {r s : Reads T X} {P Q : X → List T → Type 0}
  where
    -- the first begins with a token that passes the test; the other, where it is over, with one that does not, or it is one of the first
    pub choice_below : (c : Option T → Bool) → Below bound opens ends fits r P → Below bound opens endsQ fits s Q
        → ((x : X) (used rest : List T) → P x used → c (next (used ++ rest)) ≡ true)
        → ((x : X) (used rest : List T) → Q x used → ends x (next rest) ≡ true → P x used ⊎ ((c (next (used ++ rest)) ≡ false) × (endsQ x (next rest) ≡ true)))
        → ((x : X) (used rest : List T) → Q x used → c (next (used ++ rest)) ≡ false → endsQ x (next rest) ≡ true → ends x (next rest) ≡ true)
        → Below bound opens ends fits (choice c r s) (Either P Q)
    choice_below c g h first other back = record {
      sound = λ toks x rest short is. either_way (c (next toks))
          (λ on. let a = g.sound toks x rest short (sym (chosen_first c r s toks on) ∙ is) in (a.0, a.1, inl a.2, a.3, a.4))
          (λ off.
          let a = h.sound toks x rest short (sym (chosen_other c r s toks off) ∙ is) in
          (a.0, a.1, inr a.2, back x a.0 rest a.2 (subst (λ k. c (next k) ≡ false) a.1 off) a.3, a.4));
      complete = λ x used rest short p over. elim p [
        | inl is ↦ as_first x used rest short is over
        | inr is ↦ elim (other x used rest is over) [
          | inl both ↦ as_first x used rest short both over
          | inr o ↦ subst (λ k. Outcome {A = X × List T} (fits x) k (x, rest)) (sym (chosen_other c r s (used ++ rest) o.0))
              (h.complete x used rest short is o.1)
        ]
      ];
      halts = λ toks why n short is. either_way (c (next toks))
          (λ on. by_first toks why n on (g.halts toks why n short (sym (chosen_first c r s toks on) ∙ is)))
          (λ off. by_other toks why n off (h.halts toks why n short (sym (chosen_other c r s toks off) ∙ is)));
      some = let a = g.some in (a.0, a.1, inl a.2);
    }
      where
        as_first : (x : X) (used rest : List T) → length used < bound → P x used → ends x (next rest) ≡ true
            → Outcome {A = X × List T} (fits x) (choice c r s (used ++ rest)) (x, rest)
        as_first x used rest short is over =
            subst (λ k. Outcome {A = X × List T} (fits x) k (x, rest)) (sym (chosen_first c r s (used ++ rest) (first x used rest is)))
            (g.complete x used rest short is over)

        still : (b : Bool) (toks front rest more : List T) → toks ≡ front ++ rest → c (next toks) ≡ b → next more ≡ next rest → c (next (front ++ more)) ≡ b
        still b toks front rest more whole is e = ap c (same_next front more rest e) ∙ (ap (λ k. c (next k)) (sym whole) ∙ is)

        by_first : (toks : List T) (why : Why) (n : ℕ) → c (next toks) ≡ true → Halts opens fits r P why toks n
            → Halts opens fits (choice c r s) (Either P Q) why toks n
        by_first toks why n on a =
            let b : Halts opens fits r (Either P Q) why toks n = halts_to (λ x used p. inl p) a in
            record {
              front = b.front;
              rest = b.rest;
              whole = b.whole;
              left = b.left;
              steady = λ more e. chosen_first c r s (b.front ++ more) (still true toks b.front b.rest more b.whole on e) ∙ b.steady more e;
              tree = b.tree;
              more = b.more;
              viable = b.viable;
              nested = b.nested;
              opened = b.opened;
            }

        by_other : (toks : List T) (why : Why) (n : ℕ) → c (next toks) ≡ false → Halts opens fits s Q why toks n
            → Halts opens fits (choice c r s) (Either P Q) why toks n
        by_other toks why n off a =
            let b : Halts opens fits s (Either P Q) why toks n = halts_to (λ x used p. inr p) a in
            record {
              front = b.front;
              rest = b.rest;
              whole = b.whole;
              left = b.left;
              steady = λ more e. chosen_other c r s (b.front ++ more) (still false toks b.front b.rest more b.whole off e) ∙ b.steady more e;
              tree = b.tree;
              more = b.more;
              viable = b.viable;
              nested = b.nested;
              opened = b.opened;
            }
