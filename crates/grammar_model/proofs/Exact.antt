-- What follows from agreement for whole texts: a text has one verdict, and the reading finds it.
use Rattle.std.proofs.Common.{◌≡◌, ℕ, Bool, true, false, not, ◌&&◌, List, [], ◌∷◌, ◌++◌, length, is_none, Option, None, Some}
use Rattle.std.proofs.Common.{Result, Ok, Err}
use Rattle.std.proofs.Common.{refl, sym, ap, subst, ◌∙◌, ◌⊎◌, inl, inr, append_assoc, append-nil, length-append, arith}
use Rattle.grammar_model.specs.Agreement.{Agrees, Halts, OpenedWithin, Outcome, opens_none}
use Rattle.grammar_model.specs.Readings.{Reads, next, fault, ◌>>=◌, whole, verdict}
use Rattle.grammar_model.specs.Verdicts.{BeginsWithin, OpensWithin, IsUnexpected, IsNested, IsRefused, IsVerdict}
use Rattle.grammar_model.specs.declared.fault.Fault.{Fault}
use Rattle.grammar_model.specs.declared.fault.Why.{Why}
use Rattle.grammar_model.specs.declared.fault.Why.TheVariants.{Unexpected, Nested}
use Rattle.grammar_model.proofs.Fronts.{same_next, not_err, same_ok, same_fault, unexpected_nested, read_of, both_fit}

module _ {T : Type 0} where
  -- of two fronts of one text one is a front of the other
  pub fronts : (a x b y : List T) → a ++ x ≡ b ++ y → ((d : List T) × (b ≡ a ++ d) × (x ≡ d ++ y)) ⊎
      ((t : T) × (d : List T) × (a ≡ b ++ (t ∷ d)) × (y ≡ (t ∷ d) ++ x))
  fronts [] x b y e = inl (b, refl, e)
  fronts (t ∷ a) x [] y e = inr (t, a, refl, sym e)
  fronts (t ∷ a) x (s ∷ b) y e =
      let heads : t ≡ s = cc in
      let tails : a ++ x ≡ b ++ y = cc in
      elim (fronts a x b y tails) [
        | inl f ↦ inl (f.0, let behind : b ≡ a ++ f.0 = f.1 in cc, f.2)
        | inr f ↦ inr (f.0, f.1, let behind : a ≡ b ++ (f.0 ∷ f.1) = f.2 in cc, f.3)
      ]

  -- what opens nothing has no mark that does
  pub quiet_no_mark : (opens : T → Bool) (a b : List T) (mark : T) → opens_none opens (a ++ (mark ∷ b)) ≡ true → opens mark ≡ true → ⊥
  quiet_no_mark opens [] b mark quiet is = step (opens mark) (opens_none opens b) quiet is
    where
      step : (x y : Bool) → (not x && y) ≡ true → x ≡ true → ⊥
      step true y e d = let bad : ⊥ = cc in bad
      step false y e d = let bad : ⊥ = cc in bad
  quiet_no_mark opens (t ∷ a) b mark quiet is = quiet_no_mark opens a b mark (both_fit (not (opens t)) (opens_none opens (a ++ (mark ∷ b))) quiet).1 is

module _ {T X : Type 0} {opens : T → Bool} {fits : X → Bool} {P : X → List T → Type 0} where
  -- up to the last mark that opens something, and so up to each
  pub opened_each : (front : List T) → OpenedWithin opens fits P front → OpensWithin opens fits P front
  opened_each front o a b mark parts opening = elim (fronts a (mark ∷ b) o.up_to o.behind (sym parts ∙ o.parts)) [
    | inl f ↦ at_or_behind f.0 f.1 f.2
    | inr f ↦ absurd (quiet_no_mark opens (f.0 ∷ f.1) b mark (subst (λ z. opens_none opens z ≡ true) f.3 o.quiet) opening)
  ]
    where
      nothing_before : (d : List T) → a ++ (mark ∷ d) ≡ [] → ⊥
      nothing_before d e = let l = length-append a (mark ∷ d) in let k : length (a ++ (mark ∷ d)) ≡ 0 = ap length e in omega arith

      at_or_behind : (d : List T) → o.up_to ≡ a ++ d → mark ∷ b ≡ d ++ o.behind → BeginsWithin fits P (a ++ (mark ∷ []))
      at_or_behind [] up behind = absurd (quiet_no_mark opens [] b mark (subst (λ z. opens_none opens z ≡ true) (sym behind) o.quiet) opening)
      at_or_behind (t ∷ d) up behind =
          let same : t ≡ mark = cc in
          let here : o.up_to ≡ a ++ (mark ∷ d) = up ∙ ap (λ z. a ++ (z ∷ d)) same in
          elim o.within [
            | inl none ↦ absurd (nothing_before d (sym here ∙ none))
            | inr w ↦ (
              w.0,
              d ++ w.1,
              subst (λ z. P w.0 z) (ap (λ z. z ++ w.1) here ∙
                  (append_assoc a (mark ∷ d) w.1 ∙ sym (append_assoc a (mark ∷ []) (d ++ w.1)))) w.2,
              w.3,
            )
          ]

-- ---- a refusal excludes every other verdict

module _ {T X : Type 0} (opens : T → Bool) (fits : X → Bool) (P : X → List T → Type 0) where
  pub refused_no_tree : (toks : List T) (why : Why) (n : ℕ) → IsRefused opens fits P toks why n → (x : X) → P x toks → fits x ≡ true → ⊥
  refused_no_tree toks Unexpected n u x p fit = u.no_other x u.rest refl (subst (λ z. P x z) u.whole p)
  refused_no_tree toks Nested n u x p fit =
      let not_fit : fits x ≡ false = u.beyond x u.behind (subst (λ z. P x z) u.whole p) in
      let bad : true ≡ false = sym fit ∙ not_fit in
      let worse : ⊥ = cc in
      worse

  two_unexpected : (toks : List T) (m n : ℕ) → IsUnexpected opens fits P toks m → IsUnexpected opens fits P toks n → m ≡ n
  two_unexpected toks m n u v = elim (fronts u.front u.rest v.front v.rest (sym u.whole ∙ v.whole)) [
    | inl f ↦ behind u v f.0 f.1 f.2
    | inr f ↦ absurd (before v u f.0 f.1 f.2 f.3)
  ]
    where
      before : {k l : ℕ} (a : IsUnexpected opens fits P toks k) (b : IsUnexpected opens fits P toks l) (t : T) (d : List T) → b.front ≡ a.front ++ (t ∷ d)
          → a.rest ≡ (t ∷ d) ++ b.rest → ⊥
      before a b t d longer rest =
          let w = b.begins in
          a.no_other w.0 ((t ∷ d) ++ w.1) (ap next (sym rest)) (subst (λ z. P w.0 z) (ap (λ z. z ++ w.1) longer ∙ append_assoc a.front (t ∷ d) w.1) w.2)

      behind : (a : IsUnexpected opens fits P toks m) (b : IsUnexpected opens fits P toks n) (d : List T) → b.front ≡ a.front ++ d → a.rest ≡ d ++ b.rest
          → m ≡ n
      behind a b [] longer rest = a.left ∙ (ap length rest ∙ sym b.left)
      behind a b (t ∷ d) longer rest = absurd (before a b t d longer rest)

  two_nested : (toks : List T) (m n : ℕ) → IsNested opens fits P toks m → IsNested opens fits P toks n → m ≡ n
  two_nested toks m n u v = elim (fronts u.front (u.mark ∷ u.behind) v.front (v.mark ∷ v.behind) (sym u.whole ∙ v.whole)) [
    | inl f ↦ later u v f.0 f.1 f.2
    | inr f ↦ absurd (before v u f.0 f.1 f.2 f.3)
  ]
    where
      before : {k l : ℕ} (a : IsNested opens fits P toks k) (b : IsNested opens fits P toks l) (t : T) (d : List T) → b.front ≡ a.front ++ (t ∷ d)
          → a.mark ∷ a.behind ≡ (t ∷ d) ++ (b.mark ∷ b.behind) → ⊥
      before a b t d longer rest =
          let same : t ≡ a.mark = cc in
          let w = b.within a.front d a.mark (longer ∙ ap (λ z. a.front ++ (z ∷ d)) same) a.opening in
          let not_fit : fits w.0 ≡ false = a.beyond w.0 w.1 (subst (λ z. P w.0 z) (append_assoc a.front (a.mark ∷ []) w.1) w.2) in
          let bad : true ≡ false = sym w.3 ∙ not_fit in
          let worse : ⊥ = cc in
          worse

      later : (a : IsNested opens fits P toks m) (b : IsNested opens fits P toks n) (d : List T) → b.front ≡ a.front ++ d
          → a.mark ∷ a.behind ≡ d ++ (b.mark ∷ b.behind) → m ≡ n
      later a b [] longer rest = a.left ∙ (ap length rest ∙ sym b.left)
      later a b (t ∷ d) longer rest = absurd (before a b t d longer rest)

  unexpected_nested_never : (toks : List T) (m n : ℕ) → IsUnexpected opens fits P toks m → IsNested opens fits P toks n → ⊥
  unexpected_nested_never toks m n u v = elim (fronts u.front u.rest v.front (v.mark ∷ v.behind) (sym u.whole ∙ v.whole)) [
    | inl f ↦
        let w = v.begins in
        u.no_other w.0 (f.0 ++ (v.mark ∷ w.1)) (same_next f.0 (v.mark ∷ w.1) (v.mark ∷ v.behind) refl ∙ ap next (sym f.2))
        (subst (λ z. P w.0 z) (append_assoc v.front (v.mark ∷ []) w.1 ∙ (ap (λ z. z ++ (v.mark ∷ w.1)) f.1 ∙ append_assoc u.front f.0 (v.mark ∷ w.1))) w.2)
    | inr f ↦
        let same : f.0 ≡ v.mark = first_same f.0 v.mark f.1 v.behind u.rest f.3 in
        let w = u.within v.front f.1 v.mark (f.2 ∙ ap (λ z. v.front ++ (z ∷ f.1)) same) v.opening in
        let not_fit : fits w.0 ≡ false = v.beyond w.0 w.1 (subst (λ z. P w.0 z) (append_assoc v.front (v.mark ∷ []) w.1) w.2) in
        let bad : true ≡ false = sym w.3 ∙ not_fit in
        let worse : ⊥ = cc in
        worse
  ]
    where
      first_same : (t mark : T) (d behind rest : List T) → mark ∷ behind ≡ (t ∷ d) ++ rest → t ≡ mark
      first_same t mark d behind rest e = cc

  pub two_refused : (toks : List T) (v w : Why) (m n : ℕ) → IsRefused opens fits P toks v m → IsRefused opens fits P toks w n → fault v m ≡ fault w n
  two_refused toks Unexpected Unexpected m n a b = ap (λ k. fault Unexpected k) (two_unexpected toks m n a b)
  two_refused toks Unexpected Nested m n a b = absurd (unexpected_nested_never toks m n a b)
  two_refused toks Nested Unexpected m n a b = absurd (unexpected_nested_never toks n m b a)
  two_refused toks Nested Nested m n a b = ap (λ k. fault Nested k) (two_nested toks m n a b)

module _ {T X : Type 0} {opens : T → Bool} {ends : X → Option T → Bool} {fits : X → Bool} {r : Reads T X} {P : X → List T → Type 0}
    (g : Agrees opens ends fits r P) (to_the_end : (x : X) (o : Option T) → ends x o ≡ is_none o) where
  -- ---- what is read is the verdict

  read_whole : (x : X) (toks : List T) → P x toks → Outcome {A = X × List T} (fits x) (r toks) (x, [])
  read_whole x toks p = subst (λ z. Outcome {A = X × List T} (fits x) (r z) (x, [])) (append-nil toks) (g.complete x toks [] p (to_the_end x None))

  no_outcome : (b : Bool) (read : Result (X × List T) Fault) (z : X × List T) (n : ℕ) → Outcome {A = X × List T} b read z → read ≡ Err (fault Unexpected n)
      → ⊥
  no_outcome true read z n o e = not_err (sym o ∙ e)
  no_outcome false read z n o e = let bad : Unexpected ≡ Nested = (same_fault (sym e ∙ o.1)).0 in unexpected_nested bad

  not_within : (b : Bool) (read : Result (X × List T) Fault) (z : X × List T) (f : Fault) → Outcome {A = X × List T} b read z → read ≡ Err f → b ≡ false
  not_within true read z f o e = absurd (not_err (sym o ∙ e))
  not_within false read z f o e = refl

  refused : (toks : List T) (why : Why) (n : ℕ) → Halts opens fits r P why toks n → IsRefused opens fits P toks why n
  refused toks Unexpected n h = record {
    front = h.front;
    rest = h.rest;
    whole = h.whole;
    left = h.left;
    begins = (h.tree, h.more, h.viable);
    no_other = λ x more e p. no_outcome (fits x) (r (h.front ++ more)) (x, []) (length more) (read_whole x (h.front ++ more) p) (h.steady more e);
    within = opened_each h.front h.opened;
  }
  refused toks Nested n h =
      let d = h.nested refl in
      record {
        front = h.front;
        mark = d.0;
        behind = d.1;
        whole = h.whole ∙ ap (λ z. h.front ++ z) d.2;
        left = h.left ∙ ap length d.2;
        opening = d.3;
        begins = (d.4, d.5, subst (λ z. P d.4 z) (sym (append_assoc h.front (d.0 ∷ []) d.5)) d.6);
        beyond = λ x more p.
            not_within (fits x) (r (h.front ++ (d.0 ∷ more))) (x, []) (fault Nested (length (d.0 ∷ more))) (read_whole x (h.front ++ (d.0 ∷ more)) p)
            (h.steady (d.0 ∷ more) (sym (ap next d.2)));
        within = opened_each h.front h.opened;
      }

  none_left : (x : X) (rest : List T) → ends x (next rest) ≡ true → rest ≡ []
  none_left x [] over = refl
  none_left x (t ∷ rest) over = let bad : true ≡ false = sym over ∙ to_the_end x (Some t) in let worse : ⊥ = cc in absurd worse

  -- what the reading says of a text is its verdict
  pub verdict_is : (toks : List T) → IsVerdict opens fits P toks (verdict r toks)
  verdict_is toks = of_read (r toks) refl
    where
      of_read : (read : Result (X × List T) Fault) → r toks ≡ read → IsVerdict opens fits P toks (read >>= whole)
      of_read (Ok z) is =
          let s = g.sound toks z.0 z.1 is in
          let all : z.1 ≡ [] = none_left z.0 z.1 s.3 in
          let here : P z.0 toks = subst (λ k. P z.0 k) (sym (s.1 ∙ (ap (λ k. s.0 ++ k) all ∙ append-nil s.0))) s.2 in
          subst (λ k. IsVerdict opens fits P toks (whole (z.0, k))) (sym all) (here, s.4)
      of_read (Err f) is = refused toks f.why f.left (g.halts toks f.why f.left is)

  -- and a text has no other
  pub verdict_only : (toks : List T) (out : Result X Fault) → IsVerdict opens fits P toks out → verdict r toks ≡ out
  verdict_only toks (Ok x) v = ap (λ z. z >>= whole) (read_of (fits x) (r toks) (x, []) v.1 (read_whole x toks v.0))
  verdict_only toks (Err f) v = of_verdict (verdict r toks) (verdict_is toks)
    where
      of_verdict : (read : Result X Fault) → IsVerdict opens fits P toks read → read ≡ Err f
      of_verdict (Ok y) w = absurd (refused_no_tree opens fits P toks f.why f.left v y w.0 w.1)
      of_verdict (Err e) w = ap Err (two_refused opens fits P toks e.why f.why e.left f.left w v)

  -- a text is that of one tree at most, as far as trees keep the limits
  pub one_tree : (toks : List T) (x y : X) → P x toks → P y toks → fits x ≡ true → fits y ≡ true → x ≡ y
  one_tree toks x y p q fit also =
      let first = read_of (fits x) (r toks) (x, []) fit (read_whole x toks p) in
      let second = read_of (fits y) (r toks) (y, []) also (read_whole y toks q) in
      ap (λ (k : X × List T). k.0) (same_ok (sym first ∙ second))
