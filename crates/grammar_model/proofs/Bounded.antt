-- Agreement of a reading with a relation on texts below a length, and how it goes from parts to the whole: the bound serves recursion.
use Rattle.std.proofs.Common.{◌≡◌, ℕ, suc, ◌<◌, Bool, true, false, ◌&&◌, List, [], ◌∷◌, ◌++◌, length, Option, Result, Ok}
use Rattle.std.proofs.Common.{Err}
use Rattle.std.proofs.Common.{refl, sym, ap, subst, ◌∙◌, ◌⊎◌, inl, inr, append_assoc, length-append, arith}
use Rattle.grammar_model.specs.Agreement.{Agrees, Halts, OpenedWithin, Outcome, opens_none}
use Rattle.grammar_model.specs.Readings.{Reads, next, fault, ◌>>=◌, seq}
use Rattle.grammar_model.specs.Relations.{Seq}
use Rattle.grammar_model.specs.Verdicts.{BeginsWithin}
use Rattle.grammar_model.specs.declared.fault.Fault.{Fault}
use Rattle.grammar_model.specs.declared.fault.Why.{Why}
use Rattle.grammar_model.proofs.Fronts.{same_next, apart, rejoined, quiet_append, quiet_front, bind_ok, bind_err, goes_on, stops, same_ok, not_err}
use Rattle.grammar_model.proofs.Fronts.{read_of, fit_both}

-- what a reading that is right shows
abbrev pub Read : {T X : Type 0} → (X → Option T → Bool) → (X → Bool) → (X → List T → Type 0) → List T → X → List T → Type 0
Read {T = T} ends fits P toks x rest = (used : List T) × (toks ≡ used ++ rest) × P x used × (ends x (next rest) ≡ true) × (fits x ≡ true)

-- agreement on texts below a length
pub record Below {T X : Type 0} (bound : ℕ) (opens : T → Bool) (ends : X → Option T → Bool) (fits : X → Bool) (r : Reads T X)
    (P : X → List T → Type 0) : Type 0 where
  pub sound : (toks : List T) (x : X) (rest : List T) → length toks < bound → r toks ≡ Ok (x, rest) → Read ends fits P toks x rest
  pub complete : (x : X) (used rest : List T) → length used < bound → P x used → ends x (next rest) ≡ true → Outcome (fits x) (r (used ++ rest)) (x, rest)
  pub halts : (toks : List T) (why : Why) (n : ℕ) → length toks < bound → r toks ≡ Err (fault why n) → Halts opens fits r P why toks n
  pub some : (x : X) × (used : List T) × P x used

-- some text keeps the limits
abbrev pub HasRoom : {T X : Type 0} → (X → Bool) → (X → List T → Type 0) → Type 0
HasRoom {T = T} {X = X} fits P = (x : X) × (used : List T) × P x used × (fits x ≡ true)

-- no text has a mark that opens anything
abbrev pub IsQuiet : {T X : Type 0} → (T → Bool) → (X → List T → Type 0) → Type 0
IsQuiet {T = T} {X = X} opens P = (x : X) (used : List T) → P x used → opens_none opens used ≡ true

module _ {T : Type 0} {X : Type 0} {opens : T → Bool} {ends : X → Option T → Bool} {fits : X → Bool} {r : Reads T X} {P : X → List T → Type 0} where
  pub below : (bound : ℕ) → Agrees opens ends fits r P → Below bound opens ends fits r P
  below bound g = record {
    sound = λ toks x rest short is. g.sound toks x rest is;
    complete = λ x used rest short p over. g.complete x used rest p over;
    halts = λ toks why n short is. g.halts toks why n is;
    some = g.some;
  }

  pub everywhere : ((bound : ℕ) → Below bound opens ends fits r P) → Agrees opens ends fits r P
  everywhere g = record {
    sound = λ toks x rest is. (g (suc (length toks))).sound toks x rest (omega arith) is;
    complete = λ x used rest p over. (g (suc (length used))).complete x used rest (omega arith) p over;
    halts = λ toks why n is. (g (suc (length toks))).halts toks why n (omega arith) is;
    some = (g 0).some;
  }

-- ---- the same relation, or the same reading, in other words

module _ {T X : Type 0} {opens : T → Bool} {fits : X → Bool} {P Q : X → List T → Type 0} (to : (x : X) (used : List T) → P x used → Q x used) where
  opened_to : {front : List T} → OpenedWithin opens fits P front → OpenedWithin opens fits Q front
  opened_to o = record {
    up_to = o.up_to;
    behind = o.behind;
    parts = o.parts;
    quiet = o.quiet;
    within = elim o.within [
      | inl none ↦ inl none
      | inr b ↦ inr (b.0, b.1, to b.0 (o.up_to ++ b.1) b.2, b.3)
    ];
  }

  pub halts_to : {r : Reads T X} {why : Why} {toks : List T} {n : ℕ} → Halts opens fits r P why toks n → Halts opens fits r Q why toks n
  halts_to h = record {
    front = h.front;
    rest = h.rest;
    whole = h.whole;
    left = h.left;
    steady = h.steady;
    tree = h.tree;
    more = h.more;
    viable = to h.tree (h.front ++ h.more) h.viable;
    nested = λ e. let d = h.nested e in (d.0, d.1, d.2, d.3, d.4, d.5, to d.4 (h.front ++ (d.0 ∷ d.5)) d.6);
    opened = opened_to h.opened;
  }

module _ {T X : Type 0} {bound : ℕ} {opens : T → Bool} {ends : X → Option T → Bool} {fits : X → Bool} {r : Reads T X} {P Q : X → List T → Type 0} where
  pub weaken_below : Below bound opens ends fits r P → ((x : X) (used : List T) → P x used → Q x used) → ((x : X) (used : List T) → Q x used → P x used)
      → Below bound opens ends fits r Q
  weaken_below g to from = record {
    sound = λ toks x rest short is. let s = g.sound toks x rest short is in (s.0, s.1, to x s.0 s.2, s.3, s.4);
    complete = λ x used rest short q over. g.complete x used rest short (from x used q) over;
    halts = λ toks why n short is. halts_to to (g.halts toks why n short is);
    some = let s = g.some in (s.0, s.1, to s.0 s.1 s.2);
  }

module _ {T X : Type 0} {bound : ℕ} {opens : T → Bool} {ends : X → Option T → Bool} {fits : X → Bool} {r s : Reads T X} {P : X → List T → Type 0} where
  pub replaced_below : ((toks : List T) → s toks ≡ r toks) → Below bound opens ends fits r P → Below bound opens ends fits s P
  replaced_below same g = record {
    sound = λ toks x rest short is. g.sound toks x rest short (sym (same toks) ∙ is);
    complete = λ x used rest short p over. subst (λ z. Outcome (fits x) z (x, rest)) (sym (same (used ++ rest))) (g.complete x used rest short p over);
    halts = λ toks why n short is.
        let h = g.halts toks why n short (sym (same toks) ∙ is) in
        record {
          front = h.front;
          rest = h.rest;
          whole = h.whole;
          left = h.left;
          steady = λ more e. same (h.front ++ more) ∙ h.steady more e;
          tree = h.tree;
          more = h.more;
          viable = h.viable;
          nested = h.nested;
          opened = h.opened;
        };
    some = g.some;
  }

-- ---- the one behind the other

-- what two readings give by what each gives
both_outcomes : {T X Y : Type 0} (a b : Bool) (read : Result (X × List T) Fault) (s : Reads T Y) (x : X) (y : Y) (behind rest : List T)
    → Outcome {A = X × List T} a read (x, behind) → Outcome {A = Y × List T} b (s behind) (y, rest)
    → Outcome {A = (X × Y) × List T} (a && b) (read >>= λ v. s v.1 >>= λ w. Ok ((v.0, w.0), w.1)) ((x, y), rest)
both_outcomes true true read s x y behind rest o p = rw (o, p) refl
both_outcomes true false read s x y behind rest o p = (p.0, rw (o, p.1) refl)
both_outcomes false b read s x y behind rest o p = (o.0, rw (o.1) refl)

module _ {T X Y : Type 0} (opens : T → Bool) (fitsX : X → Bool) (fitsY : Y → Bool) (P : X → List T → Type 0) (Q : Y → List T → Type 0) where
  -- a front of the first part keeps the limits in the whole, if a text of the second does
  opened_first : HasRoom fitsY Q ⊎ IsQuiet opens P → (front more : List T) (tree : X) → P tree (front ++ more) → OpenedWithin opens fitsX P front
      → OpenedWithin opens (λ (z : X × Y). fitsX z.0 && fitsY z.1) (Seq P Q) front
  opened_first (inl room) front more tree viable o = record {
    up_to = o.up_to;
    behind = o.behind;
    parts = o.parts;
    quiet = o.quiet;
    within = elim o.within [
      | inl none ↦ inl none
      | inr b ↦ inr (
        (b.0, room.0),
        b.1 ++ room.1,
        (o.up_to ++ b.1, room.1, sym (append_assoc o.up_to b.1 room.1), b.2, room.2),
        fit_both (fitsX b.0)
            (fitsY room.0) b.3 room.3,
      )
    ];
  }
  opened_first (inr quiet) front more tree viable o = record {
    up_to = [];
    behind = front;
    parts = refl;
    quiet = quiet_front opens front more (quiet tree (front ++ more) viable);
    within = inl refl;
  }

  -- and so does a front of the second behind a first one
  opened_second : HasRoom fitsY Q ⊎ IsQuiet opens P → (x : X) (p front : List T) → P x p → fitsX x ≡ true → OpenedWithin opens fitsY Q front
      → OpenedWithin opens (λ (z : X × Y). fitsX z.0 && fitsY z.1) (Seq P Q) (p ++ front)
  opened_second room x p front is fit o = go o.within room
    where
      parts : p ++ front ≡ (p ++ o.up_to) ++ o.behind
      parts = ap (λ z. p ++ z) o.parts ∙ sym (append_assoc p o.up_to o.behind)

      none_up_to : o.up_to ≡ [] → o.behind ≡ front
      none_up_to e = sym (o.parts ∙ ap (λ z. z ++ o.behind) e)

      go : (o.up_to ≡ []) ⊎ BeginsWithin fitsY Q o.up_to → HasRoom fitsY Q ⊎ IsQuiet opens P
          → OpenedWithin opens (λ (z : X × Y). fitsX z.0 && fitsY z.1) (Seq P Q) (p ++ front)
      go (inr b) any = record {
        up_to = p ++ o.up_to;
        behind = o.behind;
        parts = parts;
        quiet = o.quiet;
        within = inr ((x, b.0), b.1, (p, o.up_to ++ b.1, append_assoc p o.up_to b.1, is, b.2), fit_both (fitsX x) (fitsY b.0) fit b.3);
      }
      go (inl none) (inl room) = record {
        up_to = p;
        behind = front;
        parts = refl;
        quiet = subst (λ z. opens_none opens z ≡ true) (none_up_to none) o.quiet;
        within = inr ((x, room.0), room.1, (p, room.1, refl, is, room.2), fit_both (fitsX x) (fitsY room.0) fit room.3);
      }
      go (inl none) (inr quiet) = record {
        up_to = [];
        behind = p ++ front;
        parts = refl;
        quiet = quiet_append opens p front (quiet x p is) (subst (λ z. opens_none opens z ≡ true) (none_up_to none) o.quiet);
        within = inl refl;
      }

module _ {T X Y : Type 0} (opens : T → Bool) (fitsX : X → Bool) (fitsY : Y → Bool) (r : Reads T X) (s : Reads T Y) (P : X → List T → Type 0)
    (Q : Y → List T → Type 0) where
  -- where the first goes wrong
  halts_first : HasRoom fitsY Q ⊎ IsQuiet opens P → (y : Y) × (q : List T) × Q y q → {why : Why} {toks : List T} {n : ℕ} → Halts opens fitsX r P why toks n
      → Halts opens (λ (z : X × Y). fitsX z.0 && fitsY z.1) (seq r s) (Seq P Q) why toks n
  halts_first room some {why} h = record {
    front = h.front;
    rest = h.rest;
    whole = h.whole;
    left = h.left;
    steady = λ more e. stops (r (h.front ++ more)) (λ v. s v.1 >>= λ w. Ok ((v.0, w.0), w.1)) (fault why (length more)) (h.steady more e);
    tree = (h.tree, some.0);
    more = h.more ++ some.1;
    viable = (h.front ++ h.more, some.1, sym (append_assoc h.front h.more some.1), h.viable, some.2);
    nested = λ e.
        let d = h.nested e in
        (d.0, d.1, d.2, d.3, (d.4, some.0), d.5 ++ some.1, (h.front ++ (d.0 ∷ d.5), some.1, sym (append_assoc h.front (d.0 ∷ d.5) some.1), d.6, some.2));
    opened = opened_first opens fitsX fitsY P Q room h.front h.more h.tree h.viable h.opened;
  }

  -- where the second goes wrong behind a first one
  halts_second : HasRoom fitsY Q ⊎ IsQuiet opens P → (bound : ℕ) (endsX : X → Option T → Bool)
      (complete : (x : X) (used rest : List T) → length used < bound → P x used → endsX x (next rest) ≡ true → Outcome (fitsX x) (r (used ++ rest)) (x, rest))
      → (x : X) (p behind toks : List T) → toks ≡ p ++ behind → length p < bound → P x p → endsX x (next behind) ≡ true → fitsX x ≡ true
      → {why : Why} {n : ℕ} → Halts opens fitsY s Q why behind n
      → Halts opens (λ (z : X × Y). fitsX z.0 && fitsY z.1) (seq r s) (Seq P Q) why toks n
  halts_second room bound endsX complete x p behind toks parts short is over fit {why} h = record {
    front = p ++ h.front;
    rest = h.rest;
    whole = rejoined toks p behind h.front h.rest parts h.whole;
    left = h.left;
    steady = steady;
    tree = (x, h.tree);
    more = h.more;
    viable = (p, h.front ++ h.more, append_assoc p h.front h.more, is, h.viable);
    nested = λ e.
        let d = h.nested e in
        (d.0, d.1, d.2, d.3, (x, d.4), d.5, (p, h.front ++ (d.0 ∷ d.5), append_assoc p h.front (d.0 ∷ d.5), is, d.6));
    opened = opened_second opens fitsX fitsY P Q room x p h.front is fit h.opened;
  }
    where
      over_there : (more : List T) → next more ≡ next h.rest → endsX x (next (h.front ++ more)) ≡ true
      over_there more e = subst (λ z. endsX x z ≡ true) (sym (same_next h.front more h.rest e ∙ ap next (sym h.whole))) over

      steady : (more : List T) → next more ≡ next h.rest → seq r s ((p ++ h.front) ++ more) ≡ Err (fault why (length more))
      steady more e =
          let first = read_of (fitsX x) (r (p ++ (h.front ++ more))) (x, h.front ++ more) fit (complete x p (h.front ++ more) short is (over_there more e)) in
          ap (seq r s) (append_assoc p h.front more)
          ∙ goes_on (r (p ++ (h.front ++ more))) (λ v. s v.1 >>= λ w. Ok ((v.0, w.0), w.1)) (x, h.front ++ more) (Err (fault why (length more))) first
          (stops (s (h.front ++ more)) (λ w. Ok ((x, w.0), w.1)) (fault why (length more)) (h.steady more e))

module _ {T X Y : Type 0} {bound inner : ℕ} {opens : T → Bool} {endsX : X → Option T → Bool} {endsY : Y → Option T → Bool} {fitsX : X → Bool}
    {fitsY : Y → Bool}
    {r : Reads T X} {s : Reads T Y} {P : X → List T → Type 0} {Q : Y → List T → Type 0} where
  -- the one behind the other: in and out say when each is over, and shrink that what is left is short enough for the second
  pub seq_below : (ends : X × Y → Option T → Bool) → Below bound opens endsX fitsX r P → Below inner opens endsY fitsY s Q → HasRoom fitsY Q ⊎ IsQuiet opens P
      → ((x : X) (p q : List T) → P x p → length (p ++ q) < bound → length q < inner)
      → ((x : X) (y : Y) (q rest : List T) → Q y q → ends (x, y) (next rest) ≡ true → (endsX x (next (q ++ rest)) ≡ true) × (endsY y (next rest) ≡ true))
      → ((x : X) (y : Y) (q rest : List T) → Q y q → endsX x (next (q ++ rest)) ≡ true → endsY y (next rest) ≡ true → ends (x, y) (next rest) ≡ true)
      → Below bound opens ends (λ z. fitsX z.0 && fitsY z.1) (seq r s) (Seq P Q)
  seq_below ends g h room shrink in_parts out_of = record {
    sound = sound;
    complete = complete;
    halts = halts;
    some = let a = g.some in let b = h.some in ((a.0, b.0), a.1 ++ b.1, (a.1, b.1, refl, a.2, b.2));
  }
    where
      sound : (toks : List T) (z : X × Y) (rest : List T) → length toks < bound → seq r s toks ≡ Ok (z, rest)
          → Read ends (λ (z : X × Y). fitsX z.0 && fitsY z.1) (Seq P Q) toks z rest
      sound toks z rest short is =
          let o = bind_ok (r toks) (λ v. s v.1 >>= λ w. Ok ((v.0, w.0), w.1)) (z, rest) is in
          let x : X = (o.0).0 in
          let behind : List T = (o.0).1 in
          let a = g.sound toks x behind short o.1 in
          let t = bind_ok (s behind) (λ w. Ok ((x, w.0), w.1)) (z, rest) o.2 in
          let y : Y = (t.0).0 in
          let same = same_ok t.2 in
          let shorter = shrink x a.0 behind a.2 (subst (λ k. length k < bound) a.1 short) in
          let b = h.sound behind y (t.0).1 shorter t.1 in
          subst (λ (k : (X × Y) × List T). Read ends (λ (z : X × Y). fitsX z.0 && fitsY z.1) (Seq P Q) toks k.0 k.1) same (
            a.0 ++ b.0,
            rejoined toks a.0 behind b.0 (t.0).1 a.1 b.1,
            (a.0, b.0, refl, a.2, b.2),
            out_of x y b.0 (t.0).1 b.2 (subst (λ k. endsX x (next k) ≡ true) b.1 a.3) b.3,
            fit_both (fitsX x) (fitsY y) a.4 b.4,
          )

      complete : (z : X × Y) (used rest : List T) → length used < bound → Seq P Q z used → ends z (next rest) ≡ true
          → Outcome (fitsX z.0 && fitsY z.1) (seq r s (used ++ rest)) (z, rest)
      complete z used rest short p over =
          let whole : length (p.0 ++ p.1) < bound = subst (λ k. length k < bound) p.2 short in
          let parts = in_parts z.0 z.1 p.1 rest p.4 over in
          let first_short : length p.0 < bound = let e = length-append p.0 p.1 in omega arith in
          subst (λ k. Outcome (fitsX z.0 && fitsY z.1) (seq r s k) (z, rest)) (sym (apart used p.0 p.1 rest p.2))
          (both_outcomes (fitsX z.0) (fitsY z.1) (r (p.0 ++ (p.1 ++ rest))) s z.0 z.1 (p.1 ++ rest) rest
          (g.complete z.0 p.0 (p.1 ++ rest) first_short p.3 parts.0) (h.complete z.1 p.1 rest (shrink z.0 p.0 p.1 p.3 whole) p.4 parts.1))

      halts : (toks : List T) (why : Why) (n : ℕ) → length toks < bound → seq r s toks ≡ Err (fault why n)
          → Halts opens (λ (z : X × Y). fitsX z.0 && fitsY z.1) (seq r s) (Seq P Q) why toks n
      halts toks why n short is = elim (bind_err (r toks) (λ v. s v.1 >>= λ w. Ok ((v.0, w.0), w.1)) (fault why n) is) [
        | inl first ↦ halts_first opens fitsX fitsY r s P Q room h.some (g.halts toks why n short first)
        | inr on ↦
            let x : X = (on.0).0 in
            let behind : List T = (on.0).1 in
            let a = g.sound toks x behind short on.1 in
            let whole : length (a.0 ++ behind) < bound = subst (λ k. length k < bound) a.1 short in
            let first_short : length a.0 < bound = let e = length-append a.0 behind in omega arith in
            elim (bind_err (s behind) (λ w. Ok ((x, w.0), w.1)) (fault why n) on.2) [
              | inl second ↦ halts_second opens fitsX fitsY r s P Q room bound endsX g.complete x a.0 behind toks a.1 first_short a.2 a.3 a.4
                  (h.halts behind why n (shrink x a.0 behind a.2 whole) second)
              | inr never ↦ absurd (not_err never.2)
            ]
      ]
