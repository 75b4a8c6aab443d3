-- Where a reader agrees with a relation: what it reads is spelled, what is spelled is read, and what breaks the protocol does so however the bytes go on.
use Rattle.std.proofs.Common.{◌≡◌, ℕ, Bool, true, false, List, [], ◌++◌, Option, None, Some, Result, Ok, Err}
use Rattle.std.proofs.Common.{if◌then◌else◌, refl, sym, ap, subst, ◌∙◌, ◌⊎◌, inl, inr, append_assoc}
use Rattle.std.proofs.lemmas.List.{append-nil}
use Rattle.urp_model.specs.Agreement.{Agrees}
use Rattle.urp_model.specs.Parts.{◌>>=◌, judged}
use Rattle.urp_model.specs.declared.fault.Fault.{Fault}
use Rattle.urp_model.specs.declared.fault.Fault.TheVariants.{Bad}
use Rattle.urp_model.specs.declared.reason.Reason.{Reason}
use Rattle.uno_model.proofs.Options.{same_some, none_some}

module _ {X A : Type 0} (mk : X → List ℕ → A) where
  -- a relation that says the same
  pub weaken : {r : List ℕ → Result A Fault} {P Q : X → List ℕ → Type 0} → Agrees mk r P → ((x : X) (used : List ℕ) → P x used → Q x used)
      → ((x : X) (used : List ℕ) → Q x used → P x used) → Agrees mk r Q
  weaken g to from = record {
    sound = λ bytes a is. let s = g.sound bytes a is in (s.0, s.1, s.2, s.3, s.4, to s.0 s.1 s.5);
    complete = λ x used rest q. g.complete x used rest (from x used q);
    steady = g.steady;
  }

  -- a reader that gives the same
  pub replaced : {r r' : List ℕ → Result A Fault} {P : X → List ℕ → Type 0} → ((bytes : List ℕ) → r bytes ≡ r' bytes) → Agrees mk r' P → Agrees mk r P
  replaced same g = record {
    sound = λ bytes a is. g.sound bytes a (sym (same bytes) ∙ is);
    complete = λ x used rest p. same (used ++ rest) ∙ g.complete x used rest p;
    steady = λ bytes more e is. same (bytes ++ more) ∙ g.steady bytes more e (sym (same bytes) ∙ is);
  }

  -- nothing is left to read
  pub done_agrees : (x : X) → Agrees mk (λ rest. Ok (mk x rest)) (λ y used. (y ≡ x) × (used ≡ []))
  done_agrees x = record {
    sound = λ bytes a is. (x, [], bytes, ok_is is, refl, (refl, refl));
    complete = λ y used rest q. rw (q.0, q.1) refl;
    steady = λ bytes more e is. absurd (ok_err is);
  }
    where
      ok_is : {a b : A} → ◌≡◌ {A = Result A Fault} (Ok a) (Ok b) → b ≡ a
      ok_is is = cc

      ok_err : {a : A} {e : Fault} → ◌≡◌ {A = Result A Fault} (Ok a) (Err e) → ⊥
      ok_err is = cc

  -- a rule is broken
  pub fail_agrees : (reason : Reason) → Agrees mk (λ rest. Err (Bad reason)) (λ x used. ⊥)
  fail_agrees reason = record {
    sound = λ bytes a is. absurd (err_ok is);
    complete = λ x used rest q. absurd q;
    steady = λ bytes more e is. is;
  }
    where
      err_ok : {a : A} {e : Fault} → ◌≡◌ {A = Result A Fault} (Err e) (Ok a) → ⊥
      err_ok is = cc

  -- the one or the other, by a test
  pub choice_agrees : (b : Bool) {r r' : List ℕ → Result A Fault} {P Q : X → List ℕ → Type 0} → (b ≡ true → Agrees mk r P) → (b ≡ false → Agrees mk r' Q)
      → Agrees mk (λ bytes. if b then r bytes else r' bytes) (λ x used. ((b ≡ true) × P x used) ⊎ ((b ≡ false) × Q x used))
  choice_agrees true first second = weaken (first refl) (λ x used p. inl (refl, p)) (λ x used c. elim c [ inl p ↦ p.1 | inr p ↦ absurd (let bad : ⊥ = cc (p.0) in bad) ])
  choice_agrees false first second = weaken (second refl) (λ x used p. inr (refl, p)) (λ x used c. elim c [ inl p ↦ absurd (let bad : ⊥ = cc (p.0) in bad) | inr p ↦ p.1 ])

  -- a rule that is asked
  pub if_agrees : (b : Bool) (reason : Reason) {r : List ℕ → Result A Fault} {P : X → List ℕ → Type 0} → (b ≡ true → Agrees mk r P)
      → Agrees mk (λ bytes. if b then r bytes else Err (Bad reason)) (λ x used. (b ≡ true) × P x used)
  if_agrees b reason first =
      weaken (choice_agrees b first (λ is. fail_agrees reason)) (λ x used c. elim c [ inl p ↦ p | inr p ↦ absurd p.1 ]) (λ x used p. inl p)

  -- a judgement that gives something
  pub judged_agrees : {Y : Type 0} (reason : Reason) (o : Option Y) (f : Y → List ℕ → Result A Fault) {P : Y → X → List ℕ → Type 0} → ((y : Y) → o ≡ Some y → Agrees mk (f y) (P y))
      → Agrees mk (λ bytes. judged reason o >>= λ y. f y bytes) (λ x used. (y : Y) × (o ≡ Some y) × P y x used)
  judged_agrees reason None f each = weaken (fail_agrees reason) (λ x used p. absurd p) (λ x used p. absurd (none_some p.1))
  judged_agrees reason (Some y) f {P = P} each =
      weaken (each y refl) (λ x used p. (y, refl, p)) (λ x used p. subst (λ z. P z x used) (sym (same_some p.1)) p.2)

-- one thing after the other
abbrev pub Then : {X Y : Type 0} → (X → List ℕ → Type 0) → (X → Y → List ℕ → Type 0) → Y → List ℕ → Type 0
Then {X = X} P Q y used = (x : X) × (p : List ℕ) × (q : List ℕ) × (used ≡ p ++ q) × P x p × Q x y q

-- two parts and what stands behind them
apart : (used p q rest : List ℕ) → used ≡ p ++ q → used ++ rest ≡ p ++ (q ++ rest)
apart used p q rest e = ap (λ z. z ++ rest) e ∙ append_assoc p q rest

rejoined : (bytes p behind q rest : List ℕ) → bytes ≡ p ++ behind → behind ≡ q ++ rest → bytes ≡ (p ++ q) ++ rest
rejoined bytes p behind q rest e d = rw (e, d) (sym (append_assoc p q rest))

module _ {A B : Type 0} where
  -- what a reading after another one gives
  bind_ok : (r : Result A Fault) (f : A → Result B Fault) (b : B) → (r >>= f) ≡ Ok b → (a : A) × (r ≡ Ok a) × (f a ≡ Ok b)
  bind_ok (Ok a) f b e = (a, refl, e)
  bind_ok (Err d) f b e = absurd cc

  bind_err : (r : Result A Fault) (f : A → Result B Fault) (d : Fault) → (r >>= f) ≡ Err d → (r ≡ Err d) ⊎ ((a : A) × (r ≡ Ok a) × (f a ≡ Err d))
  bind_err (Ok a) f d e = inr (a, refl, e)
  bind_err (Err c) f d e = let same : c ≡ d = cc in inl (ap Err same)

  goes_on : (r : List ℕ → Result A Fault) (f : A → Result B Fault) (bytes all : List ℕ) (a : A) (z : Result B Fault) → bytes ≡ all → r all ≡ Ok a → f a ≡ z → (r bytes >>= f) ≡ z
  goes_on r f bytes all a z e is on = rw (e, is) on

module _ {X A Y B : Type 0} (mk : X → List ℕ → A) (mk' : Y → List ℕ → B) where
  -- a reader after another one
  pub bind_agrees : {r : List ℕ → Result A Fault} {P : X → List ℕ → Type 0} (f : A → Result B Fault) {Q : X → Y → List ℕ → Type 0} → Agrees mk r P
      → ((x : X) → Agrees mk' (λ rest. f (mk x rest)) (Q x))
      → Agrees mk' (λ bytes. r bytes >>= f) (Then P Q)
  bind_agrees {r = r} f g h = record {
    sound = λ bytes b is.
        let o = bind_ok (r bytes) f b is in
        let s = g.sound bytes o.0 o.1 in
        let t = (h s.0).sound s.2 b (ap f (sym s.3) ∙ o.2) in
        (t.0, s.1 ++ t.1, t.2, t.3, rejoined bytes s.1 s.2 t.1 t.2 s.4 t.4, (s.0, s.1, t.1, refl, s.5, t.5));
    complete = λ y used rest q.
        goes_on r f (used ++ rest) (q.1 ++ (q.2 ++ rest)) (mk q.0 (q.2 ++ rest)) (Ok (mk' y rest)) (apart used q.1 q.2 rest q.3)
        (g.complete q.0 q.1 (q.2 ++ rest) q.4) ((h q.0).complete y q.2 rest q.5);
    steady = λ bytes more e is. elim (bind_err (r bytes) f (Bad e) is) [
      | inl broken ↦ ap (λ z. z >>= f) (g.steady bytes more e broken)
      | inr on ↦
          let s = g.sound bytes on.0 on.1 in
          goes_on r f (bytes ++ more) (s.1 ++ (s.2 ++ more)) (mk s.0 (s.2 ++ more)) (Err (Bad e)) (apart bytes s.1 s.2 more s.4)
          (g.complete s.0 s.1 (s.2 ++ more) s.5) ((h s.0).steady s.2 more e (ap f (sym s.3) ∙ on.2))
    ];
  }

  -- a reader, and what is made of what it reads
  pub map_agrees : {r : List ℕ → Result A Fault} {P : X → List ℕ → Type 0} (f : A → Result B Fault) (g : X → Y) → Agrees mk r P
      → ((x : X) (rest : List ℕ) → f (mk x rest) ≡ Ok (mk' (g x) rest))
      → Agrees mk' (λ bytes. r bytes >>= f) (λ y used. (x : X) × (y ≡ g x) × P x used)
  map_agrees {P = P} f g h makes =
      weaken mk' (bind_agrees f h (λ x. replaced mk' (makes x) (done_agrees mk' (g x))))
      (λ y used t. (t.0, t.5.0, subst (P t.0) (sym (t.3 ∙ ap (λ z. t.1 ++ z) t.5.1 ∙ append-nil t.1)) t.4))
      (λ y used t. (t.0, used, [], sym (append-nil used), t.2, (t.1, refl)))
