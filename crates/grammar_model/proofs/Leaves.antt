-- The readings that look at tokens themselves agree with their relations: one token, two that touch, none, and where nothing more may open.
use Rattle.std.proofs.Common.{◌≡◌, ℕ, Bool, true, false, List, [], ◌∷◌, ◌++◌, length, Option, None, Some, Result, Ok, Err}
use Rattle.std.proofs.Common.{if◌then◌else◌, refl, sym, ap, subst, ◌∙◌, ◌⊎◌, inl, inr}
use Rattle.grammar_model.specs.Agreement.{Agrees, Halts, OpenedWithin, Outcome}
use Rattle.grammar_model.specs.Readings.{Reads, next, fault, halt, taken, one, belonging, touched, touching, empty, closed}
use Rattle.grammar_model.specs.Relations.{One, Touching, Empty}
use Rattle.grammar_model.specs.declared.fault.Fault.{Fault}
use Rattle.grammar_model.specs.declared.fault.Why.{Why}
use Rattle.grammar_model.specs.declared.fault.Why.TheVariants.{Unexpected, Nested}
use Rattle.grammar_model.proofs.Bounded.{Read}
use Rattle.grammar_model.proofs.Fronts.{none_next, same_ok, not_err, not_ok, same_err, same_fault, unexpected_nested}

-- over whatever comes next, and no limit to keep
abbrev pub always : {T X : Type 0} → X → Option T → Bool
always x o = true

abbrev pub all_fit : {X : Type 0} → X → Bool
all_fit x = true

-- nothing was read
pub opened_none : {T X : Type 0} (opens : T → Bool) (fits : X → Bool) (P : X → List T → Type 0) → OpenedWithin opens fits P []
opened_none opens fits P = record { up_to = []; behind = []; parts = refl; quiet = refl; within = inl refl }

-- a reading that goes wrong at once
halts_here : {T X : Type 0} (opens : T → Bool) (fits : X → Bool) (r : Reads T X) (P : X → List T → Type 0) (toks : List T) (why : Why) (n : ℕ)
    → (x : X) × (used : List T) × P x used → ◌≡◌ {A = Result (X × List T) Fault} (Err (fault Unexpected (length toks))) (Err (fault why n))
    → ((more : List T) → next more ≡ next toks → r more ≡ Err (fault Unexpected (length more))) → Halts opens fits r P why toks n
halts_here {T} {X} opens fits r P toks why n some is steady =
    let same = same_fault is in
    record {
      front = [];
      rest = toks;
      whole = refl;
      left = sym same.1;
      steady = λ more e. steady more e ∙ ap (λ (k : Why). Err (fault k (length more))) same.0;
      tree = some.0;
      more = some.1;
      viable = some.2;
      nested = λ e. absurd (unexpected_nested (same.0 ∙ e));
      opened = opened_none opens fits P;
    }

-- ---- one token

module _ {T X : Type 0} (f : T → Option X) where
  taken_ok : (o : Option X) (toks behind rest : List T) (x : X) → taken o toks behind ≡ Ok (x, rest) → (o ≡ Some x) × (behind ≡ rest)
  taken_ok None toks behind rest x is = absurd (not_ok is)
  taken_ok (Some y) toks behind rest x is = let same = same_ok is in (ap (λ (k : X × List T). Some k.0) same, ap (λ (k : X × List T). k.1) same)

  taken_err : (o : Option X) (toks behind : List T) (e : Fault) → taken o toks behind ≡ Err e → o ≡ None
  taken_err None toks behind e is = refl
  taken_err (Some y) toks behind e is = absurd (not_err is)

  -- a token that is not taken
  not_taken : (t : T) (ts : List T) → f t ≡ None → (more : List T) → next more ≡ Some t → one f more ≡ Err (fault Unexpected (length more))
  not_taken t ts none [] e = refl
  not_taken t ts none (s ∷ more) e =
      let same : s ≡ t = cc in
      let is : f s ≡ None = ap f same ∙ none in
      rw is refl

  module _ (opens : T → Bool) (t0 : T) (x0 : X) (is0 : f t0 ≡ Some x0) where
    sound_one : (toks : List T) (x : X) (rest : List T) → one f toks ≡ Ok (x, rest) → Read always all_fit (One f) toks x rest
    sound_one [] x rest is = absurd (not_ok is)
    sound_one (t ∷ ts) x rest is =
        let o = taken_ok (f t) (t ∷ ts) ts rest x is in
        (t ∷ [], ap (λ z. t ∷ z) o.1, (t, refl, o.0), refl, refl)

    complete_one : (x : X) (used rest : List T) → One f x used → one f (used ++ rest) ≡ Ok (x, rest)
    complete_one x used rest p = rw (p.1, p.2) refl

    halts_one : (toks : List T) (why : Why) (n : ℕ) → one f toks ≡ Err (fault why n) → Halts opens all_fit (one f) (One f) why toks n
    halts_one [] why n is = halts_here opens all_fit (one f) (One f) [] why n (x0, t0 ∷ [], (t0, refl, is0)) is (λ more e. rw (none_next more e) refl)
    halts_one (t ∷ ts) why n is =
        let none = taken_err (f t) (t ∷ ts) ts (fault why n) is in
        let was : taken None (t ∷ ts) ts ≡ Err (fault why n) = subst (λ o. taken o (t ∷ ts) ts ≡ Err (fault why n)) none is in
        halts_here opens all_fit (one f) (One f) (t ∷ ts) why n (x0, t0 ∷ [], (t0, refl, is0)) was (λ more e. not_taken t ts none more e)

    pub one_agrees : Agrees opens always all_fit (one f) (One f)
    one_agrees = record {
      sound = sound_one;
      complete = λ x used rest p over. complete_one x used rest p;
      halts = halts_one;
      some = (x0, t0 ∷ [], (t0, refl, is0));
    }

-- ---- no token

pub empty_agrees : {T X : Type 0} (opens : T → Bool) (fits : X → Bool) (x : X) → fits x ≡ true → Agrees opens always fits (empty x) (Empty x)
empty_agrees {T} {X} opens fits x fit = record {
  sound = λ toks y rest is. let same = same_ok is in
      subst (λ (k : X × List T). Read always fits (Empty x) toks k.0 k.1) same ([], refl, (refl, refl), refl, fit);
  complete = λ y used rest p over. outcome y used rest p.0 p.1;
  halts = λ toks why n is. absurd (not_err is);
  some = (x, [], (refl, refl));
}
  where
    outcome : (y : X) (used rest : List T) → y ≡ x → used ≡ [] → Outcome {A = X × List T} (fits y) (empty x (used ++ rest)) (y, rest)
    outcome y used rest e d =
        let here : Outcome {A = X × List T} (fits x) (empty x ([] ++ rest)) (x, rest) =
        subst (λ b. Outcome {A = X × List T} b (empty x ([] ++ rest)) (x, rest)) (sym fit) refl in
        subst (λ k. Outcome {A = X × List T} (fits k) (empty x (used ++ rest)) (k, rest)) (sym e)
        (subst (λ u. Outcome {A = X × List T} (fits x) (empty x (u ++ rest)) (x, rest)) (sym d) here)

-- ---- nothing more may open

-- a text that would have to open something, and keeps no limit
abbrev pub none_fits : {X : Type 0} → X → Bool
none_fits x = false

module _ {T X : Type 0} (opens : T → Bool) (c : Option T → Bool) (P : X → List T → Type 0) where
  closed_wrong : (b : Bool) (toks : List T) (e : Fault) → ◌≡◌ {A = Result (X × List T) Fault} (if b then halt Nested toks else halt Unexpected toks) (Err e)
      → ((b ≡ true) × (fault Nested (length toks) ≡ e)) ⊎ ((b ≡ false) × (fault Unexpected (length toks) ≡ e))
  closed_wrong true toks e is = inl (refl, cc)
  closed_wrong false toks e is = inr (refl, cc)

  closed_not_ok : (b : Bool) (toks : List T) (z : X × List T) → ◌≡◌ {A = Result (X × List T) Fault} (if b then halt Nested toks else halt Unexpected toks)
      (Ok z) → ⊥
  closed_not_ok true toks z is = not_ok is
  closed_not_ok false toks z is = not_ok is

  closed_on : (toks : List T) → c (next toks) ≡ true → closed c toks ≡ halt {T = T} {X = X} Nested toks
  closed_on toks is = rw is refl

  closed_off : (toks : List T) → c (next toks) ≡ false → closed c toks ≡ halt {T = T} {X = X} Unexpected toks
  closed_off toks is = rw is refl

  -- each text begins with a token that passes the test, and each such token opens something and begins a text
  pub closed_agrees : (c None ≡ false) → ((x : X) (used rest : List T) → P x used → c (next (used ++ rest)) ≡ true)
      → ((t : T) → c (Some t) ≡ true → (opens t ≡ true) × ((x : X) × (tail : List T) × P x (t ∷ tail))) → (x : X) × (used : List T) × P x used
      → Agrees opens always none_fits (closed c) P
  closed_agrees none first opening some = record {
    sound = λ toks x rest is. absurd (closed_not_ok (c (next toks)) toks (x, rest) is);
    complete = λ x used rest p over. (length (used ++ rest), closed_on (used ++ rest) (first x used rest p));
    halts = λ toks why n is. elim (closed_wrong (c (next toks)) toks (fault why n) is) [
      | inl on ↦ nested toks why n on.0 on.1
      | inr off ↦ halts_here opens none_fits (closed c) P toks why n some (ap Err off.1) (λ more e. closed_off more (ap c e ∙ off.0))
    ];
    some = some;
  }
    where
      from_next : (toks : List T) → c (next toks) ≡ true → (t : T) × (ts : List T) × (toks ≡ t ∷ ts) × (c (Some t) ≡ true)
      from_next [] is = absurd (let bad : true ≡ false = sym is ∙ none in let worse : ⊥ = cc in worse)
      from_next (t ∷ ts) is = (t, ts, refl, is)

      nested : (toks : List T) (why : Why) (n : ℕ) → c (next toks) ≡ true → fault Nested (length toks) ≡ fault why n
          → Halts opens none_fits (closed c) P why toks n
      nested toks why n on same =
          let t = from_next toks on in
          let o = opening t.0 t.3 in
          let reason : Nested ≡ why = ap (λ (f : Fault). f.why) same in
          record {
            front = [];
            rest = toks;
            whole = refl;
            left = sym (ap (λ (f : Fault). f.left) same);
            steady = λ more e. closed_on more (ap c e ∙ on) ∙ ap (λ (k : Why). Err (fault k (length more))) reason;
            tree = some.0;
            more = some.1;
            viable = some.2;
            nested = λ e. (t.0, t.1, t.2, o.0, (o.1).0, (o.1).1, (o.1).2);
            opened = opened_none opens none_fits P;
          }

-- ---- two tokens that touch

module _ {T X : Type 0} (f : T → Option X) (belongs : T → T → Bool) where
  belonging_ok : (test : T → Bool) (x y : X) (toks rest : List T) → belonging test x toks ≡ Ok (y, rest)
      → (s : T) × (toks ≡ s ∷ rest) × (test s ≡ true) × (x ≡ y)
  belonging_ok test x y [] rest is = absurd (not_ok is)
  belonging_ok test x y (s ∷ ts) rest is = by_test (test s) refl is
    where
      by_test : (b : Bool) → test s ≡ b → ◌≡◌ {A = Result (X × List T) Fault} (if b then Ok (x, ts) else halt Unexpected (s ∷ ts)) (Ok (y, rest))
          → (k : T) × (s ∷ ts ≡ k ∷ rest) × (test k ≡ true) × (x ≡ y)
      by_test true on e = let same = same_ok e in (s, ap (λ (k : X × List T). s ∷ k.1) same, on, ap (λ (k : X × List T). k.0) same)
      by_test false off e = absurd (not_ok e)

  touched_ok : (o : Option X) (test : T → Bool) (toks behind : List T) (y : X) (rest : List T) → touched o test toks behind ≡ Ok (y, rest)
      → (s : T) × (behind ≡ s ∷ rest) × (test s ≡ true) × (o ≡ Some y)
  touched_ok None test toks behind y rest is = absurd (not_ok is)
  touched_ok (Some x) test toks behind y rest is = let b = belonging_ok test x y behind rest is in (b.0, b.1, b.2, ap Some b.3)

  belonging_err : (test : T → Bool) (x : X) (toks : List T) (e : Fault) → belonging test x toks ≡ Err e
      → (fault Unexpected (length toks) ≡ e) × ((more : List T) → next more ≡ next toks → belonging test x more ≡ Err (fault Unexpected (length more)))
  belonging_err test x [] e is = (same_err is, λ more d. rw (none_next more d) refl)
  belonging_err test x (s ∷ ts) e is = by_test (test s) refl is
    where
      still : test s ≡ false → (more : List T) → next more ≡ Some s → belonging test x more ≡ Err (fault Unexpected (length more))
      still off [] d = refl
      still off (k ∷ more) d =
          let same : k ≡ s = cc in
          let is_off : test k ≡ false = ap test same ∙ off in
          rw is_off refl

      by_test : (b : Bool) → test s ≡ b → ◌≡◌ {A = Result (X × List T) Fault} (if b then Ok (x, ts) else halt Unexpected (s ∷ ts)) (Err e)
          → (fault Unexpected (length (s ∷ ts)) ≡ e) × ((more : List T) → next more ≡ Some s → belonging test x more ≡ Err (fault Unexpected (length more)))
      by_test true on d = absurd (not_err d)
      by_test false off d = (same_err d, still off)

  -- each first token has one that belongs to it
  module _ (opens : T → Bool) (partner : (t : T) (x : X) → f t ≡ Some x → (s : T) × (belongs t s ≡ true)) (t0 : T) (x0 : X) (is0 : f t0 ≡ Some x0) where
    some_touching : (x : X) × (used : List T) × Touching f belongs x used
    some_touching = let s = partner t0 x0 is0 in (x0, t0 ∷ (s.0 ∷ []), (t0, s.0, refl, is0, s.1))

    sound_touching : (toks : List T) (x : X) (rest : List T) → touching f belongs toks ≡ Ok (x, rest) → Read always all_fit (Touching f belongs) toks x rest
    sound_touching [] x rest is = absurd (not_ok is)
    sound_touching (t ∷ ts) x rest is =
        let o = touched_ok (f t) (belongs t) (t ∷ ts) ts x rest is in
        (t ∷ (o.0 ∷ []), ap (λ z. t ∷ z) o.1, (t, o.0, refl, o.3, o.2), refl, refl)

    complete_touching : (x : X) (used rest : List T) → Touching f belongs x used → touching f belongs (used ++ rest) ≡ Ok (x, rest)
    complete_touching x used rest p = rw (p.2, p.3, p.4) refl

    touching_none : (t : T) → f t ≡ None → (more : List T) → next more ≡ Some t → touching f belongs more ≡ Err (fault Unexpected (length more))
    touching_none t none [] e = refl
    touching_none t none (s ∷ more) e =
        let same : s ≡ t = cc in
        let is : f s ≡ None = ap f same ∙ none in
        rw is refl

    halts_touching : (toks : List T) (why : Why) (n : ℕ) → touching f belongs toks ≡ Err (fault why n)
        → Halts opens all_fit (touching f belongs) (Touching f belongs) why toks n
    halts_touching [] why n is = halts_here opens all_fit (touching f belongs) (Touching f belongs) [] why n some_touching is
        (λ more e. rw (none_next more e) refl)
    halts_touching (t ∷ ts) why n is = by_first (f t) refl is
      where
        by_first : (o : Option X) → f t ≡ o → touched o (belongs t) (t ∷ ts) ts ≡ Err (fault why n)
            → Halts opens all_fit (touching f belongs) (Touching f belongs) why (t ∷ ts) n
        by_first None none e = halts_here opens all_fit (touching f belongs) (Touching f belongs) (t ∷ ts) why n some_touching e (touching_none t none)
        by_first (Some x) is_first e =
            let wrong = belonging_err (belongs t) x ts (fault why n) e in
            let s = partner t x is_first in
            let reason : Unexpected ≡ why = ap (λ (k : Fault). k.why) wrong.0 in
            record {
              front = t ∷ [];
              rest = ts;
              whole = refl;
              left = sym (ap (λ (k : Fault). k.left) wrong.0);
              steady = λ more d. ap (λ o. touched o (belongs t) (t ∷ more) more) is_first
                  ∙ (wrong.1 more d ∙ ap (λ (k : Why). Err (fault k (length more))) reason);
              tree = x;
              more = s.0 ∷ [];
              viable = (t, s.0, refl, is_first, s.1);
              nested = λ d. absurd (unexpected_nested (reason ∙ d));
              opened = record {
                up_to = t ∷ [];
                behind = [];
                parts = refl;
                quiet = refl;
                within = inr (x, s.0 ∷ [], (t, s.0, refl, is_first, s.1), refl);
              };
            }

    pub touching_agrees : Agrees opens always all_fit (touching f belongs) (Touching f belongs)
    touching_agrees = record {
      sound = sound_touching;
      complete = λ x used rest p over. complete_touching x used rest p;
      halts = halts_touching;
      some = some_touching;
    }
