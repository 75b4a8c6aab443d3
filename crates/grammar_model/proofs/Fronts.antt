-- Fronts of lists of tokens, what comes next behind them, and readings one after the other.
use Rattle.std.proofs.Common.{◌≡◌, ℕ, Bool, true, false, not, ◌&&◌, List, [], ◌∷◌, ◌++◌, None, Some, Result, Ok, Err}
use Rattle.std.proofs.Common.{refl, sym, ap, ◌∙◌, ◌⊎◌, inl, inr, append_assoc}
use Rattle.grammar_model.specs.Agreement.{Outcome, opens_none}
use Rattle.grammar_model.specs.Readings.{next, fault, ◌>>=◌}
use Rattle.grammar_model.specs.declared.fault.Fault.{Fault}
use Rattle.grammar_model.specs.declared.fault.Why.{Why}
use Rattle.grammar_model.specs.declared.fault.Why.TheVariants.{Unexpected, Nested}

module _ {T : Type 0} where
  -- what comes next behind a front depends on what comes next behind it alone
  pub same_next : (front more rest : List T) → next more ≡ next rest → next (front ++ more) ≡ next (front ++ rest)
  same_next [] more rest e = e
  same_next (t ∷ ts) more rest e = refl

  -- nothing comes next at the end alone
  pub none_next : (rest : List T) → next rest ≡ None → rest ≡ []
  none_next [] e = refl
  none_next (t ∷ ts) e = let bad : ⊥ = cc in absurd bad

  pub some_next : (t : T) (rest : List T) → next rest ≡ Some t → (after : List T) × (rest ≡ t ∷ after)
  some_next t [] e = let bad : ⊥ = cc in absurd bad
  some_next t (s ∷ ts) e = let same : s ≡ t = cc in (ts, ap (λ z. z ∷ ts) same)

  -- two parts and what stands behind them
  pub apart : (used p q rest : List T) → used ≡ p ++ q → used ++ rest ≡ p ++ (q ++ rest)
  apart used p q rest e = ap (λ z. z ++ rest) e ∙ append_assoc p q rest

  pub rejoined : (toks p behind q rest : List T) → toks ≡ p ++ behind → behind ≡ q ++ rest → toks ≡ (p ++ q) ++ rest
  rejoined toks p behind q rest e d = rw (e, d) (sym (append_assoc p q rest))

  -- tokens of which none opens anything
  pub quiet_append : (opens : T → Bool) (a b : List T) → opens_none opens a ≡ true → opens_none opens b ≡ true → opens_none opens (a ++ b) ≡ true
  quiet_append opens [] b p q = q
  quiet_append opens (t ∷ a) b p q = step (not (opens t)) (opens_none opens a) p (λ e. quiet_append opens a b e q)
    where
      step : (x y : Bool) → (x && y) ≡ true → (y ≡ true → opens_none opens (a ++ b) ≡ true) → (x && opens_none opens (a ++ b)) ≡ true
      step true y e go = go e
      step false y e go = e

  pub quiet_front : (opens : T → Bool) (a b : List T) → opens_none opens (a ++ b) ≡ true → opens_none opens a ≡ true
  quiet_front opens [] b p = refl
  quiet_front opens (t ∷ a) b p = step (not (opens t)) p (quiet_front opens a b)
    where
      step : (x : Bool) → (x && opens_none opens (a ++ b)) ≡ true → (opens_none opens (a ++ b) ≡ true → opens_none opens a ≡ true)
          → (x && opens_none opens a) ≡ true
      step true e go = go e
      step false e go = e

module _ {A B : Type 0} where
  -- what a reading after another one gives
  pub bind_ok : (r : Result A Fault) (f : A → Result B Fault) (b : B) → (r >>= f) ≡ Ok b → (a : A) × (r ≡ Ok a) × (f a ≡ Ok b)
  bind_ok (Ok a) f b e = (a, refl, e)
  bind_ok (Err d) f b e = absurd cc

  pub bind_err : (r : Result A Fault) (f : A → Result B Fault) (d : Fault) → (r >>= f) ≡ Err d → (r ≡ Err d) ⊎ ((a : A) × (r ≡ Ok a) × (f a ≡ Err d))
  bind_err (Ok a) f d e = inr (a, refl, e)
  bind_err (Err c) f d e = let same : c ≡ d = cc in inl (ap Err same)

  pub goes_on : (r : Result A Fault) (f : A → Result B Fault) (a : A) (z : Result B Fault) → r ≡ Ok a → f a ≡ z → (r >>= f) ≡ z
  goes_on r f a z is on = rw is on

  pub stops : (r : Result A Fault) (f : A → Result B Fault) (d : Fault) → r ≡ Err d → (r >>= f) ≡ Err d
  stops r f d is = rw is refl

-- what a text that goes wrong says
pub same_ok : {A : Type 0} {a b : A} → ◌≡◌ {A = Result A Fault} (Ok a) (Ok b) → a ≡ b
same_ok is = cc

pub not_err : {A : Type 0} {a : A} {e : Fault} → ◌≡◌ {A = Result A Fault} (Ok a) (Err e) → ⊥
not_err is = cc

pub not_ok : {A : Type 0} {a : A} {e : Fault} → ◌≡◌ {A = Result A Fault} (Err e) (Ok a) → ⊥
not_ok is = cc

pub same_err : {A : Type 0} {e d : Fault} → ◌≡◌ {A = Result A Fault} (Err e) (Err d) → e ≡ d
same_err is = cc

pub same_fault : {A : Type 0} {v w : Why} {m n : ℕ} → ◌≡◌ {A = Result A Fault} (Err (fault v m)) (Err (fault w n)) → (v ≡ w) × (m ≡ n)
same_fault is = let e = same_err is in (ap (λ (f : Fault). f.why) e, ap (λ (f : Fault). f.left) e)

pub unexpected_nested : Unexpected ≡ Nested → ⊥
unexpected_nested e = cc

-- an outcome within the limits is what was read
pub read_of : {A : Type 0} (b : Bool) (read : Result A Fault) (z : A) → b ≡ true → Outcome b read z → read ≡ Ok z
read_of true read z e o = o
read_of false read z e o = let bad : ⊥ = cc in absurd bad

-- two parts keep the limits where both do
pub fit_both : (a b : Bool) → a ≡ true → b ≡ true → (a && b) ≡ true
fit_both a b e d = rw (e, d) refl

pub both_fit : (a b : Bool) → (a && b) ≡ true → (a ≡ true) × (b ≡ true)
both_fit true b e = (refl, e)
both_fit false b e = let bad : ⊥ = cc in absurd bad
