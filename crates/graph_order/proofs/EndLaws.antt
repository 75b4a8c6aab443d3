-- A node of which all ways end has none with more steps than there are nodes that lead anywhere.
use Rattle.std.proofs.Common.{◌≡◌, refl, sym, subst, ℕ, zero, suc, Bool, true, false, List, [], length, ◌⊎◌, inl, inr, Contains, if◌then◌else◌, arith}
use Rattle.uno_model.specs.Circles.{Leads, step, on, HasAll, HasNoCircle, ends_within}
use Rattle.uno_model.proofs.CircleLaws.{ends_from, ends_more, ends_no_circle, next_ends, no_circle_ends, none_ends_at_once}

module _ {X : Type 0} (next : X → List X) (k : ℕ) where
  -- what leads on from nodes of which all ways end within so many steps
  unfoldable next_ending : X → List X
  next_ending x = if ends_within next k x then next x else []

  none_in : (x : X) → Contains [] x → ⊥
  none_in x (n, low, is) = omega (arith, low)

  is_ending : (x y : X) → Contains (next_ending x) y → Contains (next x) y × (ends_within next k x ≡ true)
  unfolding next_ending
  is_ending x y in' = by_test (ends_within next k x) refl in'
    where
      by_test : (b : Bool) → ends_within next k x ≡ b → Contains (if b then next x else []) y → Contains (next x) y × (ends_within next k x ≡ true)
      by_test true is there = (there, is)
      by_test false is there = absurd (none_in y there)

  leads_too : (a b : X) → Leads next_ending a b → Leads next a b
  leads_too a b (step a' b' in') = step a b (is_ending a b in').0
  leads_too a b (on a' c b' in' rest) = on a c b (is_ending a c in').0 (leads_too c b rest)

  first_ends : (a b : X) → Leads next_ending a b → ends_within next k a ≡ true
  first_ends a b (step a' b' in') = (is_ending a b in').1
  first_ends a b (on a' c b' in' rest) = (is_ending a c in').1

  no_circle : HasNoCircle next_ending
  no_circle a way = ends_no_circle next k a (first_ends a a way) (leads_too a a way)

  ending_next : (a b : X) → ends_within next k a ≡ true → Contains (next a) b → ends_within next k b ≡ true
  ending_next a b ends in' = by_steps k ends
    where
      by_steps : (n : ℕ) → ends_within next n a ≡ true → ends_within next n b ≡ true
      by_steps zero is = absurd (none_ends_at_once next a is)
      by_steps (suc n) is = ends_more next n (suc n) b (omega arith) (next_ends next n a b is in')

  there_too : (a b : X) → ends_within next k a ≡ true → Contains (next a) b → Contains (next_ending a) b
  unfolding next_ending
  there_too a b ends in' = subst (λ c. Contains (if c then next a else []) b) (sym ends) in'

  back : (d : ℕ) (a : X) → ends_within next_ending d a ≡ true → ends_within next k a ≡ true → ends_within next d a ≡ true
  back zero a ends all = absurd (none_ends_at_once next_ending a ends)
  back (suc d) a ends all = ends_from next d a (λ b in'. back d b (next_ends next_ending d a b ends (there_too a b all in')) (ending_next a b all in'))

  pub ends_soon : (left : List X) (a : X) → HasAll next left a → ends_within next k a ≡ true → ends_within next (suc (length left)) a ≡ true
  ends_soon left a all ends = back (suc (length left)) a (no_circle_ends next_ending (length left) left a no_circle refl (λ b on_way c in'. all b (on_this b on_way) c (is_ending b c in').0)) ends
    where
      on_this : (b : X) → (a ≡ b) ⊎ Leads next_ending a b → (a ≡ b) ⊎ Leads next a b
      on_this b (inl same) = inl same
      on_this b (inr way) = inr (leads_too a b way)
