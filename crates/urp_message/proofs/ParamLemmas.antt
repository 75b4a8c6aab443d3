-- The types of the values that are carried for parameters, one parameter after the other.
use Rattle.std.proofs.Common.{◌≡◌, ℕ, zero, suc, ◌+◌, ◌<◌, ◌≤◌, Bool, true, false, List, [], ◌∷◌, ◌++◌, length, drop, if◌then◌else◌, refl, sym, ap, ◌∙◌, arith}
use Rattle.std.specs.Prelude.{slice_get}
use Rattle.std.proofs.lemmas.List.{drop_all}
use Rattle.message_model.specs.Calls.{kinds_on}
use Rattle.uno_model.specs.Entities.{Param}
use Rattle.uno_model.specs.Kinds.{Kind}
use Rattle.uno_model.specs.declared.way.Way.{Way}
use Rattle.type_registry.specs.Own.{one_or_none}

-- the first parameter's type, if it is carried, stands before the others
kinds_step : (test : Way → Bool) (p : Param) (ps : List Param) → kinds_on test (p ∷ ps) ≡ kinds_on test (p ∷ []) ++ kinds_on test ps
unfolding kinds_on
kinds_step test p ps = by_test (test p.way)
  where
    by_test : (b : Bool) → (if b then p.kind ∷ kinds_on test ps else kinds_on test ps) ≡ (if b then p.kind ∷ [] else []) ++ kinds_on test ps
    by_test true = refl
    by_test false = refl

-- so does that of the parameter at a place before those behind it
kinds_at_place : (test : Way → Bool) (ps : List Param) (i : ℕ) → i < length ps
    → kinds_on test (drop i ps) ≡ kinds_on test (one_or_none (slice_get ps i)) ++ kinds_on test (drop (suc i) ps)
kinds_at_place test [] i within = absurd (omega (arith, within))
kinds_at_place test (p ∷ ps) zero within = kinds_step test p ps
kinds_at_place test (p ∷ ps) (suc i) within = kinds_at_place test ps i (omega (arith, within))

module _ (test : Way → Bool) (ps : List Param) (i : ℕ) where
  -- the types of these, and then of those behind
  pub at_place : (here : List Kind) → i < length ps → here ≡ kinds_on test (one_or_none (slice_get ps i)) → kinds_on test (drop i ps) ≡ here ++ kinds_on test (drop (i + 1) ps)
  at_place here within is =
      let next : suc i ≡ i + 1 = omega arith in
      kinds_at_place test ps i within ∙ ap (λ z. z ++ kinds_on test (drop (suc i) ps)) (sym is) ∙ ap (λ n. here ++ kinds_on test (drop n ps)) next

  -- none is left
  pub none_left : length ps ≤ i → kinds_on test (drop i ps) ≡ []
  unfolding kinds_on
  none_left past = ap (λ xs. kinds_on test xs) (drop_all i ps past)
