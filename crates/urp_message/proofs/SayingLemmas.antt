-- What a message may say, test by test.
use Rattle.std.specs.Prelude.{◌==◌}
use Rattle.std.proofs.lemmas.Bool.{eqb-true}
use Rattle.std.proofs.Common.{◌≡◌, ◌≢◌, ℕ, ◌^◌, ◌<◌, ◌≤◌, Bool, true, false, List, [], ◌∷◌, length, slice_get, Option}
use Rattle.std.proofs.Common.{None, Some, option_map, IsTrue, ◌↔◌, refl, sym, ap, subst, ◌∙◌, arith}
use Rattle.message_model.specs.Calls.{acquire_number, release_number, numbered, may_raise}
use Rattle.message_model.specs.Messages.{raised}
use Rattle.message_model.specs.Sayable.{Fill, AnswerFits}
use Rattle.type_registry.specs.Functions.{lent_function}
use Rattle.type_registry.specs.declared.function.FunctionRef.{FunctionRef}
use Rattle.uno_model.specs.Entities.{Entity}
use Rattle.uno_model.specs.Fits.{Fits, FitEach}
use Rattle.uno_model.specs.Functions.{Function as Called, functions_of}
use Rattle.uno_model.specs.Kinds.{Kind}
use Rattle.uno_model.specs.Kinds as kd
use Rattle.uno_model.specs.Types.{is_type}
use Rattle.uno_model.specs.Values.{Plain, depth, depth_in}
use Rattle.urp_message.specs.Saying.{FindsCalled, ExceptionFits}

-- ---- functions

-- the function that is found is the one that is called, and where none is, none is called
pub finds : (reg : List Entity) (face name other : List ℕ) (number : ℕ) (found : Option FunctionRef) → option_map lent_function found ≡ slice_get (functions_of reg name) number
    → name ≡ face → true ≡ is_type reg (kd.interface other) → other ≡ face → number ≢ acquire_number → number ≢ release_number → number < 2 ^ 16
    → FindsCalled reg face number found
unfolding numbered
finds reg face name other number None is names told others no_acquire no_release small =
    λ f is_called.
    let none : None ≡ slice_get (functions_of reg face) number = is ∙ ap (λ n. slice_get (functions_of reg n) number) names in
    let bad : ◌≡◌ {A = Option Called} None (Some f) = none ∙ is_called.found in cc
finds reg face name other number (Some f) is names told others no_acquire no_release small =
    record {
      interface = subst (λ n. is_type reg (kd.interface n) ≡ true) others (sym told);
      found = ap (λ n. slice_get (functions_of reg n) number) (sym names) ∙ sym is;
      small = small;
      no_acquire = no_acquire;
      no_release = no_release;
    }

-- ---- exceptions

-- any is no exception
no_any : (reg : List Entity) (f : Called) (k : Kind) → may_raise reg f k ≡ true → k ≢ kd.any
unfolding may_raise
no_any reg f k may is = let bad : may_raise reg f kd.any ≡ true = subst (λ j. may_raise reg f j ≡ true) is may in cc

pub exception_told : (reg : List Entity) (f : Called) (k : Kind) (v : Plain) → ExceptionFits reg f k v ↔ AnswerFits reg f (raised k v)
unfolding Fits depth
exception_told reg f k v =
    ((λ e. (e.0, (refl, no_any reg f k e.0, e.1, e.2), omega (arith, e.3))), (λ a. (a.0, a.1.2, a.1.3, omega (arith, a.2))))

pub through : {A B C : Type 0} → (A ↔ B) → (B ↔ C) → A ↔ C
through x y = ((λ a. y.0 (x.0 a)), (λ c. x.1 (y.1 c)))

-- ---- values

-- the first value and the others
one_filled : (reg : List Entity) (v : Plain) (vs : List Plain) (k : Kind) (ks : List Kind) → ((Fits reg v k × (depth v ≤ 64)) × Fill reg vs ks) ↔ Fill reg (v ∷ vs) (k ∷ ks)
unfolding FitEach depth_in
one_filled reg v vs k ks = (
  (λ p. record { fit = (p.0.0, p.1.fit); deep = omega (arith, p.0.1, p.1.deep) }),
  (λ f. ((f.fit.0, omega (arith, f.deep)), record { fit = f.fit.1; deep = omega (arith, f.deep) })),
)

-- no values fit no types, and no others do
nothing_fills : (reg : List Entity) (vs : List Plain) → (length vs == 0) ≡ true → Fill reg vs []
unfolding FitEach depth_in
nothing_fills reg [] none = record { fit = tt; deep = omega arith }
nothing_fills reg (v ∷ vs) none = let bad : ⊥ = omega (arith, eqb-true (length (v ∷ vs)) 0 none) in absurd bad

fills_nothing : (reg : List Entity) (vs : List Plain) → Fill reg vs [] → (length vs == 0) ≡ true
unfolding FitEach
fills_nothing reg [] fill = refl
fills_nothing reg (v ∷ vs) fill = absurd fill.fit

-- values that are left, the types of those that are left, and those behind the next parameter
module _ (reg : List Entity) (left : List Plain) (ks after : List Kind) (all : Type 0) (kept : Fill reg left ks ↔ all) where
  -- the next parameter carries no value
  pub passed_over : ks ≡ after → Fill reg left after ↔ all
  passed_over is = subst (λ zs. Fill reg left zs ↔ all) is kept

  module _ (k : Kind) (is : ks ≡ k ∷ after) where
    -- no value is left for it
    pub lacks_one : left ≡ [] → IsTrue false ↔ all
    unfolding FitEach
    lacks_one none = ((λ bad. cc), (λ a. absurd (none_fits (subst (λ zs. Fill reg zs (k ∷ after)) none (subst (λ zs. Fill reg left zs) is (kept.1 a))))))
      where
        none_fits : Fill reg [] (k ∷ after) → ⊥
        none_fits f = f.fit

    module _ (v : Plain) (vs : List Plain) (split : left ≡ v ∷ vs) where
      -- what is left is its first value and the others
      next_left : ((Fits reg v k × (depth v ≤ 64)) × Fill reg vs after) ↔ Fill reg left ks
      next_left = rw (split, is) (one_filled reg v vs k after)

      -- the first one fits, and the others are left
      pub goes_on : (answer : Bool) → (IsTrue answer ↔ (Fits reg v k × (depth v ≤ 64))) → answer ≡ true → Fill reg vs after ↔ all
      goes_on answer told yes_is = ((λ f. kept.0 (next_left.0 (told.0 yes_is, f))), (λ a. (next_left.1 (kept.1 a)).1))

      -- the first one does not fit, and so not all do
      pub stops : (answer : Bool) → (IsTrue answer ↔ (Fits reg v k × (depth v ≤ 64))) → answer ≡ false → IsTrue false ↔ all
      stops answer told no_is = ((λ bad. cc), (λ a. sym no_is ∙ told.1 (next_left.1 (kept.1 a)).0))

  -- at the end nothing may be left
  pub none_left : ks ≡ [] → (answer : Bool) → answer ≡ (length left == 0) → IsTrue answer ↔ all
  none_left none answer told = (
    (λ t. kept.0 (rw none (nothing_fills reg left (sym told ∙ t)))),
    (λ a. told ∙ fills_nothing reg left (subst (λ zs. Fill reg left zs) none (kept.1 a))),
  )
