-- The value of an expression that has a type fits it.
use Rattle.std.proofs.Common.{◌≡◌, ◌≢◌, refl, sym, ap, ◌∙◌, ℕ, ℤ, pos, Bool, true, false, List, [], ◌∷◌, Option, None, Some, option_map, if◌then◌else◌}
use Rattle.std.specs.Prelude.{IsTrue}
use mathlib.Core.Path.{subst}
use Rattle.literal_model.specs.Readings.{and_then, some_as, numeric, number_in, signed_of, unsigned_of}
use Rattle.uno_model.specs.Entities.{Entity}
use Rattle.uno_model.specs.Fits.{Fits, FitEach, FitAll, IsTupleKind, member_kinds}
use Rattle.uno_model.specs.Kinds.{Kind}
use Rattle.uno_model.specs.Kinds as kd
use Rattle.uno_model.specs.Sound.{IsSound}
use Rattle.uno_model.specs.Types.{is_type}
use Rattle.uno_model.specs.Values.{Plain, Plains, refs}
use Rattle.uno_model.specs.Values as v
use Rattle.uno_model.proofs.Options.{same_some}
use Rattle.plan_model.specs.Evaluation.{Scene, value_of_word, operated, bytes_of, both_values, value_of, values_of}
use Rattle.plan_model.specs.Expressions.{Word, Expression, Expressions, constant, word, operation, any, tuple, list, bytes, none, more}
use Rattle.plan_model.specs.Typing.{is_whole}
use Rattle.plan_model.specs.declared.operation.Operation.{Operation}
use Rattle.plan_typing.specs.Scenes.{SceneFits}
use Rattle.plan_typing.specs.Types.{Types, WordFits, HasType, HaveTypes, AllHaveType}
use Rattle.plan_typing.proofs.ValueKinds.{fits_wider}
use Rattle.plan_typing.proofs.ValueWords.{word_fits}

-- ---- operations

-- what holds of all that is made holds of what there is
made_fits : {X : Type 0} (P : Plain → Type 0) (mk : X → Plain) (o : Option X) (z : Plain) → ((n : X) → P (mk n)) → some_as mk o ≡ Some z → P z
made_fits P mk None z all is = absurd (cc)
made_fits P mk (Some n) z all is = subst P (same_some is) (all n)

-- the result is of the type of the first number
pub operated_fits : (reg : List Entity) (op : Operation) (x y z : Plain) (k : Kind) → Fits reg x k → operated op x y ≡ Some z → Fits reg z k
unfolding Fits
operated_fits reg op (v.byte a) (v.byte b) z k fits is = made_fits (λ w. Fits reg w k) v.byte _ z (λ n. fits) is
operated_fits reg op (v.short a) (v.short b) z k fits is = made_fits (λ w. Fits reg w k) v.short _ z (λ n. fits) is
operated_fits reg op (v.unsigned_short a) (v.unsigned_short b) z k fits is = made_fits (λ w. Fits reg w k) v.unsigned_short _ z (λ n. fits) is
operated_fits reg op (v.long a) (v.long b) z k fits is = made_fits (λ w. Fits reg w k) v.long _ z (λ n. fits) is
operated_fits reg op (v.unsigned_long a) (v.unsigned_long b) z k fits is = made_fits (λ w. Fits reg w k) v.unsigned_long _ z (λ n. fits) is
operated_fits reg op (v.hyper a) (v.hyper b) z k fits is = made_fits (λ w. Fits reg w k) v.hyper _ z (λ n. fits) is
operated_fits reg op (v.unsigned_hyper a) (v.unsigned_hyper b) z k fits is = made_fits (λ w. Fits reg w k) v.unsigned_hyper _ z (λ n. fits) is
operated_fits reg op x y z k fits is = absurd (cc)

-- ---- two values

-- both are there where something is made of both
pub record Both {A B : Type 0} (a : Option A) (b : Option B) {C : Type 0} (go : A → B → Option C) (z : C) : Type 0 where
  pub first : A
  pub second : B
  pub first_is : a ≡ Some first
  pub second_is : b ≡ Some second
  pub made : go first second ≡ Some z

pub both_there : {A B C : Type 0} (a : Option A) (b : Option B) (go : A → B → Option C) (z : C) → both_values a b go ≡ Some z → Both a b go z
both_there None b go z is = absurd (cc)
both_there (Some x) None go z is = absurd (cc)
both_there (Some x) (Some y) go z is = record { first = x; second = y; first_is = refl; second_is = refl; made = is }

-- what is there under a map
pub record Mapped {A B : Type 0} (f : A → B) (o : Option A) (z : B) : Type 0 where
  pub from : A
  pub there : o ≡ Some from
  pub is : f from ≡ z

pub mapped : {A B : Type 0} (f : A → B) (o : Option A) (z : B) → option_map f o ≡ Some z → Mapped f o z
mapped f None z is = absurd (cc)
mapped f (Some x) z is = record { from = x; there = refl; is = same_some is }
