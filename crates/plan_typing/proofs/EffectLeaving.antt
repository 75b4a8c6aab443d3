-- What leaves a frame fits the answers of its function, where what the frame worked out fits.
use Rattle.std.proofs.Common.{◌≡◌, ◌≢◌, refl, sym, ap, ◌∙◌, ℕ, ◌≤◌, nat_lt, max, Bool, true, false, List, [], ◌∷◌, ◌++◌, codes, arith, if◌then◌else◌}
use Rattle.std.specs.Prelude.{IsTrue}
use Rattle.std.proofs.lemmas.Bool.{ltb-false}
use Rattle.message_model.specs.Calls.{may_raise, out_kinds}
use Rattle.message_model.specs.Messages.{Answer, returned, raised, reply}
use Rattle.message_model.specs.Sayable.{message_weight, AnswerFits, Fill}
use Rattle.uno_model.specs.BuiltIn.{HasBuiltIn, runtime_exception_name}
use Rattle.uno_model.specs.Entities.{Entity}
use Rattle.uno_model.specs.Fits.{Fits, FitEach}
use Rattle.uno_model.specs.Functions.{Function}
use Rattle.uno_model.specs.Kinds.{Kind, name_of}
use Rattle.uno_model.specs.Kinds as kd
use Rattle.uno_model.specs.Values.{Plain, null, plains, depth, depth_in}
use Rattle.uno_model.specs.Values as v
use Rattle.plan_model.specs.Evaluation.{is_heavy, is_deep}
use Rattle.plan_model.specs.Leaving.{runtime_raised, message_of, caused, as_declared, answer_depth, sendable, leaving, MayLeave}
use Rattle.plan_model.specs.declared.runtime_cause.RuntimeCause.{RuntimeCause}
use Rattle.plan_model.specs.declared.runtime_cause.RuntimeCause.TheVariants.{TooLarge, TooDeep}
use Rattle.plan_model.proofs.LeavingLaws.{runtime_may_leave, declared_may_leave}
use Rattle.plan_typing.specs.Answers.{WorkedOut}
use Rattle.plan_typing.proofs.EffectRuntime.{runtime_fits}

flat_first : (a b : ℕ) → nat_lt 64 (max a b) ≡ false → (a ≤ 64) × (b ≤ 64)
flat_first a b is = let low : max a b ≤ 64 = ltb-false 64 (max a b) is in (omega arith, omega arith)

runtime_depth : (message : List ℕ) → depth (v.any (kd.exception runtime_exception_name) (v.tuple runtime_exception_name (v.more (v.str message) (v.more (v.ref null) v.none)))) ≤ 64
unfolding depth depth_in
runtime_depth message = omega arith

module _ (reg : List Entity) (built : HasBuiltIn reg) (f : Function) where
  pub runtime_answers : (message : List ℕ) → AnswerFits reg f (runtime_raised message)
  runtime_answers message = (runtime_may_leave reg f message, runtime_fits reg built message, runtime_depth message)

  caused_answers : (cause : RuntimeCause) → AnswerFits reg f (caused cause)
  caused_answers cause = runtime_answers (message_of cause)

  -- an exception that is not declared is a RuntimeException
  declared_works : (a : Answer) → WorkedOut reg f a → WorkedOut reg f (as_declared reg f a)
  declared_works (returned x outs) works = works
  declared_works (raised k x) works = by_test (may_raise reg f k) refl
    where
      by_test : (b : Bool) → may_raise reg f k ≡ b → WorkedOut reg f (as_declared reg f (raised k x))
      by_test true is = rw is works
      by_test false is = rw is (runtime_fits reg built (codes "undeclared " ++ name_of k))

  -- what is not nested too deep fits
  flat_answers : (a : Answer) → WorkedOut reg f a → MayLeave reg f a → is_deep (answer_depth a) ≡ false → AnswerFits reg f a
  unfolding is_deep
  flat_answers (returned x outs) works may flat =
      let parts = flat_first (depth x) (depth_in (plains outs)) flat in
      (works.0, parts.0, record { fit = works.1; deep = parts.1 })
  flat_answers (raised k x) works may flat = (may, works, ltb-false 64 (depth (v.any k x)) flat)

  sendable_answers : (tid face : List ℕ) (number : ℕ) (a : Answer) → WorkedOut reg f a → MayLeave reg f a → AnswerFits reg f (sendable tid face number a)
  sendable_answers tid face number a works may = by_weight (is_heavy (message_weight (reply tid face number a))) refl
    where
      by_depth : (b : Bool) → is_deep (answer_depth a) ≡ b → AnswerFits reg f (if b then caused TooDeep else a)
      by_depth true is = caused_answers TooDeep
      by_depth false is = flat_answers a works may is

      by_weight : (b : Bool) → is_heavy (message_weight (reply tid face number a)) ≡ b → AnswerFits reg f (sendable tid face number a)
      by_weight true is = rw is (caused_answers TooLarge)
      by_weight false is = rw is (by_depth (is_deep (answer_depth a)) refl)

  pub leaving_answers : (tid face : List ℕ) (number : ℕ) (a : Answer) → WorkedOut reg f a → AnswerFits reg f (leaving reg tid face number f a)
  unfolding leaving
  leaving_answers tid face number a works =
      sendable_answers tid face number (as_declared reg f a) (declared_works a works) (declared_may_leave reg f a)
