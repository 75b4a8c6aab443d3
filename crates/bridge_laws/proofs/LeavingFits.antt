-- What leaves a frame may go on its thread.
use Rattle.std.proofs.Common.{◌≡◌, ℕ, ◌+◌, ◌≤◌, Bool, true, false, if◌then◌else◌, List, Some, refl, sym, subst, arith}
use Rattle.std.proofs.lemmas.Bool.{ltb-false}
use Rattle.message_model.specs.Calls.{numbered}
use Rattle.message_model.specs.Messages.{Answer, reply}
use Rattle.message_model.specs.Sayable.{IsThread, IsCalled, message_weight, name_weight, answer_weight}
use Rattle.uno_model.specs.Entities.{Entity}
use Rattle.uno_model.specs.Functions.{Function}
use Rattle.uno_model.specs.Weights.{weight, weights}
use Rattle.plan_model.specs.Evaluation.{is_heavy, is_deep}
use Rattle.plan_model.specs.Frames.{Body}
use Rattle.plan_model.specs.Leaving.{message_of, caused, as_declared, answer_depth, sendable, leaving, leaving_frame}
use Rattle.plan_model.specs.declared.runtime_cause.RuntimeCause.{RuntimeCause}
use Rattle.plan_model.specs.declared.runtime_cause.RuntimeCause.TheVariants.{Null, Range, Depth, TooLarge, TooDeep}
use Rattle.plan_typing.specs.Answers.{WorkedOut}
use Rattle.plan_typing.proofs.EffectLeaving.{leaving_answers}
use Rattle.bridge_laws.specs.Counting.{total}
use Rattle.bridge_laws.proofs.EffectLaws.{leaving_counts}
use Rattle.bridge_model.specs.References.{refs_of_answer}
use Rattle.bridge_model.specs.Settings.{Setting}
use Rattle.bridge_model.specs.Sides.{Object}
use Rattle.bridge_laws.proofs.Fine.{wrong}
use Rattle.bridge_laws.proofs.FramesFit.{AnswerGoes}
use Rattle.bridge_laws.proofs.TypedGiven.{IsGiven}
use Rattle.bridge_laws.proofs.TableLaws.{text_most}

-- the reply of an answer on a thread is not too heavy
abbrev pub IsLight : List ℕ → Answer → Type 0
IsLight tid a = 1 + (name_weight tid + answer_weight a) ≤ 16777216

name_most : (tid : List ℕ) → IsThread tid → name_weight tid ≤ 1031
name_most tid thread = let most = text_most tid in let long = thread.bounded in omega arith

runtime_light : (tid : List ℕ) (cause : RuntimeCause) → IsThread tid → IsLight tid (caused cause)
unfolding weight weights message_of
runtime_light tid Null thread = let most = name_most tid thread in omega arith
runtime_light tid Range thread = let most = name_most tid thread in omega arith
runtime_light tid Depth thread = let most = name_most tid thread in omega arith
runtime_light tid TooLarge thread = let most = name_most tid thread in omega arith
runtime_light tid TooDeep thread = let most = name_most tid thread in omega arith

pub sendable_light : (tid face : List ℕ) (number : ℕ) (a : Answer) → IsThread tid → IsLight tid (sendable tid face number a)
unfolding is_heavy
sendable_light tid face number a thread = by_weight (is_heavy (message_weight (reply tid face number a))) refl
  where
    by_depth : (b : Bool) → IsLight tid a → IsLight tid (if b then caused TooDeep else a)
    by_depth true light = runtime_light tid TooDeep thread
    by_depth false light = light

    by_weight : (b : Bool) → is_heavy (message_weight (reply tid face number a)) ≡ b → IsLight tid (if b then caused TooLarge else (if is_deep (answer_depth a) then caused TooDeep else a))
    by_weight true is = runtime_light tid TooLarge thread
    by_weight false is = by_depth (is_deep (answer_depth a)) (ltb-false 16777216 (message_weight (reply tid face number a)) is)

pub leaving_light : (reg : List Entity) (tid face : List ℕ) (number : ℕ) (f : Function) (a : Answer) → IsThread tid → IsLight tid (leaving reg tid face number f a)
unfolding leaving
leaving_light reg tid face number f a thread = sendable_light tid face number (as_declared reg f a) thread

module _ (g : Setting) (given : IsGiven g) (os : List Object) (tid : List ℕ) (thread : IsThread tid) where
  -- what a function works out leaves its frame as an answer that may go
  pub leaving_goes : (face : List ℕ) (number : ℕ) (f : Function) (a : Answer) → WorkedOut g.registry f a → total (wrong g os) (refs_of_answer a) ≡ 0
      → AnswerGoes g os tid f (leaving g.registry tid face number f a)
  leaving_goes face number f a works fine =
      let most = leaving_counts (wrong g os) g.registry tid face number f a in
      record {
        fits = leaving_answers g.registry given.built f tid face number a works;
        light = leaving_light g.registry tid face number f a thread;
        fine = omega arith;
      }

  frame_is : (b : Body) (f : Function) (a : Answer) → numbered g.registry b.face b.function ≡ Some f
      → leaving_frame g.registry tid b a ≡ leaving g.registry tid b.face b.function f a
  unfolding leaving_frame
  frame_is b f a found = rw found refl

  pub frame_goes : (b : Body) (f : Function) (a : Answer) → IsCalled g.registry b.face b.function f → WorkedOut g.registry f a → total (wrong g os) (refs_of_answer a) ≡ 0
      → AnswerGoes g os tid f (leaving_frame g.registry tid b a)
  frame_goes b f a called works fine =
      subst (AnswerGoes g os tid f) (sym (frame_is b f a called.found)) (leaving_goes b.face b.function f a works fine)
