-- What leaves a frame that an exception ends, by what is tested of the exception.
use Rattle.std.proofs.Common.{◌≡◌, ℕ, suc, ◌+◌, ◌-◌, ◌^◌, min, Bool, true, false, List, ◌++◌, codes, None, Some, refl, sym, ap, ◌∙◌, arith}
use Rattle.std.specs.Prelude.{slice_get}
use Rattle.message_model.specs.Calls.{numbered, may_raise}
use Rattle.message_model.specs.Messages.{Answer, raised}
use Rattle.message_model.specs.Sayable.{answer_weight}
use Rattle.plan_model.specs.Evaluation.{is_deep}
use Rattle.plan_model.specs.Frames.{Body}
use Rattle.plan_model.specs.Leaving.{runtime_raised, as_declared, answer_depth, sendable, leaving, leaving_frame}
use Rattle.uno_model.specs.Entities.{Entity}
use Rattle.uno_model.specs.Functions.{Function, functions_of}
use Rattle.uno_model.specs.Kinds.{Kind, name_of}
use Rattle.uno_model.specs.Values.{Plain, depth}
use Rattle.uno_model.specs.Weights.{weight, kind_weight}
use Rattle.behaviour.proofs.LimitLemmas.{deep_told}

-- ---- its weight and its depth

pub any_counted : (k : Kind) (x : Plain) (m : ℕ) → m ≡ min (kind_weight k + weight x) (2 ^ 64 - 1) → m ≡ min (answer_weight (raised k x)) (2 ^ 64 - 1)
unfolding weight
any_counted k x m told = told

pub any_deep : (k : Kind) (x : Plain) (d s : ℕ) (e : Bool) → d ≡ min (depth x) (2 ^ 64 - 1) → s ≡ min (d + 1) (2 ^ 64 - 1) → e ≡ is_deep s → e ≡ is_deep (answer_depth (raised k x))
unfolding depth
any_deep k x d s e told is asked = asked ∙ deep_told (suc (depth x)) s (omega (arith, told, is))

-- ---- whether its function may raise it

pub declared_is : (reg : List Entity) (f : Function) (k : Kind) (x : Plain) → may_raise reg f k ≡ true → raised k x ≡ as_declared reg f (raised k x)
declared_is reg f k x may = rw may refl

pub undeclared_is : (reg : List Entity) (f : Function) (k : Kind) (x : Plain) → may_raise reg f k ≡ false → runtime_raised (codes "undeclared " ++ name_of k) ≡ as_declared reg f (raised k x)
undeclared_is reg f k x may = rw may refl

-- ---- its frame

-- what is declared, and then within the limits, leaves the frame of a function
pub leaving_is : (reg : List Entity) (tid face : List ℕ) (number : ℕ) (f : Function) (a declared x : Answer) → declared ≡ as_declared reg f a → x ≡ sendable tid face number declared
    → x ≡ leaving reg tid face number f a
unfolding leaving
leaving_is reg tid face number f a declared x is sent = sent ∙ ap (sendable tid face number) is

-- a frame whose function is there, and one whose function is not
module _ (reg : List Entity) (tid : List ℕ) (b : Body) (face : List ℕ) (number : ℕ) (here : b.face ≡ face) (called : b.function ≡ number) (a : Answer) where
  pub frame_is : (f : Function) → Some f ≡ slice_get (functions_of reg face) number → leaving reg tid face number f a ≡ leaving_frame reg tid b a
  unfolding leaving_frame numbered
  frame_is f there = rw (here, called, sym there) refl

  pub no_frame : None ≡ slice_get (functions_of reg face) number → a ≡ leaving_frame reg tid b a
  unfolding leaving_frame numbered
  no_frame there = rw (here, called, sym there) refl
