-- What leaves a frame may do so, and what may do so within the limits leaves it as it is.
use Rattle.std.proofs.Common.{◌≡◌, refl, ℕ, zero, suc, Bool, true, false, List, length, if◌then◌else◌}
use Rattle.message_model.specs.Calls.{may_raise}
use Rattle.message_model.specs.Messages.{Answer, returned, raised, reply}
use Rattle.message_model.specs.Sayable.{message_weight}
use Rattle.uno_model.specs.BuiltIn.{runtime_exception_name}
use Rattle.uno_model.specs.Entities.{Entity}
use Rattle.uno_model.specs.Functions.{Function}
use Rattle.uno_model.specs.Kinds.{Kind}
use Rattle.uno_model.specs.Reaches.{reaches_within, is_base_of}
use Rattle.uno_model.specs.Values.{Plain}
use Rattle.plan_model.specs.Evaluation.{is_heavy, is_deep}
use Rattle.plan_model.specs.Leaving.{runtime_raised, message_of, caused, as_declared, answer_depth, leaving, MayLeave, IsWithinReply}
use Rattle.plan_model.specs.declared.runtime_cause.RuntimeCause.TheVariants.{TooLarge, TooDeep}

-- an exception is a base of itself
reaches_runtime : (levels : ℕ) (reg : List Entity) → reaches_within levels reg runtime_exception_name runtime_exception_name ≡ true
unfolding reaches_within
reaches_runtime zero reg = refl
reaches_runtime (suc levels) reg = refl

pub runtime_may_leave : (reg : List Entity) (f : Function) (message : List ℕ) → MayLeave reg f (runtime_raised message)
unfolding may_raise is_base_of
runtime_may_leave reg f message = rw (reaches_runtime (length reg) reg) refl

declared_by_test : (reg : List Entity) (f : Function) (k : Kind) (x : Plain) (message : List ℕ) (b : Bool) → may_raise reg f k ≡ b
    → MayLeave reg f (if b then raised k x else runtime_raised message)
declared_by_test reg f k x message true is = is
declared_by_test reg f k x message false is = runtime_may_leave reg f message

pub declared_may_leave : (reg : List Entity) (f : Function) (a : Answer) → MayLeave reg f (as_declared reg f a)
declared_may_leave reg f (returned x outs) = tt
declared_may_leave reg f (raised k x) = declared_by_test reg f k x _ (may_raise reg f k) refl

by_limits : (reg : List Entity) (f : Function) (heavy deep : Bool) (a large nested : Answer) → MayLeave reg f large → MayLeave reg f nested → MayLeave reg f a
    → MayLeave reg f (if heavy then large else (if deep then nested else a))
by_limits reg f true deep a large nested p q r = p
by_limits reg f false true a large nested p q r = q
by_limits reg f false false a large nested p q r = r

pub leaving_may : (reg : List Entity) (tid face : List ℕ) (number : ℕ) (f : Function) (a : Answer) → MayLeave reg f (leaving reg tid face number f a)
unfolding leaving
leaving_may reg tid face number f a =
    let b = as_declared reg f a in
    by_limits reg f (is_heavy (message_weight (reply tid face number b))) (is_deep (answer_depth b)) b (caused TooLarge) (caused TooDeep)
    (runtime_may_leave reg f (message_of TooLarge))
    (runtime_may_leave reg f (message_of TooDeep))
    (declared_may_leave reg f a)

declared_stays : (reg : List Entity) (f : Function) (a : Answer) → MayLeave reg f a → as_declared reg f a ≡ a
declared_stays reg f (returned x outs) may = refl
declared_stays reg f (raised k x) may = rw (may) refl

pub leaving_stays : (reg : List Entity) (tid face : List ℕ) (number : ℕ) (f : Function) (a : Answer) → MayLeave reg f a → IsWithinReply tid face number a
    → leaving reg tid face number f a ≡ a
unfolding leaving
leaving_stays reg tid face number f a may within = rw (declared_stays reg f a may, within.light, within.flat) refl
