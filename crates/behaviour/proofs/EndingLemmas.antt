-- How a frame ends, by what leaves it.
use Rattle.std.proofs.Common.{◌≡◌, ℕ, ◌+◌, ◌-◌, ◌^◌, min, List, Result, IfOk, refl, sym, ap, ◌∙◌, arith}
use Rattle.std.proofs.lemmas.Result.{IfOk-weaker}
use Rattle.message_model.specs.Messages.{Answer, returned}
use Rattle.plan_model.specs.Asking.{Effect, Running, ending, ends_with}
use Rattle.plan_model.specs.Leaving.{sendable, leaving}
use Rattle.uno_model.specs.Entities.{Entity}
use Rattle.uno_model.specs.Values.{Plain}

-- what is given is also what that equals
pub given_too : {X E : Type 0} (r : Result X E) (view : X → Effect) (a b : Effect) → a ≡ b → IfOk r (λ x. view x ≡ a) → IfOk r (λ x. view x ≡ b)
given_too r view a b same = IfOk-weaker r (λ x. view x ≡ a) (λ x. view x ≡ b) (λ x is. is ∙ same)

pub sum_counted : (a b x y s : ℕ) → x ≡ min a (2 ^ 64 - 1) → y ≡ min b (2 ^ 64 - 1) → s ≡ min (x + y) (2 ^ 64 - 1) → s ≡ min (a + b) (2 ^ 64 - 1)
sum_counted a b x y s told told' is = omega (arith, told, told', is)

-- ---- what is returned

-- it leaves as it is
pub as_it_is : (tid face : List ℕ) (number : ℕ) (a b : Answer) → a ≡ b → sendable tid face number a ≡ a → ending a ≡ ending (sendable tid face number b)
as_it_is tid face number a b is leaves = sym (ap ending leaves) ∙ ap (λ x. ending (sendable tid face number x)) is

-- another one leaves in its place
pub in_its_place : (tid face : List ℕ) (number : ℕ) (a b other : Answer) → a ≡ b → sendable tid face number a ≡ other → ending other ≡ ending (sendable tid face number b)
in_its_place tid face number a b other is leaves = sym (ap ending leaves) ∙ ap (λ x. ending (sendable tid face number x)) is

pub returned_leaves : (reg : List Entity) (r : Running) (x : Plain) (outs : List Plain) → ends_with reg r (returned x outs) ≡ ending (sendable r.tid r.face r.number (returned x outs))
unfolding leaving
returned_leaves reg r x outs = refl

-- ---- what is raised

-- an effect that is what leaves the frame of a function is its end
pub raised_leaves : (reg : List Entity) (r : Running) (x a b : Answer) → x ≡ leaving reg r.tid r.face r.number r.function a → a ≡ b → ending x ≡ ends_with reg r b
raised_leaves reg r x a b leaves is = ap ending leaves ∙ ap (ends_with reg r) is
