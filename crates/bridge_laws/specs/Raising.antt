-- Which exceptions a root gets: those that the function of its own call may raise, which are declared there or derive from RuntimeException.
use Rattle.std.specs.Prelude.{◌≡◌, ℕ, Bool, false, ◌==◌, List, [], ◌∷◌, Option, None, Some, IsTrue, if◌then◌else◌}
use Rattle.message_model.specs.Calls.{numbered, may_raise}
use Rattle.message_model.specs.Messages.{Answer, returned, raised}
use Rattle.plan_model.specs.Frames.{Frame, base, body, outgoing}
use Rattle.uno_model.specs.Entities.{Entity}
use Rattle.uno_model.specs.Functions.{Function}
use Rattle.uno_model.specs.Kinds.{Kind}

abbrev pub is_on_top : (root : ℕ) → List Frame → Bool
is_on_top root [] = false
is_on_top root (base n ∷ fs) = n == root
is_on_top root (body b ∷ fs) = false
is_on_top root (outgoing o ∷ fs) = false

-- the call with which a root began a stack: the frame that stands on the root
unfoldable pub call_of : (root : ℕ) → List Frame → Option Frame
call_of root [] = None
call_of root (f ∷ fs) = if is_on_top root fs then Some f else call_of root fs

-- the function of an interface may raise exceptions of this type
abbrev pub MayRaise : List Entity → (face : List ℕ) → ℕ → Kind → Type 0
MayRaise reg face number k = (f : Function) → numbered reg face number ≡ Some f → IsTrue (may_raise reg f k)

-- so may the function that a frame runs, or that it called
abbrev pub CallMayRaise : List Entity → Option Frame → Kind → Type 0
CallMayRaise reg None k = ⊥
CallMayRaise reg (Some (base root)) k = ⊥
CallMayRaise reg (Some (body b)) k = MayRaise reg b.face b.function k
CallMayRaise reg (Some (outgoing o)) k = MayRaise reg o.face o.function k

-- an answer of a function: if it is an exception, the function may raise it
abbrev pub MayAnswer : List Entity → (face : List ℕ) → ℕ → Answer → Type 0
MayAnswer reg face number (returned x outs) = Unit
MayAnswer reg face number (raised k x) = MayRaise reg face number k
