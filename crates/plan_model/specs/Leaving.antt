-- What leaves a frame: its answer, an exception that its function may raise, or a RuntimeException in the place of another answer.
use Rattle.std.specs.Prelude.{◌≡◌, ℕ, max, false, IsTrue, List, ◌++◌, Option, None, Some, codes, if◌then◌else◌}
use Rattle.message_model.specs.Calls.{numbered, may_raise}
use Rattle.message_model.specs.Messages.{Answer, returned, raised, reply}
use Rattle.message_model.specs.Sayable.{message_weight}
use Rattle.uno_model.specs.BuiltIn.{runtime_exception_name}
use Rattle.uno_model.specs.Entities.{Entity}
use Rattle.uno_model.specs.Functions.{Function}
use Rattle.uno_model.specs.Kinds.{name_of}
use Rattle.uno_model.specs.Kinds as kd
use Rattle.uno_model.specs.Values.{null, plains, depth, depth_in}
use Rattle.uno_model.specs.Values as v
use Rattle.plan_model.specs.Evaluation.{is_heavy, is_deep}
use Rattle.plan_model.specs.Frames.{Body}
use Rattle.plan_model.specs.declared.runtime_cause.RuntimeCause.{RuntimeCause}
use Rattle.plan_model.specs.declared.runtime_cause.RuntimeCause.TheVariants.{Null, Range, Depth, TooLarge, TooDeep}

-- a RuntimeException of this message and no context
abbrev pub runtime_raised : List ℕ → Answer
runtime_raised message = raised (kd.exception runtime_exception_name) (v.tuple runtime_exception_name (v.more (v.str message) (v.more (v.ref null) v.none)))

unfoldable pub message_of : RuntimeCause → List ℕ
message_of Null = codes "null"
message_of Range = codes "range"
message_of Depth = codes "depth"
message_of TooLarge = codes "too large"
message_of TooDeep = codes "too deep"

abbrev pub caused : RuntimeCause → Answer
caused cause = runtime_raised (message_of cause)

-- ---- what leaves a frame

-- an exception that the function may not raise is a RuntimeException with its name
abbrev pub as_declared : List Entity → Function → Answer → Answer
as_declared reg f (returned x outs) = returned x outs
as_declared reg f (raised k x) = if may_raise reg f k then raised k x else runtime_raised (codes "undeclared " ++ name_of k)

abbrev pub answer_depth : Answer → ℕ
answer_depth (returned x outs) = max (depth x) (depth_in (plains outs))
answer_depth (raised k x) = depth (v.any k x)

-- an answer whose reply would weigh too much, and another one that is nested too deep, is a RuntimeException
abbrev pub sendable : (tid face : List ℕ) → ℕ → Answer → Answer
sendable tid face number a = if is_heavy (message_weight (reply tid face number a)) then caused TooLarge else (if is_deep (answer_depth a) then caused TooDeep else a)

-- what leaves the frame of a function that was called under an interface and a number, where it ends with this
unfoldable pub leaving : List Entity → (tid face : List ℕ) → ℕ → Function → Answer → Answer
leaving reg tid face number f a = sendable tid face number (as_declared reg f a)

-- the same of a frame; a number that its interface has not, which no frame has, changes nothing
unfoldable pub leaving_frame : List Entity → List ℕ → Body → Answer → Answer
leaving_frame reg tid b a = of_function (numbered reg b.face b.function)
  where
    of_function : Option Function → Answer
    of_function None = a
    of_function (Some f) = leaving reg tid b.face b.function f a

-- what may leave the frame of a function: anything that is returned, and an exception that the function may raise
abbrev pub MayLeave : List Entity → Function → Answer → Type 0
MayLeave reg f (returned x outs) = Unit
MayLeave reg f (raised k x) = IsTrue (may_raise reg f k)

-- an answer is within the limits of replies
pub record IsWithinReply (tid face : List ℕ) (number : ℕ) (a : Answer) : Type 0 where
  pub light : is_heavy (message_weight (reply tid face number a)) ≡ false
  pub flat : is_deep (answer_depth a) ≡ false
