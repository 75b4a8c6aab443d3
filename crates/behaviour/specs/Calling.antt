-- Calls and queries, as far as they are worked out.
use Rattle.std.specs.Prelude.{ℕ, List, [], ◌++◌, Option, None, Some, if◌then◌else◌}
use Rattle.message_model.specs.Messages.{request}
use Rattle.message_model.specs.Sayable.{message_weight}
use Rattle.plan_model.specs.Asking.{Effect, Running, fails}
use Rattle.plan_model.specs.Evaluation.{is_heavy, is_deep}
use Rattle.plan_model.specs.declared.runtime_cause.RuntimeCause.{RuntimeCause}
use Rattle.plan_model.specs.declared.runtime_cause.RuntimeCause.TheVariants.{TooLarge, TooDeep}
use Rattle.uno_model.specs.Entities.{Entity}
use Rattle.uno_model.specs.Values.{Ref, null, own, peer, Plain, plains, depth_in}
use Rattle.behaviour.specs.declared.running.Target.{Target}
use Rattle.behaviour.specs.declared.running.Target.TheVariants as target

-- the interface under which an object is held; null has none
abbrev pub face_of : Ref → List ℕ
face_of null = []
face_of (own oid face) = face
face_of (peer oid face) = face

-- values in front of those that are given, where there are any
abbrev pub behind_all : List Plain → Option (List Plain) → Option (List Plain)
behind_all xs None = None
behind_all xs (Some ys) = Some (xs ++ ys)

-- an effect, or the end of the frame for a cause
abbrev pub unless : List Entity → Running → Option RuntimeCause → Effect → Effect
unless reg r None e = e
unless reg r (Some cause) e = fails reg r cause

-- an object that is lent
abbrev pub target_of : Target → Ref
target_of target.Null = null
target_of (target.Local oid face) = own oid.now face.now
target_of (target.Remote oid face) = peer oid.now face.now

-- why a request is not made: it weighs too much, or a value that goes with it is nested too deep
abbrev pub too_much : (tid oid face : List ℕ) → ℕ → List Plain → Option RuntimeCause
too_much tid oid face number args =
    if is_heavy (message_weight (request tid oid face number args)) then Some TooLarge else (if is_deep (depth_in (plains args)) then Some TooDeep else None)
