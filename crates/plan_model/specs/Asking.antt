-- What a statement can ask, and how a frame ends.
use Rattle.std.specs.Prelude.{ℕ, List, [], ◌∷◌, Option, Result, Ok, Err, if◌then◌else◌}
use Rattle.message_model.specs.Calls.{comes}
use Rattle.message_model.specs.Messages.{Answer, returned, raised}
use Rattle.uno_model.specs.Entities.{Entity, Param}
use Rattle.uno_model.specs.Functions.{Function}
use Rattle.uno_model.specs.Kinds.{Kind}
use Rattle.uno_model.specs.Values.{Ref, Plain}
use Rattle.plan_model.specs.Evaluation.{Scene, value_under}
use Rattle.plan_model.specs.Frames.{Variable}
use Rattle.plan_model.specs.Leaving.{caused, leaving}
use Rattle.plan_model.specs.declared.runtime_cause.RuntimeCause.{RuntimeCause}

-- what a statement asks: a variable that begins, that gets another value, or that goes; a field that gets another value; nothing; a call of a function by its
-- number in the table of the target's interface; a query; a new object; the end of the bridge; what the service manager is asked for; and, at the end of the
-- frame, what is returned with the values of the parameters that come out, or raised, as it leaves the frame
pub data Effect : Type 0 where
  lets : Variable → Effect
  sets : Variable → Effect
  sets_field : Variable → Effect
  drops : List ℕ → Effect
  skips : Effect
  calls : (target : Ref) → (function : ℕ) → (args : List Plain) → (to : Option (List ℕ)) → Effect
  queries : (target : Ref) → (wanted to : List ℕ) → Effect
  makes : (behaviour : ℕ) → (face to : List ℕ) → Effect
  disposes : Effect
  creates : (name : List ℕ) → (args : List Plain) → Effect
  returns : Plain → List Plain → Effect
  raises : Kind → Plain → Effect

-- a frame that runs: its thread, the interface and number under which its function was called, the function, the frames of its stack, and what words stand for
pub record Running : Type 0 where
  pub tid : List ℕ
  pub face : List ℕ
  pub number : ℕ
  pub function : Function
  pub depth : ℕ
  pub scene : Scene

-- ---- the end of a frame

-- what leaves it is returned or raised
abbrev pub ending : Answer → Effect
ending (returned x outs) = returns x outs
ending (raised k x) = raises k x

abbrev pub ends_with : List Entity → Running → Answer → Effect
ends_with reg r a = ending (leaving reg r.tid r.face r.number r.function a)

abbrev pub fails : List Entity → Running → RuntimeCause → Effect
fails reg r cause = ends_with reg r (caused cause)

-- the value of an expression goes on as it says; where there is none, the frame ends
abbrev pub on_value : List Entity → Running → Result Plain RuntimeCause → (Plain → Effect) → Effect
on_value reg r (Ok x) go = go x
on_value reg r (Err cause) go = fails reg r cause

-- the values of the parameters that come out, in order
unfoldable pub out_values : List Param → List Variable → List Plain
out_values [] xs = []
out_values (p ∷ ps) xs = if comes p.way then value_under p.name xs ∷ out_values ps xs else out_values ps xs

abbrev pub returns_value : List Entity → Running → Plain → Effect
returns_value reg r x = ends_with reg r (returned x (out_values r.function.params r.scene.variables))
