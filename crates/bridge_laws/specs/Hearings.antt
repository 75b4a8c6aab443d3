-- What the messages of a piece do, one after the other: which replies they say, which roots they answer, and which frames they leave.
use Rattle.std.specs.Prelude.{◌≡◌, ◌⊎◌, ℕ, true, List, [], ◌∷◌, ◌++◌}
use Rattle.message_model.specs.Messages.{Message, request, release, reply}
use Rattle.plan_model.specs.Frames.{Outgoing, Frame, body, outgoing, Stack, frames_of}
use Rattle.urp_model.specs.declared.reason.Reason.{Reason}
use Rattle.bridge_model.specs.Calls.{first_body}
use Rattle.bridge_model.specs.Ends.{ends_by}
use Rattle.bridge_model.specs.References.{each_home, home_answer}
use Rattle.bridge_model.specs.Settings.{Setting}
use Rattle.bridge_model.specs.Sides.{Object, Tables, Side}
use Rattle.bridge_model.specs.Stacks.{puts_frames}
use Rattle.bridge_model.specs.declared.cause.Cause.TheVariants as cause
use Rattle.bridge_laws.specs.Outcomes.{handed_down, fate_of_message, replies, replies_of_message, roots_by, FramesBy}

-- a call that went out is on top of its thread, of this interface and function
pub record IsOnTop (tid face : List ℕ) (function : ℕ) (stacks : List Stack) : Type 0 where
  pub call : Outgoing
  pub below : List Frame
  pub top : frames_of tid stacks ≡ outgoing call ∷ below
  pub same_face : call.face ≡ face
  pub same_function : call.function ≡ function

-- a request of function 0 leaves the stacks; another one begins the method of its target that serves it, with its arguments, on top of its thread; a reply is handed to the
-- frame under the call on top of its thread, which it answers, with these objects there
abbrev pub Leaves : Setting → Tables → List Stack → Message → List Object → (after : List Stack) → Type 0
Leaves g t ss (release tid oid face) os after = after ≡ ss
Leaves g t ss (request tid oid face function args) os after =
    ((function ≡ 0) × (after ≡ ss))
    ⊎ ((function ≡ 0 → ⊥) × (after ≡ puts_frames tid (body (first_body g true oid face function (each_home g args) t) ∷ frames_of tid ss) ss))
Leaves g t ss (reply tid face function a) os after =
    (on : IsOnTop tid face function ss) × (fs : List Frame) × FramesBy g os (handed_down g.registry tid (home_answer g a) on.below) fs × (after ≡ puts_frames tid fs ss)

-- a message is received, on these tables and stacks
pub record IsReceived (g : Setting) (t : Tables) (ss : List Stack) (m : Message) (z : Side) : Type 0 where
  pub said : replies z.tables.unsaid ≡ replies t.unsaid ++ replies_of_message g t ss m
  pub roots : z.tables.roots ≡ roots_by g (fate_of_message g ss m) t.roots
  pub stacks : Leaves g t ss m z.tables.objects z.stacks

-- these messages one after the other, with the replies that they say: behind them the side is as it is, or ends since the protocol is broken
pub data Hears (g : Setting) : Tables → List Stack → List Message → List Message → Side → Type 0 where
  rests : (z : Side) → Hears g z.tables z.stacks [] [] z
  breaks : (s : Side) → (why : Reason) → (place : ℕ) → Hears g s.tables s.stacks [] [] (ends_by (cause.Broken why place) s)
  hears : (t : Tables) → (ss : List Stack) → (m : Message) → (z : Side) → (ms rs : List Message) → (end : Side) → IsReceived g t ss m z → Hears g z.tables z.stacks ms rs end
      → Hears g t ss (m ∷ ms) (replies_of_message g t ss m ++ rs) end
