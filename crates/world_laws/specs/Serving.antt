-- Methods that serve calls of the other end: each began with the request of the call that waits for it there.
use Rattle.std.specs.Prelude.{◌≡◌, ℕ, suc, true, List, [], ◌∷◌, ◌++◌, Some, if◌then◌else◌}
use Rattle.message_model.specs.Calls.{numbered}
use Rattle.message_model.specs.Messages.{Message, request}
use Rattle.message_model.specs.Sayable.{carried_each, arguments_of, arrived}
use Rattle.uno_model.specs.Values.{Plain}
use Rattle.plan_model.specs.Frames.{Body, Outgoing, Frame, base, body, outgoing, frames_of}
use Rattle.bridge_model.specs.Calls.{first_body}
use Rattle.bridge_model.specs.Entries.{Entry, fed}
use Rattle.bridge_model.specs.References.{each_home}
use Rattle.bridge_model.specs.Steps.{Turn, step}
use Rattle.bridge_laws.specs.Outcomes.{serving_in}
use Rattle.world_model.specs.Flights.{flight}
use Rattle.world_model.specs.Meetings.{Meets}
use Rattle.world_model.specs.Worlds.{Settings, World, Event}
use Rattle.world_model.specs.declared.side.Side.{Side}
use Rattle.world_laws.specs.Ends.{near, far, other, near_of, far_of}

-- how many of these frames are calls that went out, and how many are methods that serve the other end
unfoldable pub calls_out : List Frame → ℕ
calls_out [] = 0
calls_out (base root ∷ fs) = calls_out fs
calls_out (body b ∷ fs) = calls_out fs
calls_out (outgoing o ∷ fs) = suc (calls_out fs)

unfoldable pub served_among : List Frame → ℕ
served_among [] = 0
served_among (base root ∷ fs) = served_among fs
served_among (body b ∷ fs) = if b.from_peer then suc (served_among fs) else served_among fs
served_among (outgoing o ∷ fs) = served_among fs

-- a method apart from how far it has come
abbrev pub at_start : Body → Body
at_start b = record b { variables = []; place = 0 }

-- a call was made with these arguments: at one moment of the run an entry of its end said the request, behind which the call was on top of its thread, with these frames below it
pub record IsMade (g : Settings) (which : Side) (es : List Event) (tid : List ℕ) (call : Outgoing) (below : List Frame) (sent : List Plain) : Type 0 where
  pub front : List Event
  pub entry : Entry
  pub later : List Event
  pub run : es ≡ front ++ record { side = which; entry = entry } ∷ later
  pub before : World
  pub met : Meets g front before
  pub turn : Turn
  pub does : step (near_of which g) (near which before).now.side entry ≡ Some turn
  pub earlier : List Message
  pub rest : List Message
  pub said : turn.said ≡ earlier ++ request tid call.oid call.face call.function sent ∷ rest
  pub top : frames_of tid turn.side.stacks ≡ outgoing call ∷ below

-- a method began with the request of this very call: at one moment of the run the call was on top of its thread, with the frames below it that it has, and the first message in
-- flight was its request, which came; it began the method, as the function of its target that serves it, with its arguments as they arrive, on the frames under the method
pub record BeganWithRequest (g : Settings) (which : Side) (es : List Event) (tid : List ℕ) (call : Outgoing) (below : List Frame) (served : Body) (under : List Frame) : Type 0 where
  pub front : List Event
  pub bytes : List ℕ
  pub later : List Event
  pub run : es ≡ front ++ record { side = other which; entry = fed bytes } ∷ later
  pub before : World
  pub met : Meets g front before
  pub turn : Turn
  pub does : step (far_of which g) (far which before).now.side (fed bytes) ≡ Some turn
  pub called : frames_of tid (near which before).last.side.stacks ≡ outgoing call ∷ below
  pub sent : List Plain
  pub made : IsMade g which front tid call below sent
  pub behind : List Message
  pub flies : flight (near which before).now (far which before).now ≡ request tid call.oid call.face call.function sent ∷ behind
  pub args : List Plain
  pub arrive : args ≡ carried_each g.registry sent (arguments_of (numbered g.registry call.face call.function))
  pub got : turn.got ≡ request tid call.oid call.face call.function args ∷ []
  pub first : Body
  pub is : first ≡ first_body (far_of which g) true call.oid call.face call.function (each_home (far_of which g) args) (far which before).now.side.tables
  pub begins : frames_of tid turn.side.stacks ≡ body first ∷ under
  pub same : at_start served ≡ at_start first

-- a method serves a call of the other end, which waits for it there still, with as many calls that went out below it as there are methods that serve below the method; and the method
-- began with the request of that call
pub record ServesItsCall (g : Settings) (which : Side) (es : List Event) (w : World) (tid : List ℕ) (served : Body) (under : List Frame) : Type 0 where
  pub call : Outgoing
  pub above : List Frame
  pub below : List Frame
  pub waits : frames_of tid (near which w).last.side.stacks ≡ above ++ outgoing call ∷ below
  pub matched : calls_out below ≡ served_among under
  pub began : BeganWithRequest g which es tid call below served under

-- so it is of each method that serves calls of this end there
abbrev pub EachServesItsCall : Settings → Side → List Event → World → Type 0
EachServesItsCall g which es w =
    (tid : List ℕ) (above : List Frame) (served : Body) (under : List Frame) → frames_of tid (far which w).last.side.stacks ≡ above ++ body served ∷ under → served.from_peer ≡ true
    → ServesItsCall g which es w tid served under

-- in this turn of the other end a call is answered by its own: by the innermost method that serves the thread there, which began with the request of the call (of no other method is
-- an answer that goes to the peer); or the call is of function 0, and its request comes
pub data IsItsOwn (g : Settings) (which : Side) (es : List Event) (w : World) (tid : List ℕ) (call : Outgoing) (below : List Frame) (u : Turn) : Type 0 where
  by_its_method : (served : Body) → (under : List Frame) → serving_in (frames_of tid (far which w).now.side.stacks) ≡ Some (record { method = served; below = under })
      → BeganWithRequest g which es tid call below served under → IsItsOwn g which es w tid call below u
  by_its_request : (sent : List Plain) → (behind : List Message) → call.function ≡ 0 → IsMade g which es tid call below sent → flight (near which w).now (far which w).now ≡ request tid call.oid call.face 0 sent ∷ behind
      → u.got ≡ arrived g.registry (request tid call.oid call.face 0 sent) ∷ [] → IsItsOwn g which es w tid call below u
