-- The answer of a call to the other end: what the call ended with there, at one moment of the run at which it was the call on top of its thread.
use Rattle.std.specs.Prelude.{◌≡◌, ℕ, List, [], ◌∷◌, ◌++◌, Some}
use Rattle.message_model.specs.Calls.{numbered}
use Rattle.message_model.specs.Messages.{Message, Answer, reply}
use Rattle.message_model.specs.Sayable.{answer_arrived}
use Rattle.bridge_model.specs.References.{home_answer}
use Rattle.bridge_model.specs.Stacks.{puts_frames}
use Rattle.plan_model.specs.Frames.{Body, Outgoing, Frame, outgoing, frames_of}
use Rattle.bridge_model.specs.Applying.{effect_at}
use Rattle.bridge_model.specs.Entries.{Entry, fed, applied}
use Rattle.bridge_model.specs.Settings.{Setting}
use Rattle.bridge_model.specs.Sides as side
use Rattle.bridge_model.specs.Steps.{Picked, picked, Turn, step}
use Rattle.bridge_laws.specs.Outcomes.{Fate, nothing, for_peer, handed_down, fate_of, replies, replies_by, replies_of_message, roots_by, FramesBy}
use Rattle.world_model.specs.Meetings.{Meets}
use Rattle.world_model.specs.Worlds.{Settings, World, Event}
use Rattle.world_model.specs.declared.side.Side.{Side}
use Rattle.world_laws.specs.Ends.{near, far, other, near_of, far_of}
use Rattle.world_laws.specs.Serving.{IsItsOwn}

-- what a call of this interface and function ends with on a thread, in an entry of an end: a statement ends the innermost method that the other end called, or leads to its
-- end; or a message does, which comes alone: one that asks for function 0, or a reply that hands an exception down
pub data EndsSo (g : Setting) (s : side.Side) (tid face : List ℕ) (function : ℕ) (a : Answer) : Entry → Turn → Type 0 where
  by_statement : (u : Turn) → (p : Picked) → picked tid s ≡ Some p → (served : Body) → (below : List Frame)
      → fate_of g tid p.method p.below (effect_at g tid p.method p.below s.tables) s.tables ≡ for_peer served below a → served.face ≡ face → served.function ≡ function
      → EndsSo g s tid face function a (applied tid) u
  by_message : (bytes : List ℕ) → (u : Turn) → (m : Message) → u.got ≡ m ∷ [] → replies_of_message g s.tables s.stacks m ≡ reply tid face function a ∷ []
      → EndsSo g s tid face function a (fed bytes) u

-- a moment of a run at which an end was about to answer, while the other had these frames on the thread
pub record IsAnsweredThere (g : Settings) (which : Side) (es : List Event) (fs : List Frame) (tid face : List ℕ) (function : ℕ) (a : Answer) : Type 0 where
  pub front : List Event
  pub entry : Entry
  pub later : List Event
  pub run : es ≡ front ++ record { side = other which; entry = entry } ∷ later
  pub before : World
  pub met : Meets g front before
  pub turn : Turn
  pub does : step (far_of which g) (far which before).now.side entry ≡ Some turn
  pub ends : EndsSo (far_of which g) (far which before).now.side tid face function a entry turn
  pub same : frames_of tid (near which before).last.side.stacks ≡ fs

-- a reply is the answer to the call on top of its thread: that call was on top when the other end ended it with this, and what it ended there was that call's own: the method that
-- its request began
pub record IsAnswerOfCall (g : Settings) (which : Side) (es : List Event) (w : World) (tid face : List ℕ) (function : ℕ) (a : Answer) : Type 0 where
  pub call : Outgoing
  pub below : List Frame
  pub top : frames_of tid (near which w).last.side.stacks ≡ outgoing call ∷ below
  pub same_face : call.face ≡ face
  pub same_function : call.function ≡ function
  pub there : IsAnsweredThere g which es (outgoing call ∷ below) tid face function a
  pub own : IsItsOwn g which there.front there.before tid call below there.turn

-- a move of an end in which a reply comes: it is the answer of the call on top of its thread, and is handed to the frame below that call, as it is here; it is for somebody,
-- who keeps it, and what it ends is answered
pub record IsHanded (g : Settings) (which : Side) (es : List Event) (w : World) (u : Turn) (tid face : List ℕ) (function : ℕ) (a : Answer) : Type 0 where
  pub answer : IsAnswerOfCall g which es w tid face function a
  pub fate : Fate
  pub down : fate ≡ handed_down (near_of which g).registry tid (home_answer (near_of which g) (answer_arrived g.registry (numbered g.registry face function) a)) answer.below
  pub somebody : fate ≡ nothing → ⊥
  pub roots : u.side.tables.roots ≡ roots_by (near_of which g) fate (near which w).now.side.tables.roots
  pub said : replies u.said ≡ replies_by tid fate
  pub frames : List Frame
  pub left : FramesBy (near_of which g) u.side.tables.objects fate frames
  pub stacks : u.side.stacks ≡ puts_frames tid frames (near which w).now.side.stacks
