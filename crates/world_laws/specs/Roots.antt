-- How a root of a run came to its answer: the entry that gave it, the reply that brought it across the bridge, and which exception it may be.
use Rattle.std.specs.Prelude.{◌≡◌, ℕ, List, ◌∷◌, ◌++◌, Some}
use Rattle.message_model.specs.Messages.{Answer, raised}
use Rattle.plan_model.specs.Frames.{frames_of}
use Rattle.uno_model.specs.BuiltIn.{runtime_exception_name}
use Rattle.uno_model.specs.Kinds.{Kind}
use Rattle.uno_model.specs.Kinds as kd
use Rattle.uno_model.specs.Values.{Plain}
use Rattle.bridge_model.specs.Entries.{fed}
use Rattle.bridge_model.specs.Settings.{Setting}
use Rattle.bridge_model.specs.Sides as side
use Rattle.bridge_model.specs.Sides.{state_of}
use Rattle.bridge_model.specs.Steps.{Turn, step}
use Rattle.bridge_laws.specs.Givings.{IsGiven}
use Rattle.bridge_laws.specs.Outcomes.{for_root, root_outcome}
use Rattle.bridge_laws.specs.Raising.{call_of, CallMayRaise}
use Rattle.world_model.specs.Meetings.{Meets}
use Rattle.world_model.specs.Worlds.{Settings, World, Event, entries_of}
use Rattle.world_model.specs.declared.side.Side.{Side}
use Rattle.world_laws.specs.Calls.{IsHanded}
use Rattle.world_laws.specs.Ends.{near, near_of}

-- a message gave a root this answer: a reply came, to the call on top of its thread, and was handed down to the root
pub record IsAnsweredAcross (g : Settings) (which : Side) (es : List Event) (root : ℕ) (a : Answer) : Type 0 where
  pub front : List Event
  pub bytes : List ℕ
  pub later : List Event
  pub run : es ≡ front ++ record { side = which; entry = fed bytes } ∷ later
  pub before : World
  pub met : Meets g front before
  pub turn : Turn
  pub does : step (near_of which g) (near which before).now.side (fed bytes) ≡ Some turn
  pub tid : List ℕ
  pub face : List ℕ
  pub function : ℕ
  pub said : Answer
  pub handed : IsHanded g which front before turn tid face function said
  pub given : Answer
  pub fate : handed.fate ≡ for_root root given
  pub same : a ≡ root_outcome (near_of which g) (state_of root (near which before).now.side.tables.roots) given

-- an exception that a root gets at a side: one that the function of its own call may raise, which stands on the root; or the call is answered before it begins, by a RuntimeException
pub data MayGet (g : Setting) (root : ℕ) (k : Kind) (s : side.Side) : Type 0 where
  of_its_call : (tid : List ℕ) → CallMayRaise g.registry (call_of root (frames_of tid s.stacks)) k → MayGet g root k s
  before_it_began : k ≡ kd.exception runtime_exception_name → MayGet g root k s

-- an answer of a root is its call's own: one entry gave it, behind which the root took none; if a message did, it was the reply to the call on top of its thread, which ended so at
-- the other end; and if it is an exception, the call may raise it
pub record IsOwn (g : Settings) (which : Side) (es : List Event) (root : ℕ) (a : Answer) : Type 0 where
  pub given : IsGiven (near_of which g) (entries_of which es) root a
  pub across : (bytes : List ℕ) → given.entry ≡ fed bytes → IsAnsweredAcross g which es root a
  pub raises : (k : Kind) (x : Plain) → a ≡ raised k x → MayGet (near_of which g) root k given.told.side
