-- The messages of a block as they are heard one by one: what one of them does, or why it breaks the protocol.
use Rattle.std.specs.Prelude.{◌≡◌, ℕ, ◌+◌, Bool, true, false, List, [], ◌∷◌, drop, Option, None, Some, Ok}
use Rattle.message_model.specs.Headers.{Heard as Remembered}
use Rattle.message_model.specs.Messages.{Message, Answer, returned}
use Rattle.urp_model.specs.declared.reason.Reason.{Reason}
use Rattle.bridge_model.specs.Ends.{ends_by}
use Rattle.bridge_model.specs.Feeding.{remembers}
use Rattle.plan_model.specs.Frames.{frames_of}
use Rattle.bridge_model.specs.Handing.{hands_from_peer}
use Rattle.bridge_model.specs.Receiving.{refusal, receives, below_top}
use Rattle.bridge_model.specs.References.{home_answer}
use Rattle.bridge_model.specs.Settings.{Setting}
use Rattle.bridge_model.specs.Sides.{RootState, Side, Incoming, waits_query}
use Rattle.bridge_model.specs.Stacks.{with_unwound}
use Rattle.bridge_model.specs.declared.cause.Cause.TheVariants as cause
use Rattle.bridge_laws.specs.Room.{message_brings}
use Rattle.bridge_state.specs.Reading.{reads, break_of}
use Rattle.bridge_state.specs.declared.hearing.Break.{Break}
use Rattle.bridge_state.specs.declared.hearing.Heard.{Heard}
use Rattle.bridge_state.specs.declared.hearing.Heard.TheVariants as heard

abbrev pub with_incoming : Incoming → Side → Side
with_incoming i s = record s { incoming = i }

-- the call that waited is gone, and the frame below gets what is answered
abbrev pub replied : Setting → List ℕ → Answer → Side → Side
replied g tid a s = with_unwound tid (hands_from_peer g tid (home_answer g a) (below_top (frames_of tid s.stacks)) s.tables) s

-- the outcome of a root in a state has all that an answer holds: what answers a query gives no values of parameters
abbrev pub is_whole : RootState → Answer → Bool
is_whole (waits_query wanted) (returned x []) = true
is_whole (waits_query wanted) (returned x (out ∷ outs)) = false
is_whole state a = true

-- a message of so many bytes is received, and its references are counted
pub record HeardMessage (g : Setting) (body : List ℕ) (before : Side) (count : ℕ) (used : ℕ) (after : Side) (count_now : ℕ) : Type 0 where
  pub message : Message
  pub remembered : Remembered
  pub read : reads g before body ≡ Ok (message, remembered, drop used body)
  pub fine : refusal g before message ≡ None
  pub received : after ≡ receives g message (remembers remembered before)
  pub counted : count_now ≡ count + message_brings message

-- or the first one breaks the protocol, and nothing but what came in is changed
pub record HeardBreak (g : Setting) (body : List ℕ) (before : Side) (count : ℕ) (why : Reason) (after : Side) (count_now : ℕ) : Type 0 where
  pub breaks : break_of g before (reads g before body) ≡ Some why
  pub kept : after ≡ with_incoming after.incoming before
  pub counted : count_now ≡ count

abbrev pub HeardOne : Setting → List ℕ → Side → ℕ → Heard → Side → ℕ → Type 0
HeardOne g body before count (heard.Message used) after count_now = HeardMessage g body before count used after count_now
HeardOne g body before count (heard.Broken why) after count_now = HeardBreak g body before count why after count_now

abbrev pub used_by : Heard → ℕ
used_by (heard.Message used) = used
used_by (heard.Broken why) = 0

-- the end of the bridge that a break is
abbrev pub broken_by : Option Break → Side → Side
broken_by None s = s
broken_by (Some b) s = ends_by (cause.Broken b.why b.place) s
