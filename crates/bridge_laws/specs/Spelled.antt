-- What the bytes spell that an end was fed, whoever the peer is: the messages that it got, each read while the calls waited that its stacks had before it.
use Rattle.std.specs.Prelude.{◌≡◌, ℕ, true, false, List, [], ◌∷◌, ◌++◌, Some}
use Rattle.message_model.specs.Calls.{Waits}
use Rattle.message_model.specs.Headers.{Heard, nothing_heard}
use Rattle.message_model.specs.Messages.{Message}
use Rattle.message_model.specs.ReadingStreams.{joined}
use Rattle.message_model.specs.Streams.{SpellsStream}
use Rattle.bridge_model.specs.Entries.{Entry}
use Rattle.bridge_model.specs.Feeding.{ends_part}
use Rattle.bridge_model.specs.Histories.{Told, Leads}
use Rattle.bridge_model.specs.Receiving.{receives}
use Rattle.bridge_model.specs.Settings.{Setting}
use Rattle.bridge_model.specs.Sides.{Side, stands}
use Rattle.bridge_model.specs.Stacks.{waits_of}
use Rattle.bridge_model.specs.Steps.{Turn, step}

-- the calls that wait before each of these messages, which a side receives one after the other
unfoldable pub waits_along : Setting → Side → List Message → List Waits
waits_along g s [] = []
waits_along g s (m ∷ ms) = waits_of s.stacks ∷ waits_along g (receives g m s) ms

-- the messages that a journal brought, block by block, with the calls that waited before each: an entry brings the messages of one block, or none
pub data Brings (g : Setting) : List Entry → List (List Waits) → List (List Message) → Type 0 where
  nothing : Brings g [] [] []
  no_block : (es : List Entry) → (e : Entry) → (x : Told) → (u : Turn) → (waits : List (List Waits)) → (blocks : List (List Message)) → Brings g es waits blocks → Leads g es x
      → step g x.side e ≡ Some u → u.got ≡ [] → Brings g (es ++ e ∷ []) waits blocks
  a_block : (es : List Entry) → (e : Entry) → (x : Told) → (u : Turn) → (waits : List (List Waits)) → (blocks : List (List Message)) → Brings g es waits blocks → Leads g es x
      → step g x.side e ≡ Some u → (u.got ≡ [] → ⊥) → Brings g (es ++ e ∷ []) (waits ++ waits_along g x.side u.got ∷ []) (blocks ++ u.got ∷ [])

-- the bytes that came are the spelling of the blocks that came, and behind it a part of a block; where the bridge stands, this part is held, and what is remembered is what is
-- remembered after these messages
pub record IsSpelled (g : Setting) (es : List Entry) (x : Told) : Type 0 where
  pub waits : List (List Waits)
  pub blocks : List (List Message)
  pub brought : Brings g es waits blocks
  pub got : x.got ≡ joined blocks
  pub whole : List ℕ
  pub part : List ℕ
  pub came : x.bytes_in ≡ whole ++ part
  pub after : Heard
  pub spelled : SpellsStream g.registry waits whole nothing_heard blocks after
  pub unended : ends_part part ≡ false
  pub held : stands x.side ≡ true → (x.side.incoming.held ≡ part) × (x.side.incoming.heard ≡ after)
