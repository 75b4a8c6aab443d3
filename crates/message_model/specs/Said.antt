-- All that one end says from the beginning: its bytes, what the end remembers, and the names whose uses took slots.
use Rattle.std.specs.Prelude.{◌≡◌, ℕ, ◌+◌, ◌≤◌, Bool, true, false, List, [], ◌∷◌, ◌++◌, length, Some, if◌then◌else◌}
use Rattle.std.specs.List.{AllByRecursion}
use Rattle.uno_model.specs.Entities.{Entity}
use Rattle.uno_model.specs.Kinds.{Kind, name_of}
use Rattle.uno_model.specs.Kinds as kd
use Rattle.uno_model.specs.Values.{Ref, null, own, peer, Plain, Plains, kind, any, tuple, list, ref, none, more, plains}
use Rattle.urp_model.specs.Blocks.{spell_block}
use Rattle.urp_model.specs.PlacedBlocks.{PlacedBlock}
use Rattle.urp_model.specs.Held.{held_after}
use Rattle.urp_model.specs.NamedKinds.{is_simple}
use Rattle.urp_model.specs.Writing.{HeldNames}
use Rattle.message_model.specs.Headers.{Last, nothing_said}
use Rattle.message_model.specs.Messages.{Answer, returned, raised, Message, request, release, reply}
use Rattle.message_model.specs.Sayable.{message_weight}
use Rattle.message_model.specs.WritingMessages.{Spoken, nothing_spoken, message_spelling, bodies_spelling, after_messages, messages_spelling, is_new, is_new_face}

-- ---- bytes

-- what is remembered after all messages that were said, and their bytes, each message in a block of its own
unfoldable pub spoken_after : List Entity → List Message → Spoken
spoken_after reg said = after_messages reg said nothing_spoken

unfoldable pub spell : List Entity → List Message → List ℕ
spell reg said = messages_spelling reg said nothing_spoken

-- the bodies of blocks of one message each, of which the first stands at this place
unfoldable pub placed_bodies : ℕ → List (List ℕ) → List PlacedBlock
placed_bodies place [] = []
placed_bodies place (body ∷ bodies) = record { place = place; count = 1; body = body } ∷ placed_bodies (place + length (spell_block 1 body)) bodies

-- the blocks that were said
unfoldable pub said_blocks : List Entity → List Message → List PlacedBlock
said_blocks reg said = placed_bodies 0 (bodies_spelling reg said nothing_spoken)

-- none of the messages is too heavy for a block
abbrev pub AreLight : List Message → Type 0
AreLight said = AllByRecursion (λ m. message_weight m ≤ 16777216) said

-- the block of one message more
abbrev pub next_block : List Entity → List Message → Message → List ℕ
next_block reg said m = spell_block 1 (message_spelling reg m (spoken_after reg said))

-- ---- uses

-- names of types, of objects and of threads, the newest use first
pub record Uses : Type 0 where
  pub types : List (List ℕ)
  pub oids : List (List ℕ)
  pub tids : List (List ℕ)

-- the name of a type that is no simple one
abbrev pub kind_use : Kind → List (List ℕ)
kind_use k = if is_simple k then [] else name_of k ∷ []

abbrev pub ref_use : Ref → List (List ℕ)
ref_use null = []
ref_use (own oid face) = oid ∷ []
ref_use (peer oid face) = oid ∷ []

-- the types that a value names, from the last to the first, and the objects
unfoldable mutual
  pub type_uses : Plain → List (List ℕ)
  type_uses (kind k) = kind_use k
  type_uses (any k v) = type_uses v ++ kind_use k
  type_uses (tuple name vs) = types_used vs
  type_uses (list k vs) = types_used vs
  type_uses _ = []

  pub types_used : Plains → List (List ℕ)
  types_used none = []
  types_used (more v vs) = types_used vs ++ type_uses v

unfoldable mutual
  pub oid_uses : Plain → List (List ℕ)
  oid_uses (any k v) = oid_uses v
  oid_uses (tuple name vs) = oids_used vs
  oid_uses (list k vs) = oids_used vs
  oid_uses (ref r) = ref_use r
  oid_uses _ = []

  pub oids_used : Plains → List (List ℕ)
  oids_used none = []
  oids_used (more v vs) = oids_used vs ++ oid_uses v

-- the values of an answer: a result and the others, or an exception in its any
abbrev pub answer_values : Answer → Plains
answer_values (returned v outs) = more v (plains outs)
answer_values (raised k v) = more (any k v) none

-- a name in a header is used where it is not the last one of its kind
abbrev pub name_use : Bool → List ℕ → List (List ℕ)
name_use true name = name ∷ []
name_use false name = []

-- a message's uses, before which these were the last names, behind those of its header those of its values
abbrev pub request_uses : List ℕ → List ℕ → List ℕ → Plains → Last → Uses
request_uses tid oid face values last = record {
  types = types_used values ++ name_use (is_new_face face last.kind) face;
  oids = oids_used values ++ name_use (is_new oid last.oid) oid;
  tids = name_use (is_new tid last.tid) tid;
}

unfoldable pub message_uses : Message → Last → Uses
message_uses (request tid oid face function args) last = request_uses tid oid face (plains args) last
message_uses (release tid oid face) last = request_uses tid oid face none last
message_uses (reply tid face function answer) last =
    record { types = types_used (answer_values answer); oids = oids_used (answer_values answer); tids = name_use (is_new tid last.tid) tid }

-- the last names after a message; a reply names only its thread
unfoldable pub last_after : Message → Last → Last
last_after (request tid oid face function args) last = record { kind = Some (kd.interface face); oid = Some oid; tid = Some tid }
last_after (release tid oid face) last = record { kind = Some (kd.interface face); oid = Some oid; tid = Some tid }
last_after (reply tid face function answer) last = record { kind = last.kind; oid = last.oid; tid = Some tid }

-- uses and, behind them, those that came before
abbrev pub behind_uses : Uses → Uses → Uses
behind_uses new old = record { types = new.types ++ old.types; oids = new.oids ++ old.oids; tids = new.tids ++ old.tids }

-- the uses of messages, before which these were made and these were the last names
unfoldable pub uses_on : List Message → Last → Uses → Uses
uses_on [] last uses = uses
uses_on (m ∷ ms) last uses = uses_on ms (last_after m last) (behind_uses (message_uses m last) uses)

-- all uses that messages make from the beginning
unfoldable pub uses_of : List Message → Uses
uses_of said = uses_on said nothing_said (record { types = []; oids = []; tids = [] })

-- names are what these uses leave
pub record AreLeftBy (names : HeldNames) (uses : Uses) : Type 0 where
  pub types : names.types ≡ held_after uses.types
  pub oids : names.oids ≡ held_after uses.oids
  pub tids : names.tids ≡ held_after uses.tids
