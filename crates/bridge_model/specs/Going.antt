-- What goes: bytes that are drained, and objects that are reaped.
use Rattle.std.specs.Prelude.{ℕ, Bool, nat_lt, List, [], ◌∷◌, ◌++◌, length, take, drop, if◌then◌else◌}
use Rattle.std.specs.Str.{bytes_eq}
use Rattle.message_model.specs.Messages.{Message}
use Rattle.message_model.specs.WritingMessages.{message_spelling, after_message, messages_spelling}
use Rattle.uno_model.specs.Entities.{Entity}
use Rattle.urp_model.specs.Blocks.{spell_block}
use Rattle.table_model.specs.declared.holder.Holder.TheVariants as holder
use Rattle.bridge_model.specs.Objects.{without_object}
use Rattle.bridge_model.specs.References.{lets_go_all, loses_all, refs_of_values}
use Rattle.bridge_model.specs.Settings.{Setting}
use Rattle.bridge_model.specs.Sides.{Object, Tables, Outgoing, Side, stands, on_tables}

-- ---- bytes

-- all bytes that wait
unfoldable pub waiting_bytes : Setting → Side → List ℕ
waiting_bytes g s = s.outgoing.ready ++ messages_spelling g.registry s.tables.unsaid s.outgoing.spoken

-- what goes out, and the messages that are not spelled
pub record Spelling : Type 0 where
  pub outgoing : Outgoing
  pub unsaid : List Message

-- a message is spelled, in a block of its own
abbrev pub spells : List Entity → Message → Outgoing → Outgoing
spells reg m o =
    record {
      ready = o.ready ++ spell_block 1 (message_spelling reg m o.spoken);
      spoken = after_message reg m o.spoken;
    }

-- as few messages are spelled as serve for so many bytes
unfoldable pub spells_for : List Entity → ℕ → List Message → Outgoing → Spelling
spells_for reg n [] o = record { outgoing = o; unsaid = [] }
spells_for reg n (m ∷ ms) o = if nat_lt (length o.ready) n then spells_for reg n ms (spells reg m o) else record { outgoing = o; unsaid = m ∷ ms }

abbrev pub less_ready : ℕ → Outgoing → Outgoing
less_ready n o = record o { ready = drop n o.ready }

abbrev pub with_spelling : ℕ → Spelling → Side → Side
with_spelling n x s = record s { tables = record s.tables { unsaid = x.unsaid }; outgoing = less_ready n x.outgoing }

-- so many bytes are drained
unfoldable pub drains : Setting → ℕ → Side → Side
drains g n s = with_spelling n (spells_for g.registry n s.tables.unsaid s.outgoing) s

-- bytes are the next that wait
unfoldable pub are_next : Setting → List ℕ → Side → Bool
are_next g bytes s = bytes_eq bytes (take (length bytes) (waiting_bytes g s))

-- ---- objects

abbrev pub reaps_object : Setting → Bool → Object → Tables → Tables
reaps_object g standing o t = if standing then lets_go_all g (holder.Object o.number) (refs_of_values o.fields) (record t { objects = without_object o.number t.objects })
    else loses_all (holder.Object o.number) (refs_of_values o.fields) (record t { objects = without_object o.number t.objects })

-- an object goes, and lets its fields go
unfoldable pub reaps : Setting → Object → Side → Side
reaps g o s = on_tables (reaps_object g (stands s) o) s
