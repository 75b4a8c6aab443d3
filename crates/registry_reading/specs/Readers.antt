-- What a reader has read.
use Rattle.std.specs.Prelude.{◌≡◌, true, List, Option, None, Some, ⊤}
use Rattle.uno_model.specs.Entities as plain
use Rattle.uno_entities.specs.Entities.{entity_of}
use Rattle.uno_entities.specs.declared.entity.Entity.{Entity}
use Rattle.registry_text_model.specs.Lines.{written}
use Rattle.registry_reading_model.specs.Headers.{is_free_name}
use Rattle.registry_reading_model.specs.States.{State, between, within, is_above, last_name}
use Rattle.registry_reading.specs.declared.reader.Reader.{Reader}

abbrev pub state_with : List plain.Entity → Option Entity → State
state_with done None = between done
state_with done (Some e) = within done (entity_of e)

abbrev pub state_of : Reader → State
state_of r = state_with (written r.registry) r.entity

-- the entity that is open comes behind those before it, and is none that is built in
abbrev pub MayCome : List plain.Entity → Option Entity → Type 0
MayCome done None = ⊤
MayCome done (Some e) = (is_above done e.name ≡ true) × (is_free_name e.name ≡ true)

pub record IsRead (r : Reader) : Type 0 where
  pub last : r.last ≡ last_name (written r.registry)
  pub entity : MayCome (written r.registry) r.entity
