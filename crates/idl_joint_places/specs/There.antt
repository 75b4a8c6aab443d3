-- The entities of declarations in a registry in which types and numbers are kept otherwise than they are meant.
use Rattle.std.specs.Prelude.{◌≡◌, ℕ, Bool, true, List, [], Option, None, Some, MatchOption, Contains, if◌then◌else◌}
use Rattle.idl_meaning_model.specs.Declarations.{Declared, entities_declared, full_name, is_forward}
use Rattle.idl_meaning_model.specs.Meaning.{entity_meant}
use Rattle.idl_model.specs.Places.{Place}
use Rattle.idl_rules_model.specs.TypePlaces.{at_unless}
use Rattle.registry_reading_model.specs.Changes.{Change, entity_changed}
use Rattle.uno_entities.specs.Finding.{IsPlaceOf}
use Rattle.uno_model.specs.Entities.{Entity}
use Rattle.uno_model.specs.Kinds.{Kind}
use Rattle.uno_model.specs.Registry.{find_entity}
use Rattle.uno_model.specs.Sound.{is_namable}

-- each declared entity is there as it is meant, with its types and numbers changed, but types within the limits stay so, and others stay beyond them
pub record AreKept (ds : List Declared) (reg : List Entity) : Type 0 where
  pub kept : Change
  pub limits : (k : Kind) → is_namable (kept.kind k) ≡ is_namable k
  pub there : (d : Declared) → Contains (entities_declared ds) d → find_entity (full_name d) reg ≡ Some (entity_changed kept (entity_meant ds d))

-- the place of the entity of a name, or none where there is no such entity
abbrev pub FindsPlace : List Entity → List ℕ → Option ℕ → Type 0
FindsPlace reg name found = MatchOption found (find_entity name reg ≡ None) (λ place. IsPlaceOf name reg place)

abbrev pub passes : (Entity → Bool) → Option Entity → Bool
passes test None = true
passes test (Some e) = test e

-- the place of a declaration whose entity is there and does not pass a test
unfoldable pub failing_there : (Entity → Bool) → List Entity → Declared → List Place
failing_there test reg d = if is_forward d.body then [] else at_unless d.name.place (passes test (find_entity (full_name d) reg))
