-- A text that was read whole.
use Rattle.std.specs.Prelude.{◌≡◌, ℕ, true, List, map}
use Rattle.uno_model.specs.BuiltIn.{HasBuiltIn}
use Rattle.uno_model.specs.Entities.{Entity}
use Rattle.uno_model.specs.Registry.{IsRising}
use Rattle.registry_text_model.specs.Lines.{text_of, written}
use Rattle.registry_text_model.specs.Reading.{are_writable, text_lines}
use Rattle.registry_reading_model.specs.Changes.{entity_changed}
use Rattle.registry_reading_model.specs.Heads.{Head, heads_in, named_in}
use Rattle.registry_reading_model.specs.Kept.{kept}

-- the whole text was read as these entities, and this is kept of them, in a registry with the built-in ones
pub record ReadWhole (bytes : List ℕ) (heads : List Head) (reg : List Entity) : Type 0 where
  pub entities : List Entity
  pub text : bytes ≡ text_of (text_lines entities)
  pub writable : are_writable entities ≡ true
  pub order : IsRising entities
  pub heads_are : heads ≡ heads_in (text_lines entities)
  pub keeps : written reg ≡ map (entity_changed (kept (named_in heads))) entities
  pub rising : IsRising reg
  pub built_in : HasBuiltIn reg
