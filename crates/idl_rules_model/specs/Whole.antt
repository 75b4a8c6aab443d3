-- The eleventh rule: a struct or an exception has a member, those of its bases counted, and the limits hold; at the name of the entity.
use Rattle.std.specs.Prelude.{List, [], ◌∷◌}
use Rattle.uno_model.specs.Entities.{Entity}
use Rattle.registry_text_model.specs.WholeWithinLimits.{is_whole_within_limits}
use Rattle.idl_model.specs.Places.{Place}
use Rattle.idl_meaning_model.specs.Declarations.{Declared}
use Rattle.idl_meaning_model.specs.Meaning.{entity_meant}
use Rattle.idl_rules_model.specs.WherePaths.{failing}

unfoldable pub past_limits : List Declared → List Entity → Declared → List Place
past_limits ds reg d = failing (λ e. is_whole_within_limits reg (entity_meant ds e)) (λ e. e.name.place) (d ∷ [])
