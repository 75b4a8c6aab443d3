use Rattle.std.proofs.Common.{◌≡◌, ◌<◌, ◌∙◌, ℕ, List, length, get_or, Some, refl, ap}
use Rattle.std.specs.Prelude.{slice_get, option_map}
use Rattle.std.proofs.lemmas.Option.{slice_get-map, slice_get_read}
use Rattle.uno_entities.specs.declared.entity.Entity.{Entity}
use Rattle.uno_entities.specs.Entities.{entity_of, entities_of}
use Rattle.uno_entities.proofs.bases.mark_bases.Goals as goal

-- the plain tree of what is read at a place
read_at : (es : List Entity) (place : ℕ) (e : Entity) → place < length es → e ≡ get_or es place e → slice_get (entities_of es) place ≡ Some (entity_of e)
read_at es place e within is = slice_get-map entity_of es place ∙ ap (option_map entity_of) (slice_get_read es (length es) place e refl within is)

pub returns : goal.returns
returns c =
    rw (read_at c.args.entities.now c.args.place c.index-entities-place.result c.requires.place c.index-entities-place.is) c.mark_bases_of.ensures
