use Rattle.std.proofs.Common.{◌∙◌}
use Rattle.idl_repeated_names.proofs.WayLemmas.{place_named}
use Rattle.uno_entities.specs.Entities.{entities_of, entity_of}
use Rattle.idl_repeated_names.proofs.bases.name_at.Goals as goal

pub returns : goal.returns
returns c = λ name there.
    c.as_str.ensures ∙ place_named (entities_of c.args.entities.now) c.args.place (entity_of c.in-Some.entity.now) name c.in-Some.ensures there
