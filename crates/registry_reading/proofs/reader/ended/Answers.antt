use Rattle.std.proofs.Common.{ap, ◌∙◌, Err, Some}
use Rattle.uno_entities.specs.Entities.{entity_of}
use Rattle.registry_reading_model.specs.States as model
use Rattle.registry_reading.proofs.ReaderLemmas.{absent, one_more, read_between}
use Rattle.registry_reading.proofs.reader.ended.Goals as goal

pub unreachable-requires : goal.unreachable-requires
unreachable-requires c =
    c.in-Err-Twice.ensures.twice.0 (ap Err c.in-Err-Twice.field-0-is)
    (absent _ _ c.say_what_is_kept.ensures.rising c.requires.free c.requires.above)

pub returns-in-Ok-add-clause-next : goal.returns-in-Ok-add-clause-next
returns-in-Ok-add-clause-next c =
    c.between.ensures.state ∙ ap model.between (one_more _ _ _ c.in-Ok-add.ensures.added c.between.ensures.rising c.requires.free c.requires.above)

pub returns-in-Ok-add-clause-read : goal.returns-in-Ok-add-clause-read
returns-in-Ok-add-clause-read c =
    read_between _ _ _ (entity_of c.args.entity) c.between.ensures.same c.between.ensures.entity (c.between.ensures.last ∙ ap Some c.in-Ok.ensures)
    (one_more _ _ _ c.in-Ok-add.ensures.added c.between.ensures.rising c.requires.free c.requires.above)
