use Rattle.std.proofs.Common.{◌||◌, refl}
use Rattle.std.specs.List.{list_any}
use Rattle.idl_names.specs.Tables.{is_among, is_entity_at}
use Rattle.idl_names.proofs.MarkLemmas.{low_for, marks_then}
use Rattle.idl_names.proofs.tables.entity_marks.Goals as goal

pub mark_entities-requires : goal.mark_entities-requires
mark_entities-requires c = low_for (λ d. d.path) c.args.count _ c.args.all.now c.args.all.now c.in_ok-marks.ensures.long refl c.requires.declared

pub returns : goal.returns
returns c =
    marks_then c.args.count c.in_ok-marks.marks.items c.mark_entities.new.marks.items (λ n. is_among c.args.opened.now.interfaces.items n || is_among c.args.opened.now.exceptions.items n)
    (λ n. list_any (is_entity_at n) c.args.all.now) c.in_ok-marks.ensures c.mark_entities.ensures
