use Rattle.std.proofs.Common.{◌∙◌, None, ap, length, refl}
use Rattle.std.proofs.lemmas.List.{length-replicate}
use Rattle.idl_names.proofs.MarkLemmas.{low_for, none_noted}
use Rattle.idl_names.proofs.tables.least_places.Goals as goal

pub note_entities-requires : goal.note_entities-requires
note_entities-requires c = low_for (λ d. d.path) c.args.count _ c.args.all.now c.args.all.now (ap length c.in_ok-leasts.ensures ∙ length-replicate c.args.count None) refl c.requires

pub returns : goal.returns
returns c = none_noted c.args.all.now c.args.count c.in_ok-leasts.leasts.items c.note_entities.new.leasts.items c.in_ok-leasts.ensures c.note_entities.ensures
