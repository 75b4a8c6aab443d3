use Rattle.std.proofs.Common.{sym, ◌∙◌}
use Rattle.std.proofs.lemmas.List.{length-map}
use Rattle.std.proofs.lemmas.Result.{on_ok_weaker}
use Rattle.uno_entities.specs.Entities.{entity_of}
use Rattle.uno_entities.proofs.SpreadLemmas.{marks_place, spreads_nothing, absent_nowhere}
use Rattle.uno_entities.proofs.bases.mark_name.Goals as goal

pub returns-in-Ok : goal.returns-in-Ok
returns-in-Ok c =
    on_ok_weaker c.mark_place.result (marks_place _ _ _ _ _ _ _ c.requires.rising (c.requires.long ∙ sym (length-map c.args.entities.now entity_of)) c.in-Ok.ensures.place) c.mark_place.ensures

pub returns-in-Err : goal.returns-in-Err
returns-in-Err c = spreads_nothing _ _ _ _ (absent_nowhere _ _ c.requires.rising c.in-Err.ensures.gap.absent)
