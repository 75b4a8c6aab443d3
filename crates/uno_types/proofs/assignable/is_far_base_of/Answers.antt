use Rattle.std.proofs.Common.{◌≡◌, None, sym, subst, ap, ◌∙◌, length, arith}
use Rattle.std.proofs.lemmas.List.{length-map}
use Rattle.uno_model.specs.Registry.{find_entity}
use Rattle.uno_model.proofs.ReachesLaws.{reaches_bases}
use Rattle.uno_entities.specs.Entities.{entity_of}
use Rattle.uno_types.proofs.AssignableLemmas.{absent_source, absent_target, by_places}
use Rattle.uno_types.proofs.assignable.is_far_base_of.Goals as goal

pub returns-in_default : goal.returns-in_default
returns-in_default c =
    rw c.eq.ensures (absent_source _ _ _ (subst (λ r. find_entity c.args.from.now r ≡ None) c.entities-entities.ensures.all c.in_default.ensures.gap.absent))

pub returns-in_default-place_in : goal.returns-in_default-place_in
returns-in_default-place_in c =
    rw c.eq-in_default-place_in.ensures (absent_target _ _ _ c.requires (subst (λ r. find_entity c.args.to.now r ≡ None) c.entities-entities.ensures.all c.in_default-place_in.ensures.gap.absent))

pub returns-in-Ok-is_marked : goal.returns-in-Ok-is_marked
returns-in-Ok-is_marked c =
    rw (← c.entities-entities.ensures.all) (by_places _ _ _ _ _ _ c.in-Ok.ensures.place c.in-Ok-place_in.ensures.place c.in-Ok-is_marked.ensures)

pub returns-in-Err : goal.returns-in-Err
returns-in-Err c =
    rw c.reaches.ensures (reaches_bases _ _ _ _ c.requires.no_circle (ap length (sym c.entities-entities.ensures.all) ∙ length-map c.entities-entities.result.now entity_of))

pub is_marked-requires-clause-source : goal.is_marked-requires-clause-source
is_marked-requires-clause-source c = omega (arith, c.in-Ok.ensures.place.within, length-map c.entities-entities.result.now entity_of)

pub is_marked-requires-clause-target : goal.is_marked-requires-clause-target
is_marked-requires-clause-target c = omega (arith, c.in-Ok-place_in.ensures.place.within, length-map c.entities-entities.result.now entity_of)
