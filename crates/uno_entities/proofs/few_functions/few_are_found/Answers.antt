use Rattle.std.proofs.Common.{arith, ◌∙◌, length}
use Rattle.std.proofs.lemmas.List.{length-map}
use Rattle.uno_entities.proofs.FewLemmas.{marks_long, many_found, few_told, known_more}
use Rattle.uno_entities.proofs.ReachLemmas.{lists_cover, listed_within}
use Rattle.uno_entities.specs.Entities.{entity_of, entities_of}
use Rattle.uno_entities.proofs.few_functions.few_are_found.Goals as goal

pub functions_of_reached-requires-clause-long : goal.functions_of_reached-requires-clause-long
functions_of_reached-requires-clause-long c = marks_long c.args.entities.now c.args.place _ c.requires.place c.in_ok-reach_bases.ensures.bases

pub functions_of_reached-requires-clause-covered : goal.functions_of_reached-requires-clause-covered
functions_of_reached-requires-clause-covered c = lists_cover _ _ c.in_ok-reach_bases.ensures.listed

pub returns-then-functions_of_reached-gt-MOST-clause-few : goal.returns-then-functions_of_reached-gt-MOST-clause-few
returns-then-functions_of_reached-gt-MOST-clause-few c =
    many_found (entities_of c.args.entities.now) c.args.place _ _ c.requires.rising c.requires.circles
    (omega (arith, c.requires.place, length-map c.args.entities.now entity_of)) c.in_ok-reach_bases.ensures.bases c.functions_of_reached.ensures.count
    c.if-functions_of_reached-gt-MOST.true

pub mark_places-requires : goal.mark_places-requires
mark_places-requires c =
    listed_within _ c.as_slice.result.now c.reach_bases.new.reach.places.items (length c.args.entities.now) (length c.args.known.now) c.in_ok-reach_bases.ensures.listed
    (c.as_slice.ensures.value ∙ c.functions_of_reached.ensures.places) (marks_long c.args.entities.now c.args.place _ c.requires.place c.in_ok-reach_bases.ensures.bases)
    (c.requires.before.one_each ∙ length-map c.args.entities.now entity_of)

pub returns-clause-few : goal.returns-clause-few
returns-clause-few c =
    few_told (entities_of c.args.entities.now) c.args.place _ _ c.requires.rising c.requires.circles c.in_ok-reach_bases.ensures.bases c.functions_of_reached.ensures.count
    (omega (arith, c.if-functions_of_reached-gt-MOST.false))

pub returns-clause-after : goal.returns-clause-after
returns-clause-after c =
    known_more (entities_of c.args.entities.now) c.args.place _ _ c.args.known.now _ c.as_slice.result.now c.reach_bases.new.reach.places.items c.requires.rising
    c.requires.circles
    (omega (arith, c.requires.place, length-map c.args.entities.now entity_of)) c.in_ok-reach_bases.ensures.bases c.functions_of_reached.ensures.count
    (omega (arith, c.if-functions_of_reached-gt-MOST.false)) c.in_ok-reach_bases.ensures.listed (c.as_slice.ensures.value ∙ c.functions_of_reached.ensures.places)
    c.requires.before c.mark_places.ensures
