use Rattle.std.proofs.Common.{arith, length, ◌∙◌}
use Rattle.std.proofs.lemmas.List.{length-map}
use Rattle.uno_entities.proofs.FewLemmas.{marks_long}
use Rattle.uno_entities.proofs.ReachLemmas.{lists_cover, listed_within}
use Rattle.uno_entities.specs.Entities.{entity_of, entities_of}
use Rattle.rules_over_bases.proofs.KnownLemmas.{searched_differ, searched_over, more_differ}
use Rattle.rules_over_bases.proofs.over.search.Goals as goal

pub reached_differ-requires-clause-long : goal.reached_differ-requires-clause-long
reached_differ-requires-clause-long c = marks_long c.args.entities.now c.args.place _ c.requires.place c.in_ok-reach_bases.ensures.bases

pub reached_differ-requires-clause-covered : goal.reached_differ-requires-clause-covered
reached_differ-requires-clause-covered c = lists_cover _ _ c.in_ok-reach_bases.ensures.listed

pub returns-then-not-differ-clause-differ : goal.returns-then-not-differ-clause-differ
returns-then-not-differ-clause-differ c =
    searched_differ (entities_of c.args.entities.now) c.args.place _ _ _ c.requires.rising c.requires.no_circle c.in_ok-reach_bases.ensures.bases
    c.in_ok-differ.ensures.differ c.if-not-differ.true

pub returns-then-not-differ-clause-seen : goal.returns-then-not-differ-clause-seen
returns-then-not-differ-clause-seen c =
    searched_over (entities_of c.args.entities.now) c.args.place _ _ _ _ c.requires.rising c.requires.no_circle c.in_ok-reach_bases.ensures.bases
    c.in_ok-differ.ensures.seen c.if-not-differ.true

pub mark_places-requires : goal.mark_places-requires
mark_places-requires c =
    listed_within _ c.as_slice.result.now c.reach_bases.new.reach.places.items (length c.args.entities.now) (length c.args.known.now) c.in_ok-reach_bases.ensures.listed
    (c.as_slice.ensures.value ∙ c.unmark.ensures.places ∙ c.in_ok-differ.ensures.places)
    (marks_long c.args.entities.now c.args.place _ c.requires.place c.in_ok-reach_bases.ensures.bases)
    (c.requires.before.one_each ∙ length-map c.args.entities.now entity_of)

pub returns-clause-differ : goal.returns-clause-differ
returns-clause-differ c =
    searched_differ (entities_of c.args.entities.now) c.args.place _ _ _ c.requires.rising c.requires.no_circle c.in_ok-reach_bases.ensures.bases
    c.in_ok-differ.ensures.differ c.if-not-differ.false

pub returns-clause-seen : goal.returns-clause-seen
returns-clause-seen c =
    searched_over (entities_of c.args.entities.now) c.args.place _ _ _ _ c.requires.rising c.requires.no_circle c.in_ok-reach_bases.ensures.bases
    c.in_ok-differ.ensures.seen c.if-not-differ.false

pub returns-clause-after : goal.returns-clause-after
returns-clause-after c =
    more_differ (entities_of c.args.entities.now) c.args.place _ c.args.known.now _ c.as_slice.result.now c.reach_bases.new.reach.places.items c.requires.rising
    c.requires.no_circle
    (omega (arith, c.requires.place, length-map c.args.entities.now entity_of)) c.in_ok-reach_bases.ensures.bases c.in_ok-reach_bases.ensures.listed
    (c.as_slice.ensures.value ∙ c.unmark.ensures.places ∙ c.in_ok-differ.ensures.places)
    (searched_differ (entities_of c.args.entities.now) c.args.place _ _ _ c.requires.rising c.requires.no_circle c.in_ok-reach_bases.ensures.bases
    c.in_ok-differ.ensures.differ c.if-not-differ.false)
    c.requires.before c.mark_places.ensures
