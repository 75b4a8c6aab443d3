use Rattle.std.proofs.Common.{refl, sym, ap, subst, length, ◌+◌, ◌∙◌, arith}
use Rattle.std.proofs.lemmas.List.{length-set}
use Rattle.uno_entities.specs.Entities.{entities_of}
use Rattle.uno_entities.proofs.ReachLemmas.{IsAhead, place_read, ahead_read, ahead_first, ahead_end, still_covered}
use Rattle.rules_over_bases.proofs.OverLemmas.{SeenSoFar, none_so_far, more_so_far, twice_so_far, some_so_far, all_so_far, all_are_seen}
use Rattle.rules_over_bases.proofs.over.reached_differ.Goals as goal

pub loop-index-init : goal.loop-index-init
loop-index-init c = record {
  long = c.requires.long;
  places = refl;
  ahead = ahead_first _ _ c.requires.covered;
  names = none_so_far _ _ _ c.requires.empty;
}

pub add_at-requires-clause-place : goal.add_at-requires-clause-place
add_at-requires-clause-place c =
    let within = place_read c.loop-index.reach.places.items c.args.reach.now.places.items _ c.loop-index.index c.index-place.result.now c.loop-index.invariant.places
    c.requires.covered.within (omega (arith, c.loop-index-test.true, c.len-index-end.ensures)) c.index-place.ensures in
    omega (arith, within, c.requires.long)

pub returns-then-not-branch-clause-differ : goal.returns-then-not-branch-clause-differ
returns-then-not-branch-clause-differ c =
    twice_so_far _ _ (entities_of c.args.entities.now) c.args.reach.now.search.marks.items _ _ _ c.loop-index.invariant.names c.in_ok-add_at.ensures.seen
    c.if-not-branch.true

pub returns-then-not-branch-clause-seen : goal.returns-then-not-branch-clause-seen
returns-then-not-branch-clause-seen c =
    some_so_far _ _ (entities_of c.args.entities.now) c.args.reach.now.search.marks.items _ _ _ c.loop-index.invariant.names c.in_ok-add_at.ensures.seen

pub returns-then-not-branch-clause-covered : goal.returns-then-not-branch-clause-covered
returns-then-not-branch-clause-covered c =
    let ahead = subst (λ ms. IsAhead ms c.args.reach.now.places.items (c.loop-index.index + 1)) (sym c.in_ok-add_at.ensures.marks)
    (ahead_read _ c.loop-index.reach.places.items _ c.loop-index.index c.index-place.result.now c.loop-index.invariant.places
    (omega (arith, c.loop-index-test.true, c.len-index-end.ensures)) c.index-place.ensures c.loop-index.invariant.ahead) in
    still_covered _ c.loop-index.reach.places.items c.args.reach.now.places.items _ _ c.loop-index.invariant.places ahead c.requires.covered.within
    (ap length c.in_ok-add_at.ensures.marks ∙ length-set _ _ _ ∙ c.loop-index.invariant.long ∙ sym c.requires.long)

pub loop-index-preserved : goal.loop-index-preserved
loop-index-preserved c = record {
  long = ap length c.in_ok-add_at.ensures.marks ∙ length-set _ _ _ ∙ c.loop-index.invariant.long;
  places = c.loop-index.invariant.places;
  ahead = subst (λ ms. IsAhead ms c.args.reach.now.places.items (c.loop-index.index + 1)) (sym c.in_ok-add_at.ensures.marks)
      (ahead_read _ c.loop-index.reach.places.items _ c.loop-index.index c.index-place.result.now c.loop-index.invariant.places
      (omega (arith, c.loop-index-test.true, c.len-index-end.ensures)) c.index-place.ensures c.loop-index.invariant.ahead);
  names = subst (SeenSoFar _ (entities_of c.args.entities.now) c.args.reach.now.search.marks.items) (sym c.in_ok-add_at.ensures.marks)
      (more_so_far _ _ (entities_of c.args.entities.now) c.args.reach.now.search.marks.items _ _ _ c.loop-index.invariant.names c.in_ok-add_at.ensures.seen
      c.if-not-branch.false);
}

pub returns-clause-differ : goal.returns-clause-differ
returns-clause-differ c =
    all_so_far _ (entities_of c.args.entities.now) c.args.reach.now.search.marks.items _ (length c.args.entities.now) c.loop-index.invariant.names
    (ahead_end _ c.args.reach.now.places.items c.loop-index.index _ (omega (arith, c.loop-index-test.false, c.len-index-end.ensures)) c.loop-index.invariant.long
    c.loop-index.invariant.ahead)

pub returns-clause-seen : goal.returns-clause-seen
returns-clause-seen c =
    all_are_seen _ (entities_of c.args.entities.now) c.args.reach.now.search.marks.items _ (length c.args.entities.now) c.loop-index.invariant.names
    (ahead_end _ c.args.reach.now.places.items c.loop-index.index _ (omega (arith, c.loop-index-test.false, c.len-index-end.ensures)) c.loop-index.invariant.long
    c.loop-index.invariant.ahead)

pub returns-clause-covered : goal.returns-clause-covered
returns-clause-covered c =
    still_covered _ c.loop-index.reach.places.items c.args.reach.now.places.items _ _ c.loop-index.invariant.places c.loop-index.invariant.ahead
    c.requires.covered.within (c.loop-index.invariant.long ∙ sym c.requires.long)
