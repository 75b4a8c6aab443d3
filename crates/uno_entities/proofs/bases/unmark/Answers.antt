use Rattle.std.proofs.Common.{◌∙◌, arith}
use Rattle.std.proofs.lemmas.List.{length-set}
use Rattle.uno_entities.proofs.ReachLemmas.{place_read, ahead_read, ahead_end}
use Rattle.uno_entities.proofs.bases.unmark.Goals as goal

pub index_mut-requires : goal.index_mut-requires
index_mut-requires c =
    let within = place_read c.loop-index.reach.places.items c.args.reach.now.places.items _ c.loop-index.index c.index-place.result.now c.loop-index.invariant.places
    c.requires.within (omega (arith, c.loop-index-test.true, c.len-index-end.ensures)) c.index-place.ensures in
    omega (arith, within, c.loop-index.invariant.long)

pub loop-index-preserved : goal.loop-index-preserved
loop-index-preserved c = record {
  long = length-set _ _ _ ∙ c.loop-index.invariant.long;
  places = c.loop-index.invariant.places;
  ahead = ahead_read _ c.loop-index.reach.places.items _ c.loop-index.index c.index-place.result.now c.loop-index.invariant.places
      (omega (arith, c.loop-index-test.true, c.len-index-end.ensures)) c.index-place.ensures c.loop-index.invariant.ahead;
}

pub returns-clause-clear : goal.returns-clause-clear
returns-clause-clear c =
    ahead_end _ c.args.reach.now.places.items c.loop-index.index _ (omega (arith, c.loop-index-test.false, c.len-index-end.ensures)) c.loop-index.invariant.long
    c.loop-index.invariant.ahead
