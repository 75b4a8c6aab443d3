use Rattle.std.proofs.Common.{refl, sym, subst, ◌+◌, ◌∙◌, ap, arith, length}
use Rattle.std.proofs.lemmas.List.{length-set}
use Rattle.uno_entities.proofs.FunctionLemmas.{share_step, shares_end}
use Rattle.uno_entities.proofs.ReachLemmas.{place_read, ahead_read, ahead_end, IsAhead}
use Rattle.uno_entities.proofs.functions.functions_of_reached.Goals as goal

pub functions_at-requires-clause-place : goal.functions_at-requires-clause-place
functions_at-requires-clause-place c =
    let within = place_read c.loop-index.reach.places.items c.args.reach.now.places.items _ c.loop-index.index c.index-place.result.now c.loop-index.invariant.places
    c.requires.covered.within (omega (arith, c.loop-index-test.true, c.len-index-end.ensures)) c.index-place.ensures in
    omega (arith, within, c.requires.long)

pub loop-index-preserved : goal.loop-index-preserved
loop-index-preserved c = record {
  long = ap length c.functions_at.ensures.marks ∙ length-set _ _ _ ∙ c.loop-index.invariant.long;
  places = c.loop-index.invariant.places;
  ahead = subst (λ ms. IsAhead ms c.args.reach.now.places.items (c.loop-index.index + 1)) (sym c.functions_at.ensures.marks)
      (ahead_read _ c.loop-index.reach.places.items _ c.loop-index.index c.index-place.result.now c.loop-index.invariant.places
      (omega (arith, c.loop-index-test.true, c.len-index-end.ensures)) c.index-place.ensures c.loop-index.invariant.ahead);
  low = omega (arith, c.saturating_add-total.ensures);
  count = share_step c.loop-index.total _ _ _ _ _ _ refl c.functions_at.ensures.count c.loop-index.invariant.count c.saturating_add-total.ensures;
}

pub returns-clause-count : goal.returns-clause-count
returns-clause-count c =
    shares_end _ _ _ c.loop-index.total _ _
    (ahead_end _ c.args.reach.now.places.items c.loop-index.index _ (omega (arith, c.loop-index-test.false, c.len-index-end.ensures)) c.loop-index.invariant.long
    c.loop-index.invariant.ahead)
    c.loop-index.invariant.low c.loop-index.invariant.count

pub returns-clause-clear : goal.returns-clause-clear
returns-clause-clear c =
    ahead_end _ c.args.reach.now.places.items c.loop-index.index _ (omega (arith, c.loop-index-test.false, c.len-index-end.ensures)) c.loop-index.invariant.long
    c.loop-index.invariant.ahead
