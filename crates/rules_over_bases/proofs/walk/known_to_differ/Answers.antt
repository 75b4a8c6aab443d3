use Rattle.std.proofs.Common.{length, sym, subst, arith}
use Rattle.std.proofs.lemmas.List.{length-map}
use Rattle.uno_entities.specs.Entities.{entities_of, entity_of}
use Rattle.rules_over_bases.specs.Known.{KnownToDiffer, differ_over}
use Rattle.rules_over_bases.proofs.KnownLemmas.{none_known}
use Rattle.rules_over_bases.proofs.TrailLemmas.{written_back}
use Rattle.rules_over_bases.proofs.walk.known_to_differ.Goals as goal

pub loop-place-init : goal.loop-place-init
loop-place-init c = record {
  known = none_known (differ_over (entities_of c.args.entities.now)) (entities_of c.args.entities.now) (length c.args.entities.now) c.in_ok-known.known.items
      (length-map c.args.entities.now entity_of) (c.in_ok-known.ensures.items_if_clones_equal (λ y e. e));
  follows = c.new-trail.ensures (entities_of c.args.entities.now);
  clear = c.requires.clear;
}

pub loop-place-preserved : goal.loop-place-preserved
loop-place-preserved c =
    let long = c.loop-place.known.ok.0 in
    record {
      known = subst (KnownToDiffer (entities_of c.args.entities.now))
          (sym (written_back c.loop-place.known.len c.visit.new.known c.loop-place.known.items
          (omega (arith, long, c.in_ok-visit.ensures.after.one_each, c.loop-place.invariant.known.one_each)))) c.in_ok-visit.ensures.after;
      follows = c.in_ok-visit.ensures.follows;
      clear = c.in_ok-visit.ensures.clear;
    }
