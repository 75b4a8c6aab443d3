use Rattle.std.proofs.Common.{arith}
use Rattle.uno_entities.proofs.FewLemmas.{few_at_more, one_waits_not, none_left}
use Rattle.uno_entities.specs.Entities.{entities_of}
use Rattle.uno_entities.proofs.few_functions.others_have_few.Goals as goal

pub loop-place-preserved : goal.loop-place-preserved
loop-place-preserved c = record {
  few = few_at_more (entities_of c.args.entities.now) c.args.later.now c.loop-place.place _ c.in_ok-waits_or_has_few.field-0 c.loop-place.invariant.few
      c.in_ok-waits_or_has_few.ensures.few c.if-not-branch.false;
  known = c.in_ok-waits_or_has_few.ensures.after;
  clear = c.in_ok-waits_or_has_few.ensures.clear;
}

pub returns-then-not-branch-clause-few : goal.returns-then-not-branch-clause-few
returns-then-not-branch-clause-few c =
    one_waits_not (entities_of c.args.entities.now) c.args.later.now c.loop-place.place _ c.in_ok-waits_or_has_few.field-0
    (omega (arith, c.requires.long, c.loop-place-test.true)) c.in_ok-waits_or_has_few.ensures.few c.if-not-branch.true

pub returns-clause-few : goal.returns-clause-few
returns-clause-few c =
    none_left (entities_of c.args.entities.now) c.args.later.now c.loop-place.place (omega (arith, c.requires.long, c.loop-place-test.false)) c.loop-place.invariant.few
