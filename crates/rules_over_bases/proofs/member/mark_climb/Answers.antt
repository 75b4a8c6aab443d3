use Rattle.uno_model.specs.Sound.{has_member}
use Rattle.uno_entities.specs.Entities.{entities_of}
use Rattle.rules_over_bases.proofs.ClimbLemmas.{known_one_more, marks_on}
use Rattle.rules_over_bases.proofs.member.mark_climb.Goals as goal

pub loop-preserved : goal.loop-preserved
loop-preserved c =
    let on =
    marks_on c.args.entities.now c.loop.at c.in-Some.base _ _ _ c.requires.rising c.requires.no_circle c.loop.invariant.within c.loop.invariant.member
    c.needs_base.ensures c.if-not-needs_base.false c.in-Some.ensures in
    record {
      within = on.0;
      member = on.1;
      known = known_one_more (has_member (entities_of c.args.entities.now)) (entities_of c.args.entities.now) c.loop.known c.loop.at c.loop.invariant.known c.loop.invariant.member;
    }
