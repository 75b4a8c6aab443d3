use Rattle.entity_rules.proofs.GraphLemmas.{written_more, contained_step}
use Rattle.registry_rules.proofs.circles.push_contained.Goals as goal

pub loop-member-preserved : goal.loop-member-preserved
loop-member-preserved c =
    written_more _ c.args.row.now.items _ _ _ _ _ c.loop-member.invariant c.in_ok-push_struct.ensures
    (contained_step c.args.members.now c.loop-member.member-index c.member-item.result c.loop-member-test.true c.member-item.is)
