use Rattle.std.proofs.Common.{sym}
use Rattle.uno_entities.specs.Entities.{member_of}
use Rattle.registry_text_model.specs.Lines.{member_lines}
use Rattle.reg_text.proofs.TextLemmas.{each_more, no_lines}
use Rattle.reg_text.proofs.members.push_members.Goals as goal

pub loop-member-init : goal.loop-member-init
loop-member-init c = sym (no_lines c.args.text.now.items)

pub loop-member-preserved : goal.loop-member-preserved
loop-member-preserved c = each_more c.args.members.now c.loop-member.member-index c.member-item.result _ _ _ member_of member_lines c.loop-member-test.true c.member-item.is c.loop-member.invariant c.in_ok-push_member.ensures
