use Rattle.std.proofs.Common.{sym}
use Rattle.uno_entities.specs.Entities.{member_of}
use Rattle.registry_text_model.specs.Canonical.{member_tokens}
use Rattle.idl_print.proofs.TokenLemmas.{each_more, no_tokens}
use Rattle.idl_print.proofs.interface.push_members.Goals as goal

pub loop-member-init : goal.loop-member-init
loop-member-init c = sym (no_tokens c.args.text.now.items)

pub loop-member-preserved : goal.loop-member-preserved
loop-member-preserved c = each_more c.args.members.now c.loop-member.member-index c.member-item.result _ _ _ member_of member_tokens c.loop-member-test.true c.member-item.is c.loop-member.invariant c.in_ok-push_member.ensures
