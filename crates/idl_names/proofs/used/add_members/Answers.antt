use Rattle.std.proofs.Common.{sym, append-nil}
use Rattle.idl_meaning_model.specs.Uses.{an_entity, member_paths}
use Rattle.idl_trees.specs.Members.{interface_member_of}
use Rattle.idl_names.specs.Used.{all_used_of}
use Rattle.idl_names.proofs.UsedLemmas.{each_path}
use Rattle.idl_names.proofs.used.add_members.Goals as goal

pub loop-member-init : goal.loop-member-init
loop-member-init c = sym (append-nil (all_used_of c.args.used.now.items))

pub loop-member-preserved : goal.loop-member-preserved
loop-member-preserved c =
    each_path an_entity interface_member_of member_paths c.args.members.now c.loop-member.member-index c.member-item.result _ _ _ c.loop-member-test.true c.member-item.is c.loop-member.invariant
    c.in_ok-add_member.ensures
