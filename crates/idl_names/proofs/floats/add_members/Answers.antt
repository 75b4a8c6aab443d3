use Rattle.std.proofs.Common.{sym, append-nil}
use Rattle.idl_meaning_model.specs.Uses.{member_types}
use Rattle.idl_trees.specs.Members.{interface_member_of}
use Rattle.idl_names.specs.Floats.{places_of}
use Rattle.idl_names.proofs.FloatLemmas.{each_types}
use Rattle.idl_names.proofs.floats.add_members.Goals as goal

pub loop-member-init : goal.loop-member-init
loop-member-init c = sym (append-nil (places_of c.args.places.now.items))

pub loop-member-preserved : goal.loop-member-preserved
loop-member-preserved c =
    each_types interface_member_of member_types c.args.members.now c.loop-member.member-index c.member-item.result _ _ _ c.loop-member-test.true c.member-item.is c.loop-member.invariant
    c.in_ok-add_member.ensures
