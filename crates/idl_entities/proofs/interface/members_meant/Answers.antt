use Rattle.std.proofs.Common.{[], ◌∷◌, map}
use Rattle.registry_reading_model.specs.Changes as changed
use Rattle.idl_meaning_model.specs.Meaning as model
use Rattle.idl_trees.specs.Members.{interface_member_of}
use Rattle.idl_entities.specs.Telling.{member_told, members_told}
use Rattle.idl_entities.proofs.Steps.{kept_map_tells, told_on}
use Rattle.idl_entities.proofs.interface.members_meant.Goals as goal

pub loop-member-preserved : goal.loop-member-preserved
loop-member-preserved g c =
    let t = g.M.Meanings.telling c.args.meanings.now in
    told_on (members_told t) (member_told t) (kept_map_tells (changed.member_changed t.kept) (model.member_meant t.all t.declared.modules)) interface_member_of c.args.members.now c.loop-member.member-index c.member-item.result _ _
    c.loop-member-test.true c.member-item.is c.loop-member.invariant c.in_ok-add_member.ensures
