use Rattle.std.proofs.Common.{[], ◌∷◌, map}
use Rattle.std.specs.List.{filter_map}
use Rattle.std.specs.Option.{option_to_list}
use Rattle.idl_trees.specs.Members.{interface_member_of}
use Rattle.idl_entities.specs.Telling.{base_told}
use Rattle.idl_entities.proofs.Steps.{kept_tells, told_behind}
use Rattle.idl_entities.proofs.interface.add_bases.Goals as goal

pub loop-member-preserved : goal.loop-member-preserved
loop-member-preserved g c =
    let t = g.M.Meanings.telling c.args.meanings.now in
    told_behind (filter_map (base_told t)) (λ m. option_to_list (base_told t m)) (kept_tells (base_told t)) interface_member_of c.args.members.now c.loop-member.member-index c.member-item.result _ _ _
    c.loop-member-test.true c.member-item.is c.loop-member.invariant c.in_ok-add_base_in.ensures
