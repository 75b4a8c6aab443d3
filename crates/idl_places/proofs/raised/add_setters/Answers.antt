use Rattle.std.proofs.Common.{sym, append-nil, List}
use Rattle.std.specs.List.{flat_map}
use Rattle.idl_places.specs.Setters.{setting_wrongly, sets_rightly}
use Rattle.idl_rules_model.specs.Raised.{attribute_in}
use Rattle.idl_model.specs.Trees as tree
use Rattle.idl_places.proofs.Steps.{told_behind, failing_joined_tells}
use Rattle.idl_places.specs.Places.{places_of}
use Rattle.idl_trees.specs.Members.{interface_member_of}
use Rattle.idl_places.proofs.raised.add_setters.Goals as goal

pub loop-member-init : goal.loop-member-init
loop-member-init c = sym (append-nil (places_of c.args.places.now.items))

pub loop-member-preserved : goal.loop-member-preserved
loop-member-preserved c =
    told_behind (λ (ms : List tree.InterfaceMember). setting_wrongly (flat_map attribute_in ms)) (λ (m : tree.InterfaceMember). setting_wrongly (attribute_in m)) (failing_joined_tells sets_rightly (λ (a : tree.Attribute). a.name.place) attribute_in) interface_member_of c.args.members.now c.loop-member.member-index c.member-item.result _ _ _
    c.loop-member-test.true c.member-item.is c.loop-member.invariant c.in_ok-add_setter.ensures
