use Rattle.std.proofs.Common.{sym, append-nil, List, not, ◌||◌}
use Rattle.std.specs.List.{flat_map}
use Rattle.idl_places.specs.Methods.{giving_back}
use Rattle.idl_rules_model.specs.OneWay.{method_in}
use Rattle.idl_meaning_model.specs.Meaning.{method_meant}
use Rattle.registry_text_model.specs.OneWayMethods.{gives_nothing}
use Rattle.idl_model.specs.Trees as tree
use Rattle.idl_places.proofs.Steps.{told_behind, failing_joined_tells}
use Rattle.idl_places.specs.Places.{places_of}
use Rattle.idl_trees.specs.Members.{interface_member_of}
use Rattle.idl_places.proofs.one_way.add_members.Goals as goal

pub loop-member-init : goal.loop-member-init
loop-member-init g c = sym (append-nil (places_of c.args.places.now.items))

pub loop-member-preserved : goal.loop-member-preserved
loop-member-preserved g c =
    told_behind (λ (ms : List tree.InterfaceMember). giving_back (g.M.Meanings.telling c.args.meanings.now) (flat_map method_in ms)) (λ (m : tree.InterfaceMember). giving_back (g.M.Meanings.telling c.args.meanings.now) (method_in m)) (failing_joined_tells (λ (m : tree.Method). not m.oneway || gives_nothing (method_meant (g.M.Meanings.telling c.args.meanings.now).all (g.M.Meanings.telling c.args.meanings.now).declared.modules m)) (λ (m : tree.Method). m.name.place) method_in) interface_member_of c.args.members.now c.loop-member.member-index c.member-item.result _ _ _
    c.loop-member-test.true c.member-item.is c.loop-member.invariant c.in_ok-add_member.ensures
