use Rattle.std.proofs.Common.{sym, append-nil, List}
use Rattle.std.specs.List.{flat_map}
use Rattle.idl_places.specs.Standings.{wrong_stand}
use Rattle.uno_entities.specs.Entities.{entities_of}
use Rattle.idl_rules_model.specs.TypePlaces.{in_service}
use Rattle.idl_model.specs.Trees as tree
use Rattle.idl_places.proofs.Steps.{told_behind, twice_joined_tells}
use Rattle.idl_places.specs.Places.{places_of}
use Rattle.idl_trees.specs.Members.{service_member_of}
use Rattle.idl_places.proofs.types.add_properties.Goals as goal

pub loop-member-init : goal.loop-member-init
loop-member-init g c = sym (append-nil (places_of c.args.places.now.items))

pub loop-member-preserved : goal.loop-member-preserved
loop-member-preserved g c =
    told_behind (λ (ms : List tree.ServiceMember). flat_map (wrong_stand (g.M.Meanings.telling c.args.meanings.now) (entities_of c.args.entities.now)) (flat_map in_service ms)) (λ (m : tree.ServiceMember). flat_map (wrong_stand (g.M.Meanings.telling c.args.meanings.now) (entities_of c.args.entities.now)) (in_service m)) (twice_joined_tells (wrong_stand (g.M.Meanings.telling c.args.meanings.now) (entities_of c.args.entities.now)) in_service) service_member_of c.args.members.now c.loop-member.member-index c.member-item.result _ _ _
    c.loop-member-test.true c.member-item.is c.loop-member.invariant c.in_ok-add_property.ensures
