use Rattle.std.proofs.Common.{sym, append-nil, List}
use Rattle.uno_entities.specs.Entities.{entities_of}
use Rattle.idl_places.specs.Places.{wrong_paths}
use Rattle.idl_rules_model.specs.WherePaths.{names}
use Rattle.std.specs.List.{flat_map}
use Rattle.uno_model.specs.Sound.{is_interface}
use Rattle.idl_rules_model.specs.Services.{face_in}
use Rattle.idl_model.specs.Trees as tree
use Rattle.idl_places.proofs.Steps.{told_behind, failing_joined_tells}
use Rattle.idl_places.specs.Places.{places_of}
use Rattle.idl_trees.specs.Members.{service_member_of}
use Rattle.idl_places.proofs.services.add_faces.Goals as goal

pub loop-member-init : goal.loop-member-init
loop-member-init g c = sym (append-nil (places_of c.args.places.now.items))

pub loop-member-preserved : goal.loop-member-preserved
loop-member-preserved g c =
    told_behind (λ (ms : List tree.ServiceMember). wrong_paths (g.M.Meanings.telling c.args.meanings.now) (entities_of c.args.entities.now) is_interface (flat_map face_in ms)) (λ (m : tree.ServiceMember). wrong_paths (g.M.Meanings.telling c.args.meanings.now) (entities_of c.args.entities.now) is_interface (face_in m)) (failing_joined_tells (names (g.M.Meanings.telling c.args.meanings.now).all (entities_of c.args.entities.now) is_interface (g.M.Meanings.telling c.args.meanings.now).declared.modules) (λ (p : tree.Path). p.place) face_in) service_member_of c.args.members.now c.loop-member.member-index c.member-item.result _ _ _
    c.loop-member-test.true c.member-item.is c.loop-member.invariant c.in_ok-add_face.ensures
