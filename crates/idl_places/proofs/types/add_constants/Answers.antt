use Rattle.std.proofs.Common.{sym, append-nil, map, List}
use Rattle.std.specs.List.{flat_map}
use Rattle.idl_places.specs.Standings.{wrong_stand}
use Rattle.uno_entities.specs.Entities.{entities_of}
use Rattle.idl_rules_model.specs.TypePlaces.{as_value}
use Rattle.idl_model.specs.Trees as tree
use Rattle.idl_places.proofs.Steps.{told_behind, joined_mapped_tells}
use Rattle.idl_places.specs.Places.{places_of}
use Rattle.idl_trees.specs.Members.{constant_of}
use Rattle.idl_places.proofs.types.add_constants.Goals as goal

pub loop-constant-init : goal.loop-constant-init
loop-constant-init g c = sym (append-nil (places_of c.args.places.now.items))

pub loop-constant-preserved : goal.loop-constant-preserved
loop-constant-preserved g c =
    told_behind (λ (ms : List tree.Constant). flat_map (wrong_stand (g.M.Meanings.telling c.args.meanings.now) (entities_of c.args.entities.now)) (map (λ p. as_value p.type) ms)) (λ (m : tree.Constant). wrong_stand (g.M.Meanings.telling c.args.meanings.now) (entities_of c.args.entities.now) (as_value m.type)) (joined_mapped_tells (wrong_stand (g.M.Meanings.telling c.args.meanings.now) (entities_of c.args.entities.now)) (λ (p : tree.Constant). as_value p.type)) constant_of c.args.constants.now c.loop-constant.constant-index c.constant-item.result _ _ _
    c.loop-constant-test.true c.constant-item.is c.loop-constant.invariant c.in_ok-add_type.ensures
