use Rattle.std.proofs.Common.{sym, append-nil, map, List}
use Rattle.std.specs.List.{flat_map}
use Rattle.idl_places.specs.Standings.{wrong_stand}
use Rattle.uno_entities.specs.Entities.{entities_of}
use Rattle.idl_rules_model.specs.TypePlaces.{as_value}
use Rattle.idl_model.specs.Trees as tree
use Rattle.idl_places.proofs.Steps.{told_behind, joined_mapped_tells}
use Rattle.idl_places.specs.Places.{places_of}
use Rattle.idl_trees.specs.Members.{constructor_parameter_of}
use Rattle.idl_places.proofs.types.add_constructor_parameters.Goals as goal

pub loop-parameter-init : goal.loop-parameter-init
loop-parameter-init g c = sym (append-nil (places_of c.args.places.now.items))

pub loop-parameter-preserved : goal.loop-parameter-preserved
loop-parameter-preserved g c =
    told_behind (λ (ms : List tree.ConstructorParameter). flat_map (wrong_stand (g.M.Meanings.telling c.args.meanings.now) (entities_of c.args.entities.now)) (map (λ p. as_value p.type) ms)) (λ (m : tree.ConstructorParameter). wrong_stand (g.M.Meanings.telling c.args.meanings.now) (entities_of c.args.entities.now) (as_value m.type)) (joined_mapped_tells (wrong_stand (g.M.Meanings.telling c.args.meanings.now) (entities_of c.args.entities.now)) (λ (p : tree.ConstructorParameter). as_value p.type)) constructor_parameter_of c.args.parameters.now c.loop-parameter.parameter-index c.parameter-item.result _ _ _
    c.loop-parameter-test.true c.parameter-item.is c.loop-parameter.invariant c.in_ok-add_type.ensures
