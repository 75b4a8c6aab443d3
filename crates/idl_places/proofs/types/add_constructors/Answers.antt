use Rattle.std.proofs.Common.{sym, subst, append-nil, map, List}
use Rattle.std.specs.List.{flat_map}
use Rattle.idl_places.specs.Standings.{wrong_stand}
use Rattle.uno_entities.specs.Entities.{entities_of}
use Rattle.idl_rules_model.specs.TypePlaces.{as_value}
use Rattle.idl_model.specs.Trees as tree
use Rattle.idl_places.proofs.Steps.{told_behind, twice_joined_tells}
use Rattle.idl_places.specs.Places.{AddsPlaces, places_of}
use Rattle.idl_trees.specs.Members.{constructor_of, constructor_parameter_of}
use Rattle.idl_places.proofs.types.add_constructors.Goals as goal

pub loop-constructor-init : goal.loop-constructor-init
loop-constructor-init g c = sym (append-nil (places_of c.args.places.now.items))

pub loop-constructor-preserved : goal.loop-constructor-preserved
loop-constructor-preserved g c =
    told_behind (λ (ms : List tree.Constructor). flat_map (wrong_stand (g.M.Meanings.telling c.args.meanings.now) (entities_of c.args.entities.now)) (flat_map (λ k. map (λ p. as_value p.type) k.parameters) ms)) (λ (m : tree.Constructor). flat_map (wrong_stand (g.M.Meanings.telling c.args.meanings.now) (entities_of c.args.entities.now)) (map (λ p. as_value p.type) m.parameters)) (twice_joined_tells (wrong_stand (g.M.Meanings.telling c.args.meanings.now) (entities_of c.args.entities.now)) (λ (k : tree.Constructor). map (λ p. as_value p.type) k.parameters)) constructor_of c.args.constructors.now c.loop-constructor.constructor-index c.constructor-item.result _ _ _
    c.loop-constructor-test.true c.constructor-item.is c.loop-constructor.invariant
    (subst (λ ps. AddsPlaces c.loop-constructor.places.items (flat_map (wrong_stand (g.M.Meanings.telling c.args.meanings.now) (entities_of c.args.entities.now)) (map (λ p. as_value p.type) (map constructor_parameter_of ps))) c.add_constructor_parameters.new.places.items)
    c.as_slice-parameters.ensures.value c.in_ok-add_constructor_parameters.ensures)
