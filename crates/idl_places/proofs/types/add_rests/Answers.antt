use Rattle.std.proofs.Common.{sym, subst, append-nil, map, List}
use Rattle.std.specs.List.{flat_map}
use Rattle.idl_places.specs.Standings.{wrong_rest_of}
use Rattle.idl_model.specs.Trees as tree
use Rattle.idl_places.proofs.Steps.{told_behind, joined_tells}
use Rattle.idl_places.specs.Places.{AddsPlaces, places_of}
use Rattle.idl_trees.specs.Members.{constructor_of, constructor_parameter_of}
use Rattle.idl_places.proofs.types.add_rests.Goals as goal

pub loop-constructor-init : goal.loop-constructor-init
loop-constructor-init g c = sym (append-nil (places_of c.args.places.now.items))

pub loop-constructor-preserved : goal.loop-constructor-preserved
loop-constructor-preserved g c =
    told_behind (λ (ms : List tree.Constructor). flat_map (λ k. wrong_rest_of (g.M.Meanings.telling c.args.meanings.now) k.parameters) ms) (λ (m : tree.Constructor). wrong_rest_of (g.M.Meanings.telling c.args.meanings.now) m.parameters) (joined_tells (λ (k : tree.Constructor). wrong_rest_of (g.M.Meanings.telling c.args.meanings.now) k.parameters)) constructor_of c.args.constructors.now c.loop-constructor.constructor-index c.constructor-item.result _ _ _
    c.loop-constructor-test.true c.constructor-item.is c.loop-constructor.invariant
    (subst (λ ps. AddsPlaces c.loop-constructor.places.items (wrong_rest_of (g.M.Meanings.telling c.args.meanings.now) (map constructor_parameter_of ps)) c.add_rest.new.places.items) c.as_slice.ensures.value c.in_ok-add_rest.ensures)
