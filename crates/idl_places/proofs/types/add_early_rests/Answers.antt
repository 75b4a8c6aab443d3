use Rattle.std.proofs.Common.{sym, subst, ◌∙◌, append-nil, not, List}
use Rattle.std.specs.List.{flat_map}
use Rattle.idl_rules_model.specs.TypePlaces.{at_unless, place_of_type}
use Rattle.idl_model.specs.Trees as tree
use Rattle.idl_places.proofs.Steps.{told_behind, joined_tells}
use Rattle.idl_places.proofs.TypeLemmas.{places_same}
use Rattle.idl_places.specs.Places.{AddsPlaces, places_of}
use Rattle.idl_trees.specs.Types.{type_of}
use Rattle.idl_trees.specs.Members.{constructor_parameter_of}
use Rattle.idl_places.proofs.types.add_early_rests.Goals as goal

pub loop-parameter-init : goal.loop-parameter-init
loop-parameter-init c = sym (append-nil (places_of c.args.places.now.items))

pub loop-parameter-preserved : goal.loop-parameter-preserved
loop-parameter-preserved c =
    told_behind (λ (ms : List tree.ConstructorParameter). flat_map (λ p. at_unless (place_of_type p.type) (not p.rest)) ms) (λ (m : tree.ConstructorParameter). at_unless (place_of_type m.type) (not m.rest)) (joined_tells (λ (p : tree.ConstructorParameter). at_unless (place_of_type p.type) (not p.rest))) constructor_parameter_of c.args.parameters.now c.loop-parameter.parameter-index c.parameter-item.result _ _ _
    c.loop-parameter-test.true c.parameter-item.is c.loop-parameter.invariant
    (subst (λ p. AddsPlaces c.loop-parameter.places.items (at_unless p (not c.parameter-item.result.rest)) c.add_unless.new.places.items)
    (c.place.ensures ∙ places_same (type_of c.parameter-item.result.kind)) c.in_ok-add_unless.ensures)
