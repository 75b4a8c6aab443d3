use Rattle.std.proofs.Common.{map, subst, sym, append-nil}
use Rattle.std.specs.List.{flat_map}
use Rattle.idl_meaning_model.specs.Uses.{floats}
use Rattle.idl_trees.specs.Members.{constructor_of, constructor_parameter_of}
use Rattle.idl_names.specs.Floats.{AddsPlaces, places_of}
use Rattle.idl_names.proofs.FloatLemmas.{each_types}
use Rattle.idl_names.proofs.floats.add_constructors.Goals as goal

pub loop-constructor-init : goal.loop-constructor-init
loop-constructor-init c = sym (append-nil (places_of c.args.places.now.items))

pub loop-constructor-preserved : goal.loop-constructor-preserved
loop-constructor-preserved c =
    each_types constructor_of (λ c. map (λ p. p.type) c.parameters) c.args.constructors.now c.loop-constructor.constructor-index c.constructor-item.result _ _ _ c.loop-constructor-test.true c.constructor-item.is c.loop-constructor.invariant
    (subst (λ ps. AddsPlaces c.loop-constructor.places.items (flat_map floats (map (λ p. p.type) (map constructor_parameter_of ps))) c.add_constructor_parameters.new.places.items)
    c.as_slice.ensures.value c.in_ok-add_constructor_parameters.ensures)
