use Rattle.idl_places.proofs.TypeLemmas.{none_told, rest_told}
use Rattle.idl_places.specs.Places.{places_of}
use Rattle.idl_trees.specs.Members.{constructor_parameter_of}
use Rattle.idl_places.proofs.types.add_rest.Goals as goal

pub returns-in_ok-add_early_rests-in-Some : goal.returns-in_ok-add_early_rests-in-Some
returns-in_ok-add_early_rests-in-Some g c =
    let t = g.M.Meanings.telling c.args.meanings.now in
    rest_told c.add_last_rest.result constructor_parameter_of t.all t.declared.modules c.args.parameters.now c.in-Some.before.now c.in-Some.last.now (places_of c.args.places.now.items)
    (places_of c.add_early_rests.new.places.items) (places_of c.add_last_rest.new.places.items) c.in-Some.ensures.cases.0 c.in_ok-add_early_rests-in-Some.ensures c.add_last_rest.ensures

pub returns-in-None : goal.returns-in-None
returns-in-None g c =
    let t = g.M.Meanings.telling c.args.meanings.now in
    none_told constructor_parameter_of t.all t.declared.modules c.args.parameters.now (places_of c.args.places.now.items) c.in-None.ensures.cases
