use Rattle.std.proofs.Common.{ap, subst, sym}
use Rattle.std.specs.Prelude.{OnOk}
use Rattle.idl_places.proofs.ValueLemmas.{constants_wrong}
use Rattle.idl_places.specs.Places.{AddsPlaces}
use Rattle.idl_trees.specs.Trees.{declaration_of}
use Rattle.idl_places.proofs.values.add_wrong_constants_in.Goals as goal

pub returns-in-Constants : goal.returns-in-Constants
returns-in-Constants g c =
    subst (λ ps. OnOk c.add_constants.result (AddsPlaces c.args.places.now.items ps c.add_constants.new.places.items))
    (constants_wrong (g.M.Meanings.telling c.args.meanings.now) (declaration_of c.args.body.now) c.in-Constants.constants.items c.as_slice.result.now c.args.values.now c.as_slice.ensures.value (ap declaration_of (sym c.in-Constants.is))
    c.requires.body c.requires.values)
    c.add_constants.ensures
