use Rattle.std.proofs.Common.{ap, subst, sym}
use Rattle.std.specs.Prelude.{OnOk}
use Rattle.idl_places.proofs.ValueLemmas.{items_long, items_wrong}
use Rattle.idl_places.specs.Places.{AddsPlaces}
use Rattle.idl_trees.specs.Trees.{declaration_of}
use Rattle.idl_places.proofs.values.add_wrong_items_in.Goals as goal

pub add_items-requires : goal.add_items-requires
add_items-requires g c = record {
  long = items_long (g.M.Meanings.telling c.args.meanings.now) (declaration_of c.args.body.now) c.in-Enum.items.items c.as_slice.result.now c.args.values.now c.as_slice.ensures.value (ap declaration_of (sym c.in-Enum.is))
      c.requires.body c.requires.values;
}

pub returns-in-Enum : goal.returns-in-Enum
returns-in-Enum g c =
    subst (λ ps. OnOk c.add_items.result (AddsPlaces c.args.places.now.items ps c.add_items.new.places.items))
    (items_wrong (g.M.Meanings.telling c.args.meanings.now) (declaration_of c.args.body.now) c.in-Enum.items.items c.as_slice.result.now c.args.values.now c.as_slice.ensures.value (ap declaration_of (sym c.in-Enum.is))
    c.requires.body c.requires.values)
    c.add_items.ensures
