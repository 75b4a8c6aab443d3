-- Places and names as they stand in plain trees.
use Rattle.idl_model.specs.Places as plain
use Rattle.idl_model.specs.Trees as tree
use Rattle.idl_trees.specs.declared.name.Id.{Id}
use Rattle.idl_trees.specs.declared.name.Path.{Path}
use Rattle.idl_trees.specs.declared.place.Place.{Place}

abbrev pub place_of : Place → plain.Place
place_of p = record { file = p.file; byte = p.byte }

abbrev pub id_of : Id → tree.Id
id_of i = record { name = i.name; place = place_of i.place }

abbrev pub path_of : Path → tree.Path
path_of p = record { place = place_of p.place; absolute = p.absolute; parts = p.parts.items }
