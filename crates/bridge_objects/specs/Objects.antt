-- The objects that the rows of a store stand for.
use Rattle.std.specs.Prelude.{ℕ, List, map}
use Rattle.uno_model.specs.Values.{Plain}
use Rattle.table_model.specs.Objects as model
use Rattle.bridge_model.specs.Sides.{Object}

module _ {V : Type 0} (plain_of : V → Plain) where
  -- a row's object, with its fields as plain values
  abbrev pub object_of : ℕ × model.Object V → Object
  object_of row = record { number = row.0; behaviour = row.1.behaviour; fields = map plain_of row.1.fields }

  -- the objects of some rows
  abbrev pub objects_of : List (ℕ × model.Object V) → List Object
  objects_of rows = map object_of rows
