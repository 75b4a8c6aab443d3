use Rattle.std.proofs.Common.{◌≡◌, ◌++◌, map, take}
use Rattle.std.specs.List.{flat_map}
use Rattle.idl_meaning_model.specs.Uses.{floats}
use Rattle.idl_trees.specs.Members.{fields_of}
use Rattle.idl_names.specs.Floats.{places_of}
use Rattle.idl_names.proofs.floats.add_fields.Given as goal

abbrev pub invariant-loop-field : goal.invariant-loop-field
invariant-loop-field l = places_of l.places.items ≡ places_of l.fn.places.items ++ flat_map floats (map (λ m. m.type) (map fields_of (take l.field-index l.fields)))
