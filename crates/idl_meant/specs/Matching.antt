-- Paths that are the same.
use Rattle.std.specs.Cmp.Lexicographic.{pointwise}
use Rattle.std.specs.Prelude.{Bool, true, false, not, ◌==◌, ◌&&◌}
use Rattle.std.specs.Str.{bytes_eq}
use Rattle.idl_model.specs.Trees.{Path}

abbrev pub same_truth : Bool → Bool → Bool
same_truth true b = b
same_truth false b = not b

-- the same identifiers, at one place
abbrev pub same_path : Path → Path → Bool
same_path p q = (((p.place.file == q.place.file) && (p.place.byte == q.place.byte)) && same_truth p.absolute q.absolute) && pointwise bytes_eq p.parts q.parts
