-- A change of a map of faces is one of its rows.
use Rattle.std.proofs.Common.{ℕ, List, Option}
use Rattle.std.specs.HashMap.{HashMap, UpdatesBy}
use Rattle.std.specs.Str.{bytes_eq}
use Rattle.pair_map.specs.Faces.{ChangesFace}

pub changes_face : {X T : Type 0} (face : List ℕ) (m n : HashMap (List ℕ) X T) (value : Option X)
    → UpdatesBy bytes_eq (bytes_eq face) m n value → ChangesFace face value m.entries n.entries
changes_face face m n value up = up.0
