-- The rows that a lone face, or a map of faces, stands for.
use Rattle.std.specs.Prelude.{[], ◌∷◌}
use Rattle.pair_map.specs.Faces.{Rows}
use Rattle.pair_map.specs.declared.faces.Layout.{Layout}
use Rattle.pair_map.specs.declared.faces.Layout.TheVariants.{Empty, Lone, Several}

abbrev pub rows_of : {X : Type 0} → Layout X → Rows X
rows_of Empty = []
rows_of (Lone face value) = (face, value) ∷ []
rows_of (Several faces) = faces.value.entries
