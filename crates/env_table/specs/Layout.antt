-- The rows that a lone holder, or a map of holders, stands for.
use Rattle.std.specs.Prelude.{ℕ, List, [], ◌∷◌}
use Rattle.table_model.specs.declared.holder.Holder.{Holder}
use Rattle.env_table.specs.declared.times.Layout.{Layout}
use Rattle.env_table.specs.declared.times.Layout.TheVariants.{Empty, Lone, Several}

abbrev pub rows_of : Layout → List (Holder × ℕ)
rows_of Empty = []
rows_of (Lone holder times) = (holder, times) ∷ []
rows_of (Several times) = times.value.entries
