-- Where the constants and items of each declaration begin among those of all.
use Rattle.std.specs.Prelude.{ℕ, zero, suc, ◌+◌, List, [], ◌∷◌, ◌++◌, length, take}
use Rattle.idl_model.specs.Trees.{Declaration, constants, enum}

abbrev pub value_count : Declaration → ℕ
value_count (constants cs) = length cs
value_count (enum items) = length items
value_count _ = 0

unfoldable pub count_in : List Declaration → ℕ
count_in [] = 0
count_in (d ∷ ds) = value_count d + count_in ds

-- for the first so many declarations, how many constants and items stand before theirs
unfoldable pub starts_of : List Declaration → ℕ → List ℕ
starts_of ds zero = []
starts_of ds (suc n) = starts_of ds n ++ count_in (take n ds) ∷ []
