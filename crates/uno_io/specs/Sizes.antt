-- Greatest lengths of pieces, used round and round, the next first; none at all sets no length.
use Rattle.std.specs.Prelude.{ℕ, List, [], ◌∷◌, ◌++◌, min}

-- the most that the next piece may have of what there is room for
abbrev pub limit : List ℕ → ℕ → ℕ
limit [] room = room
limit (size ∷ later) room = min size room

-- the sizes after a piece: the one that was used comes last
abbrev pub turned : List ℕ → List ℕ
turned [] = []
turned (size ∷ later) = later ++ size ∷ []
