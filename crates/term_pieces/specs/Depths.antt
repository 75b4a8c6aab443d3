-- How deep terms are nested, and how many parentheses stand open in them, piece by piece: a number for each term, the last one first.
use Rattle.std.specs.Prelude.{ℕ, zero, suc, max, List, [], ◌∷◌, drop}
use Rattle.term_pieces.specs.Pieces.{Piece, leaf, type_named, void_any, typed, elements, members, word, operation}

-- the largest of the first numbers, of which there are so many, and of one more
unfoldable pub largest : ℕ → List ℕ → ℕ → ℕ
largest zero ns m = m
largest (suc k) [] m = m
largest (suc k) (n ∷ ns) m = largest k ns (max n m)

unfoldable pub depths_behind : List ℕ → Piece → List ℕ
depths_behind ds void_any = 2 ∷ ds
depths_behind (d ∷ ds) (typed k) = suc d ∷ ds
depths_behind ds (elements n) = suc (largest n ds 0) ∷ drop n ds
depths_behind ds (members n) = suc (largest n ds 0) ∷ drop n ds
depths_behind (d ∷ e ∷ ds) (operation op) = 1 ∷ ds
depths_behind ds (leaf t) = 1 ∷ ds
depths_behind ds (type_named k) = 1 ∷ ds
depths_behind ds (word w) = 1 ∷ ds
depths_behind ds p = ds

unfoldable pub parentheses_behind : List ℕ → Piece → List ℕ
parentheses_behind ns (typed k) = ns
parentheses_behind ns (elements n) = largest n ns 0 ∷ drop n ns
parentheses_behind ns (members n) = largest n ns 0 ∷ drop n ns
parentheses_behind (n ∷ m ∷ ns) (operation op) = suc (max m n) ∷ ns
parentheses_behind ns (leaf t) = 0 ∷ ns
parentheses_behind ns (type_named k) = 0 ∷ ns
parentheses_behind ns void_any = 0 ∷ ns
parentheses_behind ns (word w) = 0 ∷ ns
parentheses_behind ns p = ns
