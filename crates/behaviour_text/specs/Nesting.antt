-- How deep terms are nested, and how many parentheses stand open in them, as they are counted.
use Rattle.std.specs.Prelude.{ℕ, suc, min, ◌-◌, ◌^◌, List, map, reverse}
use Rattle.term_pieces.specs.Pieces.{Piece}
use Rattle.term_pieces.specs.Pieces as piece
use Rattle.behaviour_text.specs.declared.limits.nesting.Levels.{Levels}

-- more than a u32 holds are told as so many
unfoldable pub counted : ℕ → ℕ
counted n = min n (2 ^ 32 - 1)

-- those of terms, the last one first
abbrev pub depths_of : List Levels → List ℕ
depths_of ls = map (λ l. l.depth) (reverse ls)

abbrev pub parentheses_of : List Levels → List ℕ
parentheses_of ls = map (λ l. l.parentheses) (reverse ls)

-- that of a term, where the largest of the terms in it is known
abbrev pub depth_round : Piece → ℕ → ℕ
depth_round piece.void_any most = 2
depth_round (piece.typed k) most = counted (suc most)
depth_round (piece.elements n) most = counted (suc most)
depth_round (piece.members n) most = counted (suc most)
depth_round p most = 1

abbrev pub parentheses_round : Piece → ℕ → ℕ
parentheses_round (piece.operation op) most = counted (suc most)
parentheses_round p most = most
