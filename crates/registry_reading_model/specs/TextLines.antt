-- A text as its lines.
use Rattle.std.specs.Prelude.{ℕ, Bool, ◌==◌, nat_lt, List, [], ◌∷◌, if◌then◌else◌}
use Rattle.std.specs.List.{list_all}

-- one byte more in front of the first line
abbrev pub in_first : ℕ → List (List ℕ) → List (List ℕ)
in_first c [] = []
in_first c (line ∷ lines) = (c ∷ line) ∷ lines

-- the lines that end with a line feed, without it; what stands behind the last of them is no line
unfoldable pub lines_in : List ℕ → List (List ℕ)
lines_in [] = []
lines_in (c ∷ cs) = if c == 10 then [] ∷ lines_in cs else in_first c (lines_in cs)

-- all bytes are ASCII
unfoldable pub is_plain : List ℕ → Bool
is_plain line = list_all (λ c. nat_lt c 128) line

abbrev pub all_plain : List (List ℕ) → Bool
all_plain lines = list_all is_plain lines
