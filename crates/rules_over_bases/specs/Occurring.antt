-- How often a name occurs in a list.
use Rattle.std.specs.Prelude.{ℕ, ◌+◌, Bool, true, false, List, [], ◌∷◌}
use Rattle.std.specs.Str.{bytes_eq}

abbrev pub one_if : Bool → ℕ
one_if true = 1
one_if false = 0

unfoldable pub occurs : List ℕ → List (List ℕ) → ℕ
occurs name [] = 0
occurs name (n ∷ ns) = one_if (bytes_eq name n) + occurs name ns
