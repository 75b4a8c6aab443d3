-- Words by their first letter.
use Rattle.std.specs.Prelude.{ℕ, Bool, false, ◌==◌, List, [], ◌∷◌, filter}

abbrev pub begins_with : ℕ → List ℕ → Bool
begins_with letter [] = false
begins_with letter (c ∷ cs) = letter == c

-- those that begin with a letter
unfoldable pub words_with : ℕ → List (List ℕ) → List (List ℕ)
words_with letter words = filter (begins_with letter) words
