-- A term that holds no other and is no word of a literal, by its first byte.
use Rattle.std.specs.Prelude.{ℕ, false, ◌==◌, List, [], ◌∷◌, Option, None, if◌then◌else◌}
use Rattle.literal_model.specs.Shapes.{number_at, string_at}
use Rattle.plan_model.specs.Lines.{Term}
use Rattle.plan_reading_model.specs.Parts.{on_some, type_at, word_at}
use Rattle.plan_reading_model.specs.TermReading.{leaf_of, text_of, some_plan_word, type_value}

unfoldable pub leaf_at : List ℕ → Option (Term × List ℕ)
leaf_at [] = None
leaf_at (c ∷ cs) =
    if c == 34 then text_of (string_at false cs)
    else (if c == 60 then on_some (type_at cs) type_value
    else (if c == 36 then some_plan_word (word_at (c ∷ cs))
    else leaf_of (number_at (c ∷ cs))))
