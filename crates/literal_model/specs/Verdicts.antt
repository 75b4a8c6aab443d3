-- The verdict on a text that is read at a type: its value, or the place at which it goes wrong.
use Rattle.std.specs.Prelude.{ℕ, ◌-◌, List, [], ◌∷◌, length, Result, Ok, Err}
use Rattle.uno_model.specs.Entities.{Entity}
use Rattle.uno_model.specs.Kinds.{Kind}
use Rattle.literal_model.specs.Readings.{Fault, deep, misfit, value_within}
use Rattle.literal_model.specs.Shapes.{Placed, judge}
use Rattle.uno_model.specs.Values.{Plain}

-- a value that is nested deeper than is read, a byte at which no literal's shape goes on, or the front of a value that is none of its type
pub data Wrong : Type 0 where
  too_deep : Wrong
  bad : ℕ → Wrong
  wrong_type : ℕ → Wrong

-- values are read down to this depth
abbrev pub deepest : ℕ
deepest = 1024

-- nothing stands behind the value
abbrev pub verdict_at_end : ℕ → Plain × List Placed → Result Plain Wrong
verdict_at_end size (v, []) = Ok v
verdict_at_end size (v, p ∷ ps) = Err (wrong_type (size - p.left))

abbrev pub of_reading : ℕ → Result (Plain × List Placed) Fault → Result Plain Wrong
of_reading size (Ok x) = verdict_at_end size x
of_reading size (Err deep) = Err too_deep
of_reading size (Err (misfit left)) = Err (wrong_type (size - left))

-- the tokens of a text of that size
abbrev pub typed_verdict : List Entity → ℕ → Kind → List Placed → Result Plain Wrong
typed_verdict reg size k ps = of_reading size (value_within deepest reg k ps)

abbrev pub of_judgement : List Entity → ℕ → Kind → Result (List Placed) ℕ → Result Plain Wrong
of_judgement reg size k (Ok ps) = typed_verdict reg size k ps
of_judgement reg size k (Err left) = Err (bad (size - left))

-- the shape is judged first, over the whole text, without asking the type
abbrev pub verdict : List Entity → Kind → List ℕ → Result Plain Wrong
verdict reg k text = of_judgement reg (length text) k (judge reg text)
