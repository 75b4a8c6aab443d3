-- The rows of one OID: each of its faces with a value.
use Rattle.std.specs.Prelude.{◌≡◌, ℕ, Bool, false, List, Option, None, Some, cond}
use Rattle.std.specs.List.{list_any}
use Rattle.std.specs.Map.{lookup}
use Rattle.std.specs.Str.{bytes_eq}

-- a value for each of some faces
abbrev pub Rows : Type 0 → Type 0
Rows X = List (List ℕ × X)

module _ {X : Type 0} where
  -- the value of a face
  abbrev pub value_of : List ℕ → Rows X → Option X
  value_of face rows = lookup (bytes_eq face) rows

  -- whether one of some faces, if they are there, passes a test
  abbrev pub any_face : (List ℕ → Bool) → Option (Rows X) → Bool
  any_face test None = false
  any_face test (Some rows) = list_any (λ row. test row.0) rows

  -- afterwards a face has this value or none, and each other what it had
  abbrev pub ChangesFace : List ℕ → Option X → Rows X → Rows X → Type 0
  ChangesFace face value before after =
      (other : List ℕ) → value_of other after ≡ cond (bytes_eq face other) value (value_of other before)
