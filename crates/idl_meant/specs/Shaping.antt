-- Shapes of types.
use Rattle.std.specs.Prelude.{ℕ, suc, ◌+◌, min}
use Rattle.idl_meant.specs.declared.shapes.Leaf.{Leaf}
use Rattle.idl_meant.specs.declared.shapes.Leaf.TheVariants as leaf
use Rattle.idl_meant.specs.declared.shapes.Shape.{Shape}

-- with one sequence more
abbrev pub sequence_of : Shape → Shape
sequence_of s = record { sequences = min (s.sequences + 1) 65; leaf = s.leaf }

-- there are so many paths at least, where it has the number of one
abbrev pub bound_of : Leaf → ℕ
bound_of (leaf.Simple s) = 0
bound_of (leaf.End n) = suc n
bound_of (leaf.Endless n) = suc n
