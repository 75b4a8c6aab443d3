-- How deep defaults are nested.
use Rattle.std.specs.Prelude.{ℕ, ◌≤◌, max, min, List, [], ◌∷◌}
use Rattle.std.specs.List.{flat_map}
use Rattle.uno_model.specs.Defaults.{default_of_kind}
use Rattle.uno_model.specs.Entities.{Entity, Field}
use Rattle.uno_model.specs.Kinds.{Kind}
use Rattle.uno_model.specs.Kinds as kd
use Rattle.uno_model.specs.Values.{depth}

-- how deep the default of a type is nested
unfoldable pub depth_of : List Entity → Kind → ℕ
depth_of reg k = depth (default_of_kind reg k)

-- each type has a default that is nested at most 1,024 deep
abbrev pub HasShallowDefaults : List Entity → Type 0
HasShallowDefaults reg = (k : Kind) → depth_of reg k ≤ 1024

-- that of a struct or an exception
abbrev pub depth_named : List Entity → List ℕ → ℕ
depth_named reg name = depth_of reg (kd.struct name)

-- the greatest depth among the defaults of members, and of structs or exceptions of these names
unfoldable pub deepest : List Entity → List Field → ℕ
deepest reg [] = 0
deepest reg (f ∷ fs) = max (depth_of reg f.kind) (deepest reg fs)

unfoldable pub deepest_named : List Entity → List (List ℕ) → ℕ
deepest_named reg [] = 0
deepest_named reg (name ∷ names) = max (depth_named reg name) (deepest_named reg names)

-- the struct or the exception that a type is, and those of members
abbrev pub tuple_in : Kind → List (List ℕ)
tuple_in (kd.struct name) = name ∷ []
tuple_in (kd.exception name) = name ∷ []
tuple_in _ = []

abbrev pub tuples_in : List Field → List (List ℕ)
tuples_in fields = flat_map (λ f. tuple_in f.kind) fields

-- past 1,024 each depth is told as one
unfoldable pub told : ℕ → ℕ
told depth = min depth 1025
