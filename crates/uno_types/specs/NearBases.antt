-- The names whose bases are still to be looked at.
use Rattle.std.specs.Prelude.{ℕ, List, [], ◌∷◌, Option, None, Some}
use Rattle.std.specs.Borrow.{Bor}

-- the names that are pending, in their order
abbrev pub names_in : List (Option (Bor (List ℕ))) → List (List ℕ)
names_in [] = []
names_in (None ∷ pending) = names_in pending
names_in (Some name ∷ pending) = name.now ∷ names_in pending
