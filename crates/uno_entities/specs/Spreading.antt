-- Marks that spread from an entity to its bases, and the places from which they are still to spread.
use Rattle.std.specs.Prelude.{◌≡◌, ℕ, ◌+◌, ◌*◌, ◌<◌, ◌≤◌, Bool, true, false, ◌⊎◌, List, [], ◌∷◌, ◌++◌, length, Some, Contains, slice_get, slice_set}
use Rattle.uno_model.specs.Entities.{Entity}
use Rattle.uno_entities.specs.Marks.{Marked, AllMarked, Closed, OnlyBases}

-- how many places are not marked
unfoldable pub unmarked : List Bool → ℕ
unmarked [] = 0
unmarked (true ∷ marks) = unmarked marks
unmarked (false ∷ marks) = unmarked marks + 1

-- the place is marked, and pending if it was not marked before
abbrev pub MarksPlace : ℕ → List Bool → List ℕ → List Bool → List ℕ → Type 0
MarksPlace place marks pending marks_after pending_after =
    (Marked marks place × (marks_after ≡ marks) × (pending_after ≡ pending))
    ⊎ ((slice_get marks place ≡ Some false) × (marks_after ≡ slice_set marks place true) × (pending_after ≡ pending ++ place ∷ []))

-- the names were marked, what is newly marked is pending, and nothing else changed
pub record Spreads (reg : List Entity) (names : List (List ℕ)) (marks : List Bool) (pending : List ℕ) (marks_after : List Bool) (pending_after : List ℕ) : Type 0 where
  pub long : length marks_after ≡ length marks
  pub kept : (i : ℕ) → Marked marks i → Marked marks_after i
  pub held : (i : ℕ) → Contains pending i → Contains pending_after i
  pub added : (i : ℕ) → Marked marks_after i → Marked marks i ⊎ (Contains pending_after i × ((e : Entity) → slice_get reg i ≡ Some e → Contains names e.name))
  pub places : (i : ℕ) → Contains pending_after i → Contains pending i ⊎ ((i < length reg) × Marked marks_after i)
  pub all : AllMarked reg marks_after names
  pub work : 2 * unmarked marks_after + length pending_after ≤ 2 * unmarked marks + length pending

-- what is marked is a base of the name, what is pending is a place, and all else that is marked has its bases marked
pub record Searched (reg : List Entity) (name : List ℕ) (marks : List Bool) (pending : List ℕ) : Type 0 where
  pub long : length marks ≡ length reg
  pub begun : (i : ℕ) (e : Entity) → slice_get reg i ≡ Some e → e.name ≡ name → Marked marks i
  pub only : OnlyBases reg name marks
  pub closed : Closed reg marks pending
  pub waiting : (i : ℕ) → Contains pending i → (i < length reg) × Marked marks i
