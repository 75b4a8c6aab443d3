-- Marks at the places of a registry, and what they say while the bases of one entity are looked for.
use Rattle.std.specs.Prelude.{◌≡◌, ℕ, Bool, true, ◌⊎◌, List, length, Some, Contains, slice_get, ◌↔◌}
use Rattle.uno_model.specs.Entities.{Entity}
use Rattle.uno_model.specs.Registry.{stands_on, IsBaseOf}

-- a place is marked
abbrev pub Marked : List Bool → ℕ → Type 0
Marked marks i = slice_get marks i ≡ Some true

-- the marks stand at the entities on which a name stands, itself among them
pub record MarksBases (reg : List Entity) (name : List ℕ) (marks : List Bool) : Type 0 where
  pub one_each : length marks ≡ length reg
  pub marked : (i : ℕ) (e : Entity) → slice_get reg i ≡ Some e → Marked marks i ↔ IsBaseOf reg e.name name

-- each entity with one of these names is marked
abbrev pub AllMarked : List Entity → List Bool → List (List ℕ) → Type 0
AllMarked reg marks names = (i : ℕ) (e : Entity) → slice_get reg i ≡ Some e → Contains names e.name → Marked marks i

-- where a place is marked and not still pending, the bases of its entity are marked
abbrev pub Closed : List Entity → List Bool → List ℕ → Type 0
Closed reg marks pending = (i : ℕ) (e : Entity) → slice_get reg i ≡ Some e → Marked marks i → Contains pending i ⊎ AllMarked reg marks (stands_on reg e.name)

-- what is marked is a base of the name
abbrev pub OnlyBases : List Entity → List ℕ → List Bool → Type 0
OnlyBases reg name marks = (i : ℕ) (e : Entity) → slice_get reg i ≡ Some e → Marked marks i → IsBaseOf reg e.name name
