-- Places that a search lists beside its marks.
use Rattle.std.specs.Prelude.{◌≡◌, ℕ, ◌<◌, Bool, ◌⊎◌, List, length, Contains}
use Rattle.uno_entities.specs.Marks.{Marked}

-- they are below a number
abbrev pub AreWithin : List ℕ → ℕ → Type 0
AreWithin places count = (i : ℕ) → Contains places i → i < count

-- what is marked is listed, and what is listed is a place
pub record Covers (marks : List Bool) (places : List ℕ) : Type 0 where
  pub listed : (i : ℕ) → Marked marks i → Contains places i
  pub within : AreWithin places (length marks)

-- what is marked is listed, and the other way round
pub record Lists (marks : List Bool) (places : List ℕ) : Type 0 where
  pub listed : (i : ℕ) → Marked marks i → Contains places i
  pub marked : (i : ℕ) → Contains places i → Marked marks i

-- nothing but these places is marked besides
pub record MarksMore (places : List ℕ) (known known_after : List Bool) : Type 0 where
  pub long : length known_after ≡ length known
  pub only : (i : ℕ) → Marked known_after i → Contains places i ⊎ Marked known i
