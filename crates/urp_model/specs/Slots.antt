-- What the 256 slots of a cache mean to the end that reads, and which slot a name takes at the end that sends. Lists of announcements and of uses have the newest first.
use Rattle.std.specs.Prelude.{◌≡◌, ℕ, suc, ◌<◌, ◌==◌, nat_le, nat_lt, Bool, List, [], ◌∷◌, ◌++◌, length}
use Rattle.std.specs.Prelude.{get_or, set, replicate, Option, Some, None, bytes_eq, if◌then◌else◌}
use Rattle.std.specs.List.{list_any, list_all}

-- a name was announced at a slot
pub record Announcement : Type 0 where
  pub slot : ℕ
  pub name : List ℕ

-- what a slot means after these announcements: the name that was announced there last
unfoldable pub meant_at : ℕ → List Announcement → Option (List ℕ)
meant_at slot [] = None
meant_at slot (newest ∷ others) = if slot == newest.slot then Some newest.name else meant_at slot others

-- the table of a reader has for each of the 256 slots what it means
pub record Means (table : List (Option (List ℕ))) (announcements : List Announcement) : Type 0 where
  pub slots : length table ≡ 256
  pub each : (slot : ℕ) → slot < 256 → get_or table slot None ≡ meant_at slot announcements

-- the table before any announcement
unfoldable pub no_meanings : List (Option (List ℕ))
no_meanings = replicate 256 None

-- the table after one more announcement
unfoldable pub announced : ℕ → List ℕ → List (Option (List ℕ)) → List (Option (List ℕ))
announced slot name table = set table slot (Some name)

-- how many uses came after the newest use of a name
unfoldable pub age : List (List ℕ) → List ℕ → ℕ
age [] name = 0
age (newest ∷ uses) name = if bytes_eq name newest then 0 else suc (age uses name)

-- the place of the name whose newest use is the oldest
unfoldable pub stalest : List (List ℕ) → List (List ℕ) → ℕ
stalest uses [] = 0
stalest uses (name ∷ names) = if list_all (λ other. nat_le (age uses other) (age uses name)) names then 0 else suc (stalest uses names)

-- whether a name is one of these
unfoldable pub is_among : List ℕ → List (List ℕ) → Bool
is_among name names = list_any (bytes_eq name) names

-- the names in the slots 0, 1, 2 and so on after one more use: a name that is held stays where it is; another one takes the lowest slot
-- that was never used, and where all 256 were, that of the name whose newest use is the oldest
unfoldable pub with_use : List (List ℕ) → List ℕ → List (List ℕ) → List (List ℕ)
with_use uses name names =
    if is_among name names then names else (if nat_lt (length names) 256 then names ++ name ∷ [] else set names (stalest uses names) name)

-- the names in the slots 0, 1, 2 and so on after these uses
unfoldable pub holding : List (List ℕ) → List (List ℕ)
holding [] = []
holding (name ∷ uses) = with_use uses name (holding uses)

-- the first place of a name
unfoldable pub place : List ℕ → List (List ℕ) → ℕ
place name [] = 0
place name (other ∷ names) = if bytes_eq name other then 0 else suc (place name names)

-- whether a name is held after these uses
unfoldable pub is_held : List (List ℕ) → List ℕ → Bool
is_held uses name = is_among name (holding uses)

-- the slot that a name takes when it is used after these uses
unfoldable pub slot_taken : List (List ℕ) → List ℕ → ℕ
slot_taken uses name = place name (holding (name ∷ uses))
