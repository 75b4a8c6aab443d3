-- What a sender keeps of its uses: the names that it holds, each with its slot, the one that was used last first.
use Rattle.std.specs.Prelude.{◌≡◌, ℕ, ◌<◌, ◌≤◌, nat_lt, Bool, List, [], ◌∷◌, length, get_or, take, is_some, unwrap_or, bytes_eq, if◌then◌else◌}
use Rattle.std.specs.List.{AllByRecursion}
use Rattle.std.specs.Map.{lookup, remove_entry}
use Rattle.urp_model.specs.declared.known.Known.{Known}
use Rattle.urp_model.specs.declared.known.Known.TheVariants.{Old, New}

-- whether a name is held
unfoldable pub holds : List ℕ → List (List ℕ × ℕ) → Bool
holds name held = is_some (lookup (bytes_eq name) held)

-- the slot of a name that is not held: one more, and where all 256 are in use that of the last
unfoldable pub next_slot : List (List ℕ × ℕ) → ℕ
next_slot held = if nat_lt (length held) 256 then length held else (get_or held 255 ([], 0)).1

-- the slot of a name
unfoldable pub slot_for : List ℕ → List (List ℕ × ℕ) → ℕ
slot_for name held = unwrap_or (lookup (bytes_eq name) held) (next_slot held)

-- what is held after one more use
unfoldable pub used : List ℕ → List (List ℕ × ℕ) → List (List ℕ × ℕ)
used name held = (name, slot_for name held) ∷ take 255 (remove_entry (bytes_eq name) held)

-- what is held after these uses, of which the newest is the first
unfoldable pub held_after : List (List ℕ) → List (List ℕ × ℕ)
held_after [] = []
held_after (name ∷ uses) = used name (held_after uses)

-- a sender keeps this of these uses
abbrev pub StandsFor : List (List ℕ × ℕ) → List (List ℕ) → Type 0
StandsFor held uses = held ≡ held_after uses

-- what a sender says of a name that was held, and of one that was not
abbrev pub known_if : Bool → Known
known_if was_held = if was_held then Old else New

-- what can be held: at most 256 names, each in one of the 256 slots
pub record CanBeHeld (held : List (List ℕ × ℕ)) : Type 0 where
  pub few : length held ≤ 256
  pub below : AllByRecursion (λ e. e.1 < 256) held
