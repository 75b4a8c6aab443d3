-- Paths of identifiers by number, the outermost identifier first. That without an identifier has the number 0.
use Rattle.std.specs.Prelude.{◌≡◌, ◌⊎◌, ℕ, suc, ◌+◌, ◌-◌, ◌*◌, ◌/◌, ◌%◌, ◌<◌, ◌≤◌, ◌==◌, length, Bool, ◌&&◌, List, [], ◌∷◌, ◌++◌, map, get_or, slice_get, Option, Some}
use Rattle.std.specs.Borrow.{Bor}
use Rattle.std.specs.BTreeMap.{BTreeMap, get_by}
use Rattle.std.specs.Cmp.Lexicographic.{slice_cmp}
use Rattle.std.specs.Ordering.{nat_cmp, ordering_then}
use Rattle.std.specs.Str.{bytes_eq}

-- the identifiers of a path
abbrev pub Parts : Type 0
Parts = List (List ℕ)

-- a path, as the number of the one round it and its last identifier
abbrev pub Inside : Type 0
Inside = ℕ × List ℕ

-- the identifiers of it, where others have these
abbrev pub within : List Parts → Inside → Parts
within paths m = get_or paths m.0 [] ++ m.1 ∷ []

-- paths, and those that are told behind them
unfoldable pub paths_behind : List Parts → List Inside → List Parts
paths_behind paths [] = paths
paths_behind paths (m ∷ ms) = paths_behind (paths ++ within paths m ∷ []) ms

unfoldable pub paths_of : List Inside → List Parts
paths_of ms = paths_behind ([] ∷ []) ms

-- ---- as code has them

abbrev pub inside_of : List (ℕ × Bor (List ℕ)) → List Inside
inside_of ms = map (λ m. (m.0, m.1.now)) ms

-- the number that a map has for a path
abbrev pub number_at : BTreeMap (ℕ × Bor (List ℕ)) ℕ → Inside → Option ℕ
number_at numbers m = get_by (λ key. ordering_then (nat_cmp m.0 key.0) (slice_cmp nat_cmp m.1 key.1.now)) numbers

-- each path stands behind one that was opened before it, and the map has the number of each, and no other
pub record IsNumbered (ms : List Inside) (numbers : BTreeMap (ℕ × Bor (List ℕ)) ℕ) : Type 0 where
  pub rise : (n : ℕ) (m : Inside) → slice_get ms n ≡ Some m → m.0 ≤ n
  pub known : (n : ℕ) (m : Inside) → slice_get ms n ≡ Some m → number_at numbers m ≡ Some (suc n)
  pub each : (m : Inside) (k : ℕ) → number_at numbers m ≡ Some k → (n : ℕ) × (k ≡ suc n) × (slice_get ms n ≡ Some m)

-- the slot of a path: the number of the one round it, and some bytes of its last identifier, mixed
unfoldable pub slot_of : Inside → ℕ
slot_of m = (m.0 * 1021 + get_or m.1 0 0 * 37 + get_or m.1 (length m.1 / 2) 0 * 131 + get_or m.1 (length m.1 - 2) 0 * 61 + get_or m.1 (length m.1 - 1) 0 * 7) % 32768

-- where a slot has the number 0, no path is of it
abbrev pub AreMarked : List Inside → List ℕ → Type 0
AreMarked ms slots = (n : ℕ) (m : Inside) → slice_get ms n ≡ Some m → ¬ (get_or slots (slot_of m) 1 ≡ 0)

pub record AreFound (ms : List Inside) (numbers : BTreeMap (ℕ × Bor (List ℕ)) ℕ) (slots : List ℕ) : Type 0 where
  pub numbered : IsNumbered ms numbers
  pub marked : AreMarked ms slots

-- ---- what calls change

-- whether two paths are told by the same number and identifier
abbrev pub is_same : Inside → Inside → Bool
is_same m o = (m.0 == o.0) && bytes_eq m.1 o.1

-- a path is opened: it is there, or stands behind all others
abbrev pub Opens : List Parts → Parts → List Parts → Type 0
Opens old path new = (new ≡ old) ⊎ (new ≡ old ++ path ∷ [])

-- a slot is marked, and no other loses its mark
abbrev pub MarksSlot : List ℕ → ℕ → List ℕ → Type 0
MarksSlot old slot new = (other : ℕ) → get_or new other 1 ≡ 0 → (get_or old other 1 ≡ 0) × ¬ (other ≡ slot)

-- a path is told so, by one that was opened before it
pub record IsInside (paths : List Parts) (m : Inside) (number : ℕ) : Type 0 where
  pub before : m.0 < number
  pub path : slice_get paths number ≡ Some (within paths m)
