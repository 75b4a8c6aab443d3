-- The index of the words that literals have: the names of the items that are the first of their numbers.
use Rattle.std.specs.Prelude.{◌≡◌, ℕ, ℤ, Bool, false, not, ◌&&◌, ◌||◌, List, [], ◌∷◌, Some}
use Rattle.std.specs.List.{list_any}
use Rattle.std.specs.Borrow.{Bor}
use Rattle.std.specs.BTreeSet.{BTreeSet, contains_by, contains}
use Rattle.std.specs.Cmp.Lexicographic.{slice_cmp}
use Rattle.std.specs.Ordering.{nat_cmp, int_cmp, int_eq}
use Rattle.std.specs.Str.{bytes_eq}
use Rattle.std.specs.declared.cmp.Ordering.{Ordering}
use Rattle.literal_model.specs.Shapes.{is_first_name}
use Rattle.uno_model.specs.Defaults.{items_of}
use Rattle.uno_model.specs.Entities.{Entity, Item}

-- the order of the names
abbrev pub by_text : Bor (List ℕ) → Bor (List ℕ) → Ordering
by_text x y = slice_cmp nat_cmp x.now y.now

-- a set has more names: those that pass the test
abbrev pub Adds : BTreeSet (Bor (List ℕ)) → BTreeSet (Bor (List ℕ)) → (List ℕ → Bool) → Type 0
Adds old new test = (q : Bor (List ℕ)) → contains_by (by_text q) new ≡ (contains_by (by_text q) old || test q.now)

-- the name of the first item of its number in some enum
abbrev pub is_some_first : List Entity → List ℕ → Bool
is_some_first reg w = list_any (λ e. is_first_name (items_of (Some e)) w) reg

-- the set has just the names of a registry
abbrev pub IsIndex : BTreeSet (Bor (List ℕ)) → List Entity → Type 0
IsIndex set reg = (q : Bor (List ℕ)) → contains_by (by_text q) set ≡ is_some_first reg q.now

-- the numbers that were seen
abbrev pub seen_in : BTreeSet ℤ → ℤ → Bool
seen_in numbers n = contains int_cmp numbers n

-- the name of an item whose number was not seen before it
unfoldable pub is_fresh : (ℤ → Bool) → List Item → List ℕ → Bool
is_fresh seen [] w = false
is_fresh seen (i ∷ items) w = (not (seen i.number) && bytes_eq i.name w) || is_fresh (λ n. int_eq n i.number || seen n) items w
