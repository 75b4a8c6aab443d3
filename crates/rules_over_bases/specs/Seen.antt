-- What sets of names have seen, and what a row of names more does to them.
use Rattle.std.specs.Prelude.{◌≡◌, ◌≢◌, ℕ, ◌+◌, ◌≤◌, Bool, true, List, [], ◌∷◌, ◌++◌, length, map, take, Contains}
use Rattle.std.specs.List.{list_any}
use Rattle.std.specs.Borrow.{Bor}
use Rattle.std.specs.BTreeSet.{contains_by}
use Rattle.std.specs.Cmp.Lexicographic.{slice_cmp}
use Rattle.std.specs.Ordering.{nat_cmp}
use Rattle.std.specs.Str.{bytes_eq}
use Rattle.std.specs.declared.cmp.Ordering.{Ordering}
use Rattle.uno_model.specs.Sound.{all_differ}
use Rattle.rules_over_bases.specs.Occurring.{occurs}
use Rattle.rules_over_bases.specs.OwnNames.{getter_name, setter_name}
use Rattle.rules_over_bases.specs.declared.seen.Entry.{Entry}
use Rattle.rules_over_bases.specs.declared.seen.Entry.TheVariants.{Getter, Setter, Other}
use Rattle.rules_over_bases.specs.declared.seen.Seen.{Seen}

-- the order of the sets' names
abbrev pub by_text : Bor (List ℕ) → Bor (List ℕ) → Ordering
by_text x y = slice_cmp nat_cmp x.now y.now

-- a name that begins neither as that of a getter nor as that of a setter
pub record IsPlain (name : List ℕ) : Type 0 where
  pub reads_none : (attribute : List ℕ) → name ≢ getter_name attribute
  pub writes_none : (attribute : List ℕ) → name ≢ setter_name attribute

abbrev pub entry_name : Entry → List ℕ
entry_name (Getter attribute) = getter_name attribute.now
entry_name (Setter attribute) = setter_name attribute.now
entry_name (Other name) = name.now

abbrev pub IsEntry : Entry → Type 0
IsEntry (Getter attribute) = Unit
IsEntry (Setter attribute) = Unit
IsEntry (Other name) = IsPlain name.now

-- just these names stand in the sets, and they differ
pub record SetsHave (seen : Seen) (names : List (List ℕ)) : Type 0 where
  pub read : (q : Bor (List ℕ)) → contains_by (by_text q) seen.getters ≡ list_any (bytes_eq (getter_name q.now)) names
  pub written : (q : Bor (List ℕ)) → contains_by (by_text q) seen.setters ≡ list_any (bytes_eq (setter_name q.now)) names
  pub plain : (q : Bor (List ℕ)) → IsPlain q.now → contains_by (by_text q) seen.others ≡ list_any (bytes_eq q.now) names
  pub differ : all_differ names ≡ true

-- just these names were seen, in this order, and they differ
pub record HasSeen (seen : Seen) (names : List (List ℕ)) : Type 0 where
  pub sets : SetsHave seen names
  pub listed : map entry_name seen.entries.items ≡ names
  pub told : (entry : Entry) → Contains seen.entries.items entry → IsEntry entry

-- more names are seen behind those that were; the answer says whether all differ then, and where they do not some of them may be seen
pub record Sees (old new : Seen) (more : List (List ℕ)) (are_new : Bool) : Type 0 where
  pub told : (names : List (List ℕ)) → HasSeen old names → are_new ≡ all_differ (names ++ more)
  pub seen : (names : List (List ℕ)) → HasSeen old names → are_new ≡ true → HasSeen new (names ++ more)
  pub some : (names : List (List ℕ)) → HasSeen old names → (row : List (List ℕ)) × HasSeen new (names ++ row)

-- names are seen that make the one list of the other, in any order
pub record SeesShare (old new : Seen) (whole rest : List (List ℕ)) (are_new : Bool) : Type 0 where
  pub row : List (List ℕ)
  pub sees : Sees old new row are_new
  pub parts : (name : List ℕ) → occurs name whole ≡ occurs name row + occurs name rest

-- some names were seen, and where the answer says so they are those of the list, in any order
pub record SeenAll (seen : Seen) (whole : List (List ℕ)) (answer : Bool) : Type 0 where
  pub names : List (List ℕ)
  pub has_seen : HasSeen seen names
  pub all : answer ≡ true → (name : List ℕ) → occurs name names ≡ occurs name whole

-- the sets are without the name that was the last
abbrev pub Forgets : List ℕ → Seen → Seen → Type 0
Forgets name old new = (names : List (List ℕ)) → SetsHave old (names ++ name ∷ []) → SetsHave new names

abbrev pub ForgetsLast : Seen → Seen → Type 0
ForgetsLast old new = (names : List (List ℕ)) (name : List ℕ) → HasSeen old (names ++ name ∷ []) → HasSeen new names

-- only the first names are left
abbrev pub TakesBack : Seen → Seen → ℕ → Type 0
TakesBack old new count = (names : List (List ℕ)) → HasSeen old names → count ≤ length names → HasSeen new (take count names)
