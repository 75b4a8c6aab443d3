-- Names that were met one after the other, and what is known of each of them.
use Rattle.std.specs.Prelude.{◌≡◌, ℕ, zero, suc, List, [], ◌∷◌, ◌++◌, length, map, Option, unwrap_or, cond}
use Rattle.std.specs.Borrow.{Bor}
use Rattle.std.specs.BTreeMap.{BTreeMap, get_by}
use Rattle.std.specs.Cmp.Lexicographic.{slice_cmp}
use Rattle.std.specs.List.{AllByRecursion}
use Rattle.std.specs.Option.{option_map}
use Rattle.std.specs.Ordering.{nat_cmp, ordering_then}
use Rattle.idl_model.specs.Places.{Place}
use Rattle.idl_names.specs.Paths.{Inside, is_same}
use Rattle.idl_repeated_names.specs.Sums.{Summary, Sums, joined, nothing, of_one, summary_of}
use Rattle.idl_repeated_names.specs.Tables.{second_places}
use Rattle.idl_repeated_names.specs.declared.least.Least.{Least}
use Rattle.idl_repeated_names.specs.declared.twins.Met.{Met}
use Rattle.idl_repeated_names.specs.declared.twins.Twins.{Twins}
use Rattle.idl_rules_model.specs.NamesDiffer.{NameAt}
use Rattle.idl_trees.specs.Names.{place_of}
use Rattle.idl_trees.specs.declared.place.Place as code
use Rattle.rules_over_bases.specs.OwnNames.{getter_name, setter_name}
use Rattle.rules_over_bases.specs.Seen.{IsPlain}

-- ---- names

-- a name by the number of what stands before it in that of a function, and its place, if it is not built in
pub record Named : Type 0 where
  pub key : Inside
  pub place : Option Place

abbrev pub named : ℕ × Bor (List ℕ) → Option code.Place → Named
named key place = record { key = (key.0, key.1.now); place = option_map place_of place }

abbrev pub text_of : Inside → List ℕ
text_of (zero, name) = name
text_of (suc zero, name) = getter_name name
text_of (suc (suc n), name) = setter_name name

-- a key with a text that no other has
abbrev pub IsKey : Inside → Type 0
IsKey (zero, name) = IsPlain name
IsKey (suc zero, name) = Unit {0}
IsKey (suc (suc zero), name) = Unit {0}
IsKey (suc (suc (suc n)), name) = ⊥

abbrev pub HasKey : Named → Type 0
HasKey n = IsKey n.key

abbrev pub HaveKeys : List Named → Type 0
HaveKeys ns = AllByRecursion HasKey ns

abbrev pub name_at : Named → NameAt
name_at n = record { name = text_of n.key; place = n.place }

-- ---- what is known of them

-- of the places of the names with a key; a name that is built in has none
unfoldable pub known_from : Summary → List Named → Inside → Summary
known_from known [] k = known
known_from known (n ∷ ns) k = known_from (cond (is_same n.key k) (joined known (of_one n.place)) known) ns k

-- ---- as code has them

abbrev pub known_at : BTreeMap (ℕ × Bor (List ℕ)) Least → Inside → Summary
known_at known k = unwrap_or (option_map (λ l. summary_of l) (get_by (λ key. ordering_then (nat_cmp k.0 key.0) (slice_cmp nat_cmp k.1 key.1.now)) known)) nothing

-- a name that was met, and what was known of it before
pub record Logged : Type 0 where
  pub key : Inside
  pub before : Summary

abbrev pub logged_of : Met → Logged
logged_of m = record { key = (m.key.0, m.key.1.now); before = summary_of m.before }

-- names behind others, each with what was known of it before
unfoldable pub logged_behind : List Named → List Named → List Logged
logged_behind before [] = []
logged_behind before (n ∷ ns) = record { key = n.key; before = known_from nothing before n.key } ∷ logged_behind (before ++ n ∷ []) ns

pub record Has (known : BTreeMap (ℕ × Bor (List ℕ)) Least) (met : List Met) (ns : List Named) : Type 0 where
  pub known_so : (k : Inside) → known_at known k ≡ known_from nothing ns k
  pub met_so : map logged_of met ≡ logged_behind [] ns

-- just these names were met, in this order
abbrev pub HasMet : Twins → List Named → Type 0
HasMet t ns = Has t.known t.met.items ns

-- what is found of the places of second names among these
abbrev pub SumsSeconds : List Named → Least → Type 0
SumsSeconds ns found = Sums (second_places (map name_at ns)) (summary_of found)

abbrev pub FindsSeconds : List Named → Twins → Type 0
FindsSeconds ns t = SumsSeconds ns t.found

-- ---- names that are taken back

-- only the first of them are left
abbrev pub TakesBack : Twins → Twins → ℕ → Type 0
TakesBack old new count = (ns more : List Named) → HasMet old (ns ++ more) → count ≡ length ns → HasMet new ns

abbrev pub ForgetsLast : Twins → Twins → Type 0
ForgetsLast old new = (ns : List Named) (n : Named) → HasMet old (ns ++ n ∷ []) → HasMet new ns
