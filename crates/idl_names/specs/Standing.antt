-- What stands at a path, where marks tell it by the number of the path.
use Rattle.std.specs.List.{find, list_all}
use Rattle.std.specs.Prelude.{◌≡◌, ℕ, ◌<◌, Bool, true, false, List, [], ◌++◌, map, length, get_or, slice_get, Option, None, Some, Contains, if◌then◌else◌, option_map}
use Rattle.idl_meaning_model.specs.Declarations.{Declared, dotted}
use Rattle.idl_meaning_model.specs.FromFiles.{are_identifiers}
use Rattle.idl_meaning_model.specs.Scopes.{full_names, outwards}
use Rattle.idl_model.specs.Trees.{Path}
use Rattle.idl_names.specs.Opened.{own_path}
use Rattle.idl_names.specs.Paths.{Parts}
use Rattle.uno_model.specs.Names.{is_identifier}

-- the number of a path, where it has one
abbrev pub IsNumberOf : List Parts → Parts → Option ℕ → Type 0
IsNumberOf paths p None = ¬ Contains paths p
IsNumberOf paths p (Some n) = slice_get paths n ≡ Some p

abbrev pub marked : List Bool → Option ℕ → Bool
marked marks None = false
marked marks (Some n) = get_or marks n false

-- marks tell which names of identifiers pass
abbrev pub Answers : List Parts → List Bool → (List ℕ → Bool) → Type 0
Answers paths marks test = (p : Parts) (o : Option ℕ) → are_identifiers p ≡ true → IsNumberOf paths p o → test (dotted p) ≡ marked marks o

-- the name of a path
abbrev pub name_at : List Parts → ℕ → List ℕ
name_at paths n = dotted (get_or paths n [])

-- no two numbers have one path
abbrev pub AreOnce : List Parts → Type 0
AreOnce paths = (n k : ℕ) (p : Parts) → slice_get paths n ≡ Some p → slice_get paths k ≡ Some p → n ≡ k

-- the name, if it passes
abbrev pub name_if : (List ℕ → Bool) → List ℕ → Option (List ℕ)
name_if test name = if test name then Some name else None

-- the names of these identifiers in each of these modules
abbrev pub names_behind : List Parts → Parts → List (List ℕ)
names_behind modules parts = map (λ ms. dotted (ms ++ parts)) modules

-- the path of a number that is found is there, and is made of identifiers
abbrev pub IsRight : List Parts → Option ℕ → Type 0
IsRight paths None = Unit
IsRight paths (Some n) = (n < length paths) × (are_identifiers (get_or paths n []) ≡ true)

-- the number that is found is that of the name that is found
abbrev pub Finds : List Parts → Option ℕ → Option (List ℕ) → Type 0
Finds paths found name = (option_map (name_at paths) found ≡ name) × IsRight paths found

-- what identifiers name in just these modules
abbrev pub NamesThere : List Parts → List Bool → ℕ → Parts → Option ℕ → Type 0
NamesThere paths marks scope parts found = (test : List ℕ → Bool) → Answers paths marks test → list_all is_identifier (get_or paths scope []) ≡ true → are_identifiers parts ≡ true
    → Finds paths found (name_if test (dotted (get_or paths scope [] ++ parts)))

-- and in these or those round them
abbrev pub NamesOutwards : List Parts → List Bool → ℕ → Parts → Option ℕ → Type 0
NamesOutwards paths marks modules parts found = (test : List ℕ → Bool) → Answers paths marks test → list_all is_identifier (get_or paths modules []) ≡ true → are_identifiers parts ≡ true
    → Finds paths found (find test (names_behind (outwards (get_or paths modules [])) parts))

-- what a path names in modules
abbrev pub NamesIn : List Parts → List Bool → ℕ → Path → Option ℕ → Type 0
NamesIn paths marks modules path found = (test : List ℕ → Bool) → Answers paths marks test → list_all is_identifier (get_or paths modules []) ≡ true → are_identifiers path.parts ≡ true
    → Finds paths found (find test (full_names (get_or paths modules []) path))

-- one of these names is told where a path stands in an expression of a declaration
abbrev pub NamesOf : List Parts → List Bool → Declared → Path → List (List ℕ) → Option ℕ → Type 0
NamesOf paths marks d path names found = (test : List ℕ → Bool) → Answers paths marks test → list_all is_identifier (own_path d) ≡ true → are_identifiers path.parts ≡ true
    → Finds paths found (find test names)
