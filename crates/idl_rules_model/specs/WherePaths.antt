-- Where something fails: the places of all that do not pass a test, among them of paths that name no entity of the kind that is wanted.
use Rattle.std.specs.Prelude.{ℕ, Bool, not, List, map}
use Rattle.std.specs.List.{filter}
use Rattle.uno_model.specs.Entities.{Entity, Body}
use Rattle.uno_model.specs.Sound.{is_there}
use Rattle.idl_model.specs.Places.{Place}
use Rattle.idl_model.specs.Trees.{Path}
use Rattle.idl_meaning_model.specs.Declarations.{Declared}
use Rattle.idl_meaning_model.specs.Meaning.{name_meant}

abbrev pub failing : {X : Type 0} → (X → Bool) → (X → Place) → List X → List Place
failing test place xs = map place (filter (λ x. not (test x)) xs)

-- a path names an entity of this kind
abbrev pub names : List Declared → List Entity → (Body → Bool) → List (List ℕ) → Path → Bool
names ds reg wanted modules path = is_there reg wanted (name_meant ds modules path)

abbrev pub not_named : List Declared → List Entity → (Body → Bool) → List (List ℕ) → List Path → List Place
not_named ds reg wanted modules paths = failing (names ds reg wanted modules) (λ path. path.place) paths
