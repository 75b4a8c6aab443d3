-- Paths that are opened, and their numbers; the paths of constants and items, and of the entities that are built in.
use Rattle.std.specs.List.{flat_map}
use Rattle.std.specs.Prelude.{◌≡◌, ℕ, List, [], ◌∷◌, ◌++◌, codes, map, slice_get, Some}
use Rattle.idl_meaning_model.specs.Declarations as model
use Rattle.idl_model.specs.Trees.{Id, Declaration, constants, enum}
use Rattle.idl_names.specs.Collected.{Keep}
use Rattle.idl_names.specs.Paths.{Parts}
use Rattle.idl_names.specs.declared.opening.Opened.{Opened}

-- these numbers are those of these paths, one by one
unfoldable pub AreAt : List Parts → List ℕ → List Parts → Type 0
AreAt paths [] [] = Unit
AreAt paths [] (p ∷ ps) = ⊥
AreAt paths (n ∷ ns) [] = ⊥
AreAt paths (n ∷ ns) (p ∷ ps) = (slice_get paths n ≡ Some p) × AreAt paths ns ps

-- these paths are opened, and their numbers stand behind those that there are
pub record Numbers (old : List Parts) (before : List ℕ) (more : List Parts) (new : List Parts) (after : List ℕ) : Type 0 where
  pub fresh : List ℕ
  pub items : after ≡ before ++ fresh
  pub kept : Keep old new
  pub told : AreAt new fresh more

-- ---- constants and items

-- the names of what has a value in a declaration
abbrev pub value_ids : Declaration → List Id
value_ids (constants cs) = map (λ c. c.name) cs
value_ids (enum items) = map (λ i. i.name) items
value_ids _ = []

-- names behind a path
abbrev pub behind_all : Parts → List Id → List Parts
behind_all own ids = map (λ i. own ++ i.name ∷ []) ids

-- the path of a declaration
abbrev pub own_path : model.Declared → Parts
own_path d = d.modules ++ d.name.name ∷ []

-- the paths of all that has a value
unfoldable pub value_paths : List model.Declared → List Parts
value_paths ds = flat_map (λ d. behind_all (own_path d) (value_ids d.body)) ds

-- ---- what is built in

abbrev pub star : List ℕ → List ℕ → Parts
star module_name name = codes "com" ∷ (codes "sun" ∷ (codes "star" ∷ (module_name ∷ (name ∷ []))))

abbrev pub built_in_interfaces : List Parts
built_in_interfaces = star (codes "lang") (codes "XMultiServiceFactory") ∷ (star (codes "uno") (codes "XInterface") ∷ [])

abbrev pub built_in_exceptions : List Parts
built_in_exceptions =
    star (codes "lang") (codes "DisposedException") ∷ (star (codes "uno") (codes "Exception") ∷ (star (codes "uno") (codes "RuntimeException") ∷ []))

-- these numbers are those of the paths of all that is built in, and of all that has a value
pub record HasOpened (paths : List Parts) (ds : List model.Declared) (opened : Opened) : Type 0 where
  pub interfaces : AreAt paths opened.interfaces.items built_in_interfaces
  pub exceptions : AreAt paths opened.exceptions.items built_in_exceptions
  pub values : AreAt paths opened.values.items (value_paths ds)
