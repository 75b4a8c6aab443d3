-- Plans as plain trees: what objects do, which are exported, which services make them, and what each root does.
use Rattle.std.specs.Prelude.{ℕ, suc, ◌+◌, Bool, ◌&&◌, ◌||◌, ◌==◌, List, [], ◌∷◌, ◌++◌, length, map, Option, None, Some, slice_get, codes, if◌then◌else◌}
use Rattle.std.specs.List.{list_any, position}
use Rattle.std.specs.Option.{option_map, option_or}
use Rattle.std.specs.Str.{bytes_eq}
use Rattle.uno_model.specs.BuiltIn.{factory_name}
use Rattle.uno_model.specs.Entities.{Entity, Field}
use Rattle.uno_model.specs.Reaches.{is_base_of}
use Rattle.uno_model.specs.Sound.{is_some_list}
use Rattle.plan_model.specs.Statements.{Statement, RootStatement}

-- the statements of a function, which the interface `face` declares
pub record Method : Type 0 where
  pub face : List ℕ
  pub function : List ℕ
  pub body : List Statement

-- what an object of a behaviour has and does; it supports the interfaces to which one of its faces is assignable
pub record Behaviour : Type 0 where
  pub name : List ℕ
  pub faces : List (List ℕ)
  pub fields : List Field
  pub methods : List Method

-- an object under a name that the peer may ask for
pub record Export : Type 0 where
  pub name : List ℕ
  pub behaviour : ℕ

-- a service or a singleton, and the behaviour of its objects
pub record Offer : Type 0 where
  pub name : List ℕ
  pub behaviour : ℕ

-- behaviours are numbered from 0, roots from 1, each list in the order of its lines
pub record Plan : Type 0 where
  pub behaviours : List Behaviour
  pub exports : List Export
  pub services : List Offer
  pub singletons : List Offer
  pub threads : List (List RootStatement)

-- the plan of which nothing is written
abbrev pub empty_plan : Plan
empty_plan = record { behaviours = []; exports = []; services = []; singletons = []; threads = [] }

-- the number that stands for the service manager in the place of a behaviour's
unfoldable pub manager : ℕ
manager = 256

-- the faces of a behaviour by its number; the service manager has one
abbrev pub faces_in : Option Behaviour → List (List ℕ)
faces_in None = []
faces_in (Some b) = b.faces

unfoldable pub faces_of : Plan → ℕ → List (List ℕ)
faces_of p n = if n == manager then factory_name ∷ [] else faces_in (slice_get p.behaviours n)

-- an object supports the interfaces to which one of its faces is assignable
unfoldable pub supports : List Entity → List (List ℕ) → List ℕ → Bool
supports reg faces wanted = list_any (is_base_of reg wanted) faces

-- ---- the objects that are there from the beginning

-- the name of the service manager, which a plan with a service or a singleton exports
abbrev pub manager_name : List ℕ
manager_name = codes "ServiceManager"

abbrev pub has_offers : Plan → Bool
has_offers p = is_some_list p.services || is_some_list p.singletons

-- the numbers of their behaviours: those of the exports, and behind them the service manager and the singletons; objects are numbered from 1
unfoldable pub first_objects : Plan → List ℕ
first_objects p = map (λ e. e.behaviour) p.exports ++ (if has_offers p then manager ∷ map (λ o. o.behaviour) p.singletons else [])

-- the number of the object that is exported under a name
abbrev pub manager_named : Plan → List ℕ → Option ℕ
manager_named p name = if bytes_eq name manager_name && has_offers p then Some (suc (length p.exports)) else None

unfoldable pub exported : Plan → List ℕ → Option ℕ
exported p name = option_or (option_map suc (position (λ e. bytes_eq name e.name) p.exports)) (manager_named p name)

-- the number of a singleton, by its place among the singletons
unfoldable pub singleton_object : Plan → ℕ → ℕ
singleton_object p place = length p.exports + suc (suc place)
