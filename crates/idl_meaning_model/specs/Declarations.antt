-- What files declare: entities, each in its modules, and what has a value, the constants of groups and the items of enums.
use Rattle.std.specs.Prelude.{ℕ, Bool, true, false, not, List, [], ◌∷◌, ◌++◌, map, Option, None, Some}
use Rattle.std.specs.List.{filter, flat_map, join_with_byte}
use Rattle.idl_model.specs.Places.{Place}
use Rattle.idl_model.specs.Trees.{Id, Expr, Item, Constant, Declaration, forward, enum, constants, Def, in_module, declared, Defs, no_defs, def, Tree}

-- ---- declarations

pub record Declared : Type 0 where
  pub modules : List (List ℕ)
  pub published : Bool
  pub name : Id
  pub body : Declaration

-- identifiers joined by points
unfoldable pub dotted : List (List ℕ) → List ℕ
dotted parts = join_with_byte 46 parts

-- the name that a declaration gives its entity
abbrev pub full_name : Declared → List ℕ
full_name d = dotted (d.modules ++ d.name.name ∷ [])

-- those of a definition that stands in these modules, from the front
unfoldable mutual
  pub declared_in : List (List ℕ) → Def → List Declared
  declared_in modules (in_module name ds) = all_declared_in (modules ++ name.name ∷ []) ds
  declared_in modules (declared published d) = record { modules = modules; published = published; name = d.name; body = d.body } ∷ []

  pub all_declared_in : List (List ℕ) → Defs → List Declared
  all_declared_in modules no_defs = []
  all_declared_in modules (def d ds) = declared_in modules d ++ all_declared_in modules ds

-- all declarations of all files
unfoldable pub declarations : List Tree → List Declared
declarations trees = flat_map (λ tree. flat_map (declared_in []) tree) trees

-- `interface ID ;` declares no entity by itself
abbrev pub is_forward : Declaration → Bool
is_forward forward = true
is_forward _ = false

unfoldable pub entities_declared : List Declared → List Declared
entities_declared ds = filter (λ d. not (is_forward d.body)) ds

-- ---- constants and items

-- where a name is used: in these modules, and in an expression of this group of constants
pub record Scope : Type 0 where
  pub modules : List (List ℕ)
  pub group : Option (List ℕ)

abbrev pub group_in : List ℕ → Declaration → Option (List ℕ)
group_in name (constants cs) = Some name
group_in name _ = None

unfoldable pub scope_of : Declared → Scope
scope_of d = record { modules = d.modules; group = group_in (full_name d) d.body }

-- what gives a value: an expression, or the item before; without both, an item is the first of its enum
pub data Origin : Type 0 where
  expression : Expr → Origin
  first_item : Origin
  item_before : Place → Origin

-- a constant or an item, the group or enum in which it stands, and where its expression is used
pub record Valued : Type 0 where
  pub owner : List ℕ
  pub name : Id
  pub scope : Scope
  pub origin : Origin

-- the name by which it is known
abbrev pub value_name : Valued → List ℕ
value_name v = dotted (v.owner ∷ (v.name.name ∷ []))

abbrev pub constant_valued : Declared → Constant → Valued
constant_valued d c = record { owner = full_name d; name = c.name; scope = scope_of d; origin = expression c.value }

abbrev pub item_origin : Origin → Option Expr → Origin
item_origin without None = without
item_origin without (Some e) = expression e

-- items, of which the first has this origin where no value is written
unfoldable pub items_valued : Declared → Origin → List Item → List Valued
items_valued d without [] = []
items_valued d without (i ∷ is) =
    record { owner = full_name d; name = i.name; scope = scope_of d; origin = item_origin without i.value } ∷ items_valued d (item_before i.name.place) is

abbrev pub valued_in : Declared → Declaration → List Valued
valued_in d (constants cs) = map (constant_valued d) cs
valued_in d (enum items) = items_valued d first_item items
valued_in d _ = []

-- all of them
unfoldable pub all_valued : List Declared → List Valued
all_valued ds = flat_map (λ d. valued_in d d.body) ds
