-- What gives constants and items their values, as code has it.
use Rattle.std.specs.Prelude.{◌≡◌, List, [], ◌∷◌, ◌++◌, map}
use Rattle.idl_meaning_model.specs.Declarations as model
use Rattle.idl_model.specs.Trees.{Constant, Item, Declaration, constants, enum}
use Rattle.idl_trees.specs.Expressions.{expr_of}
use Rattle.idl_trees.specs.Names.{place_of}
use Rattle.idl_values.specs.declared.origins.Origin.{Origin}
use Rattle.idl_values.specs.declared.origins.Origin.TheVariants as origin

abbrev pub origin_of : Origin → model.Origin
origin_of (origin.Expression e) = model.expression (expr_of e.now)
origin_of origin.FirstItem = model.first_item
origin_of (origin.ItemBefore p) = model.item_before (place_of p)

abbrev pub origins_of : List Origin → List model.Origin
origins_of origins = map origin_of origins

abbrev pub all_origins : List model.Valued → List model.Origin
all_origins vs = map (λ v. v.origin) vs

-- ---- those of a declaration

abbrev pub constant_origins : List Constant → List model.Origin
constant_origins cs = map (λ c. model.expression c.value) cs

abbrev pub one_origin : model.Origin → Item → List model.Origin
one_origin without i = model.item_origin without i.value ∷ []

unfoldable pub item_origins : model.Origin → List Item → List model.Origin
item_origins without [] = []
item_origins without (i ∷ is) = model.item_origin without i.value ∷ item_origins (model.item_before i.name.place) is

abbrev pub origins_in : Declaration → List model.Origin
origins_in (constants cs) = constant_origins cs
origins_in (enum items) = item_origins model.first_item items
origins_in _ = []

-- what an item without a value has behind these
unfoldable pub origin_behind : model.Origin → List Item → model.Origin
origin_behind without [] = without
origin_behind without (i ∷ is) = origin_behind (model.item_before i.name.place) is

-- these are added behind those that are there
abbrev pub AddsOrigins : List Origin → List model.Origin → List Origin → Type 0
AddsOrigins old more new = origins_of new ≡ origins_of old ++ more
