-- The values of constants and of enum items: an expression is worked out over the constants that it names; one without a value gives none to those that use it.
use Rattle.std.specs.Prelude.{ℕ, zero, suc, ℤ, pos, ◌+ℤ◌, List, [], length, Option, None, Some}
use Rattle.std.specs.List.{find, flat_map}
use Rattle.std.specs.Option.{option_and_then, option_to_list}
use Rattle.std.specs.Result.{result_ok}
use Rattle.idl_model.specs.Places.{Place, is_at}
use Rattle.idl_model.specs.Values.{value, ranged}
use Rattle.idl_meaning_model.specs.Declarations.{Scope, Origin, expression, first_item, item_before, Valued}
use Rattle.idl_meaning_model.specs.Scopes.{constant_named}
use Rattle.idl_meaning_model.specs.Uses.{expr_paths}

-- the constant or item whose name stands at this place
unfoldable pub valued_at : List Valued → Place → Option Valued
valued_at vs place = find (λ v. is_at place v.name.place) vs

-- ---- what a constant leads to

-- the constants that its expression names; an item without a value leads to the one before
abbrev pub origin_leads_to : List Valued → Scope → Origin → List Valued
origin_leads_to vs scope (expression e) = flat_map (λ path. option_to_list (constant_named vs scope path)) (expr_paths e)
origin_leads_to vs scope first_item = []
origin_leads_to vs scope (item_before place) = option_to_list (valued_at vs place)

unfoldable pub leads_to_valued : List Valued → Valued → List Valued
leads_to_valued vs v = origin_leads_to vs v.scope v.origin

-- ---- values

-- one more than the item before, within 128 bits
abbrev pub one_more : ℤ → Option ℤ
one_more n = result_ok (ranged (n +ℤ pos 1))

-- the value where these are the values of what it leads to
abbrev pub origin_value : (Valued → Option ℤ) → List Valued → Scope → Origin → Option ℤ
origin_value inner vs scope (expression e) = result_ok (value (λ path. option_and_then inner (constant_named vs scope path)) e)
origin_value inner vs scope first_item = Some (pos 0)
origin_value inner vs scope (item_before place) = option_and_then one_more (option_and_then inner (valued_at vs place))

-- over ways of so many steps
unfoldable pub value_within : ℕ → List Valued → Valued → Option ℤ
value_within zero vs v = None
value_within (suc steps) vs v = origin_value (value_within steps vs) vs v.scope v.origin

-- a way that comes to no constant twice has no more steps than there are constants
unfoldable pub value_meant : List Valued → Valued → Option ℤ
value_meant vs v = value_within (suc (length vs)) vs v
