-- Values by place, where some are known.
use Rattle.std.specs.Option.{option_and_then}
use Rattle.std.specs.Prelude.{◌≡◌, ◌⊎◌, ℕ, ℤ, pos, List, length, get_or, slice_get, Option, None, Some, Contains}
use Rattle.std.specs.Result.{result_ok}
use Rattle.idl_meaning_model.specs.ConstantsMeant.{one_more, value_meant}
use Rattle.idl_meaning_model.specs.Declarations.{Origin, expression, first_item, item_before, Valued}
use Rattle.idl_model.specs.Trees.{Path}
use Rattle.idl_model.specs.Values.{value}
use Rattle.idl_values.specs.Graph.{place_before}

-- the value at a place
abbrev pub known_at : List (Option ℤ) → ℕ → Option ℤ
known_at values k = get_or values k None

-- the value of a path that is known by a place
abbrev pub value_by : (Path → Option ℕ) → List (Option ℤ) → Path → Option ℤ
value_by known values path = option_and_then (known_at values) (known path)

-- the value that comes of these
abbrev pub origin_known : (Path → Option ℕ) → List (Option ℤ) → Origin → ℕ → Option ℤ
origin_known known values (expression e) place = result_ok (value (value_by known values) e)
origin_known known values first_item place = Some (pos 0)
origin_known known values (item_before p) place = option_and_then one_more (option_and_then (known_at values) (place_before place))

-- the one at a place
abbrev pub value_at : (Path → Option ℕ) → List (Option ℤ) → List Origin → ℕ → Option ℤ
value_at known values os place = option_and_then (λ o. origin_known known values o place) (slice_get os place)

-- ---- values that are worked out one after the other

abbrev pub meant_at : List Valued → ℕ → Option ℤ
meant_at vs k = option_and_then (value_meant vs) (slice_get vs k)

-- those of these places are there, and no other value is wrong
pub record AreWorked (vs : List Valued) (done : List ℕ) (values : List (Option ℤ)) : Type 0 where
  pub long : length values ≡ length vs
  pub these : (k : ℕ) → Contains done k → known_at values k ≡ meant_at vs k
  pub others : (k : ℕ) → (known_at values k ≡ None) ⊎ (known_at values k ≡ meant_at vs k)
