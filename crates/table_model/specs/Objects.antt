-- Objects: each living one at its number, in rising order, and how many were made.
use Rattle.std.specs.Prelude.{ℕ, ◌+◌, ◌-◌, Bool, false, cond, List, [], ◌∷◌, Option, None, Some}
use Rattle.std.specs.FinMap.{find, put}
use Rattle.std.specs.Ordering.{nat_cmp}
use Rattle.table_model.specs.Rows.{without}

-- an object: its behaviour, the values of its fields, and whether it is marked
pub record Object (V : Type 0) : Type 0 where
  pub behaviour : ℕ
  pub fields : List V
  pub may_go : Bool

pub record Objects (V : Type 0) : Type 0 where
  pub made : ℕ
  pub rows : List (ℕ × Object V)

-- no objects, and none made
abbrev pub no_objects : {V : Type 0} → Objects V
no_objects = record { made = 0; rows = [] }

-- the object of a number
abbrev pub object : {V : Type 0} → ℕ → Objects V → Option (Object V)
object n objects = find nat_cmp n objects.rows

-- the objects with another in the place of one
abbrev pub changed : {V : Type 0} → ℕ → Object V → Objects V → Objects V
changed n o objects = record { made = objects.made; rows = put nat_cmp n o objects.rows }

-- the objects after one was made
abbrev pub made_one : {V : Type 0} → ℕ → List V → Objects V → Objects V
made_one behaviour fields objects = record { made = objects.made + 1; rows = put nat_cmp (objects.made + 1) (record { behaviour = behaviour; fields = fields; may_go = false }) objects.rows }

-- the objects after the last one that was made is taken back
abbrev pub unmade : {V : Type 0} → Objects V → Objects V
unmade objects = record { made = objects.made - 1; rows = without nat_cmp objects.made objects.rows }

-- the objects after one is gone
abbrev pub removed : {V : Type 0} → ℕ → Objects V → Objects V
removed n objects = record { made = objects.made; rows = without nat_cmp n objects.rows }

-- the lowest marked object
abbrev pub lowest : {V : Type 0} → List (ℕ × Object V) → Option ℕ
lowest [] = None
lowest (row ∷ rows) = cond row.1.may_go (Some row.0) (lowest rows)
