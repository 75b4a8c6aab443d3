-- The rows that a map of objects stands for.
use Rattle.std.specs.Prelude.{◌≡◌, ℕ, ◌<◌, ◌^◌, Bool, false, List, Option, None, Some, map, length}
use Rattle.std.specs.BTreeMap.{BTreeMap, IsOrdered}
use Rattle.std.specs.FinMap.{find}
use Rattle.std.specs.Ordering.{nat_cmp}
use Rattle.birth_index.specs.Bits.{has}
use Rattle.table_model.specs.Objects as model
use Rattle.object_store.specs.declared.object.Object.{Object}

-- an object with its fields as a list
abbrev pub plain : {V : Type 0} → Object V → model.Object V
plain o = record { behaviour = o.behaviour; fields = o.fields.items; may_go = o.may_go }

-- the rows of objects
abbrev pub object_rows : {V : Type 0} → List (ℕ × Object V) → List (ℕ × model.Object V)
object_rows entries = map (λ e. (e.0, plain e.1)) entries

-- there is an object, and it is marked
abbrev pub is_marked : {V : Type 0} → Option (model.Object V) → Bool
is_marked None = false
is_marked (Some o) = o.may_go

-- the numbers of a map's objects rise, none was not yet given, each fits 32 bits, the marks are those of the marked objects, and there is room to mark each
pub record IsKept {V : Type 0} (objects : BTreeMap ℕ (Object V)) (marks : List Bool) (made : ℕ) : Type 0 where
  pub ordered : IsOrdered nat_cmp objects
  pub given : (n : ℕ) → made < n → find nat_cmp n (object_rows objects.entries) ≡ None
  pub few : made < 2 ^ 32
  pub marks_are : (n : ℕ) → has marks n ≡ is_marked (find nat_cmp n (object_rows objects.entries))
  pub room : (n : ℕ) (o : model.Object V) → find nat_cmp n (object_rows objects.entries) ≡ Some o → n < length marks
