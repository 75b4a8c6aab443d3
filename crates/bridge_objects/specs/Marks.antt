-- An object is marked in the store exactly where it may go.
use Rattle.std.specs.Prelude.{◌≡◌, ℕ, Bool, not, ◌&&◌, nat_lt, List, ◌++◌}
use Rattle.std.specs.Fmt.{decimal}
use Rattle.std.specs.FinMap.{find}
use Rattle.std.specs.Option.{IfSome}
use Rattle.std.specs.Ordering.{nat_cmp}
use Rattle.table_model.specs.Holdings.{Holdings}
use Rattle.table_model.specs.Objects as model
use Rattle.table_model.specs.Stubs.{Stubs}
use Rattle.bridge_model.specs.Objects.{is_held_object, has_stub}

-- whether an object of this identity may go
abbrev pub is_free : ℕ → List ℕ → Holdings → Stubs → ℕ → Bool
is_free first oid holdings stubs n = nat_lt first n && (not (is_held_object oid holdings) && not (has_stub oid stubs))

-- whether the object of a number may go
abbrev pub free_at : List ℕ → ℕ → Holdings → Stubs → ℕ → Bool
free_at prefix first holdings stubs n = is_free first (prefix ++ decimal n) holdings stubs n

module _ {V : Type 0} where
  -- the mark of an object, where it lives, says whether it may go
  abbrev pub IsMarked : (ℕ → Bool) → List (ℕ × model.Object V) → ℕ → Type 0
  IsMarked free rows n = IfSome (find nat_cmp n rows) (λ o. o.may_go ≡ free n)

  -- each object's does
  abbrev pub AreMarked : (ℕ → Bool) → List (ℕ × model.Object V) → Type 0
  AreMarked free rows = (n : ℕ) → IsMarked free rows n
