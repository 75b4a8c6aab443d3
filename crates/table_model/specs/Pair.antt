-- Pairs: an identity and one of its interfaces.
use Rattle.std.specs.Prelude.{ℕ, List, Bool, not}
use Rattle.std.specs.declared.cmp.Ordering.{Ordering}
use Rattle.std.specs.Ordering.{ordering_then, nat_cmp, eq_by_cmp}
use Rattle.std.specs.Cmp.Lexicographic.{slice_cmp}
use Rattle.std.specs.List.{filter}
use Rattle.std.specs.Str.{bytes_eq}

-- an OID and the name of an interface
pub record Pair : Type 0 where
  pub oid : List ℕ
  pub face : List ℕ

-- the pair of an OID and a face
abbrev pub pair : List ℕ → List ℕ → Pair
pair oid face = record { oid = oid; face = face }

-- pairs rise by OID, and then by face
abbrev pub pair_cmp : Pair → Pair → Ordering
pair_cmp p q = ordering_then (slice_cmp nat_cmp p.oid q.oid) (slice_cmp nat_cmp p.face q.face)

-- whether two pairs are one
abbrev pub is_pair : Pair → Pair → Bool
is_pair = eq_by_cmp pair_cmp

-- the rows without those of an OID
abbrev pub without_oid : {X : Type 0} → List ℕ → List (Pair × X) → List (Pair × X)
without_oid oid rows = filter (λ row. not (bytes_eq oid row.0.oid)) rows
