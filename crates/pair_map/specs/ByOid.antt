-- What a map from OIDs to rows of faces has at pairs.
use Rattle.std.specs.Prelude.{ℕ, List, length, map, Option, None, Some}
use Rattle.std.specs.FinMap.Entries.{where_key}
use Rattle.std.specs.List.{flat_map}
use Rattle.std.specs.HashMap.{HashMap, get_by}
use Rattle.std.specs.Str.{bytes_eq}
use Rattle.table_model.specs.Pair.{Pair, pair, pair_cmp}
use Rattle.table_model.specs.Rows.{in_order}
use Rattle.pair_map.specs.Faces.{Rows, value_of}

module _ {X : Type 0} where
  -- what the rows of an OID that is there have at a face
  abbrev pub at_face : Option (Rows X) → List ℕ → Option X
  at_face None face = None
  at_face (Some faces) face = value_of face faces

  -- what the map has at a pair
  abbrev pub at_pair : {S : Type 0} → HashMap (List ℕ) (Rows X) S → Pair → Option X
  at_pair by_oid p = at_face (get_by (bytes_eq p.oid) by_oid) p.face

  -- the rows of one OID
  abbrev pub face_rows : List ℕ → Rows X → List (Pair × X)
  face_rows oid faces = map (λ f. (pair oid f.0, f.1)) faces

  -- the rows of all pairs, in the order of the entries
  abbrev pub pair_rows : List (List ℕ × Rows X) → List (Pair × X)
  pair_rows oids = flat_map (λ o. face_rows o.0 o.1) oids

-- how many pairs of some rows, each once, have an OID
abbrev pub how_many_of : {X : Type 0} → List ℕ → List (Pair × X) → ℕ
how_many_of oid rows = length (where_key pair_cmp (λ p. bytes_eq oid p.oid) (in_order pair_cmp rows))
