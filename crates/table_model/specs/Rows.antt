-- Rows with one key each, in rising order of the keys.
use Rattle.std.specs.Prelude.{List, [], ◌∷◌, not}
use Rattle.std.specs.declared.cmp.Ordering.{Ordering}
use Rattle.std.specs.Ordering.{eq_by_cmp}
use Rattle.std.specs.FinMap.{put}
use Rattle.std.specs.FinMap.Entries.{where_key}

module _ {K X : Type 0} (cmp : K → K → Ordering) where
  -- the rows without that of a key
  abbrev pub without : K → List (K × X) → List (K × X)
  without k rows = where_key cmp (λ other. not (eq_by_cmp cmp k other)) rows

  -- rows in rising order, of which the first stays where keys are equal
  abbrev pub in_order : List (K × X) → List (K × X)
  in_order [] = []
  in_order (row ∷ rows) = put cmp row.0 row.1 (in_order rows)
