-- What the maps of an environment stand for.
use Rattle.std.specs.Prelude.{ℕ, List, [], ◌∷◌, map, Option, None, Some, replicate}
use Rattle.std.specs.FinMap.{find, put}
use Rattle.std.specs.List.{flat_map}
use Rattle.table_model.specs.Holdings.{Hold, hold}
use Rattle.table_model.specs.Pair.{Pair, pair_cmp}
use Rattle.table_model.specs.Rows.{without}
use Rattle.table_model.specs.declared.holder.Holder.{Holder}

-- each holder as often as it is counted
abbrev pub spread : List (Holder × ℕ) → List Holder
spread times = flat_map (λ t. replicate t.1 t.0) times

-- the holders of a pair, of which none stands for an empty list
abbrev pub holders_or_none : Option (List Holder) → List Holder
holders_or_none None = []
holders_or_none (Some holders) = holders

-- the holders of a pair in some rows
abbrev pub holders_at : Pair → List (Pair × List Holder) → List Holder
holders_at p rows = holders_or_none (find pair_cmp p rows)

-- the occurrences of a pair with some holders
abbrev pub occurrences : Pair → List Holder → List Hold
occurrences p holders = map (λ h. hold h p) holders

-- the occurrences of each pair with its holders
abbrev pub all_occurrences : List (Pair × List Holder) → List Hold
all_occurrences rows = flat_map (λ row. occurrences row.0 row.1) rows

-- the rows in which a pair has these holders
abbrev pub with_holders : Pair → List Holder → List (Pair × List Holder) → List (Pair × List Holder)
with_holders p [] rows = without pair_cmp p rows
with_holders p (h ∷ hs) rows = put pair_cmp p (h ∷ hs) rows
