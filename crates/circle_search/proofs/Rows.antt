-- The targets of a node, from the row that is kept of it.
use Rattle.std.proofs.Common.{◌≡◌, ℕ, ◌<◌, ◌≤◌, true, false, List, [], length, get_or, Vec, Global, sym, ◌∙◌, ap}
use Rattle.std.proofs.lemmas.Bool.{ltb-true, ltb-false}
use lib.Dec.{ltb}
use Rattle.std.proofs.lemmas.List.{get_or-map, get_or_past, length-map}
use Rattle.circle_search.specs.Graph.{targets, targets_of}

pub row_within : (rows : List (Vec ℕ Global)) (g : List (List ℕ)) (n : ℕ) (row : Vec ℕ Global) → targets_of rows ≡ g
    → true ≡ ltb n (length rows) → row ≡ get_or rows n row → row.items ≡ targets g n
unfolding targets
row_within rows g n row view low at =
    let within : n < length rows = ltb-true n (length rows) (sym low) in
    let there : get_or (targets_of rows) n [] ≡ (get_or rows n row).items = get_or-map (λ (r : Vec ℕ Global). r.items) rows n row [] within in
    ap (λ r. r.items) at ∙ sym there ∙ ap (λ h. get_or h n []) view

pub row_past : (rows : List (Vec ℕ Global)) (g : List (List ℕ)) (n : ℕ) → targets_of rows ≡ g → false ≡ ltb n (length rows) → [] ≡ targets g n
unfolding targets
row_past rows g n view high =
    let past : length rows ≤ n = ltb-false n (length rows) (sym high) in
    let none : get_or (targets_of rows) n [] ≡ [] = get_or_past (targets_of rows) n [] (rw length-map past) in
    sym none ∙ ap (λ h. get_or h n []) view
