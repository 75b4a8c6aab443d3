-- The identifiers of a path: from the last to the first, and joined by points.
use Rattle.std.proofs.Common.{◌≡◌, refl, sym, ap, ◌∙◌, ℕ, List, [], ◌∷◌, ◌++◌, map, reverse, get_or, slice_get, Some, append_assoc, append-nil}
use Rattle.std.specs.Borrow.{Bor}
use Rattle.std.specs.List.{join_by, join_with_byte}
use Rattle.std.proofs.lemmas.List.{map-append, reverse-append}
use Rattle.std.proofs.lemmas.Option.{get_or_from_slice_get}
use Rattle.idl_meaning_model.specs.Declarations.{dotted}
use Rattle.idl_names.specs.Paths.{Parts, IsInside, within}

-- ---- from the last to the first

-- the last identifier of the path that is left is the next
pub one_back : (paths : List Parts) (rest outer : ℕ) (name : List ℕ) (xs whole : Parts) → IsInside paths (outer, name) rest → get_or paths rest [] ++ reverse xs ≡ whole
    → get_or paths outer [] ++ reverse (xs ++ name ∷ []) ≡ whole
one_back paths rest outer name xs whole last so_far =
    ap (λ k. get_or paths outer [] ++ k) (reverse-append xs (name ∷ []))
    ∙ sym (append_assoc (get_or paths outer []) (name ∷ []) (reverse xs))
    ∙ ap (λ k. k ++ reverse xs) (sym (get_or_from_slice_get paths rest (within paths (outer, name)) [] last.path))
    ∙ so_far

pub one_pushed : (paths : List Parts) (rest outer : ℕ) (name : Bor (List ℕ)) (old new : List (Bor (List ℕ))) (whole : Parts) → IsInside paths (outer, name.now) rest → new ≡ old ++ name ∷ []
    → get_or paths rest [] ++ reverse (map (λ part. part.now) old) ≡ whole → get_or paths outer [] ++ reverse (map (λ part. part.now) new) ≡ whole
one_pushed paths rest outer name old new whole last pushed so_far =
    ap (λ (k : Parts). get_or paths outer [] ++ reverse k) (ap (map (λ part. part.now)) pushed ∙ map-append (λ part. part.now) old (name ∷ []))
    ∙ one_back paths rest outer name.now (map (λ part. part.now) old) whole last so_far

-- behind the path without an identifier nothing is left
pub all_back : (paths : List Parts) (rest : ℕ) (xs whole : Parts) → rest ≡ 0 → slice_get paths 0 ≡ Some [] → get_or paths rest [] ++ reverse xs ≡ whole → reverse xs ≡ whole
all_back paths rest xs whole is first so_far =
    sym (ap (λ (k : Parts). k ++ reverse xs) (ap (λ n. get_or paths n []) is ∙ get_or_from_slice_get paths 0 [] [] first)) ∙ so_far

pub map_back : {X Y : Type 0} (view : X → Y) (xs : List X) → map view (reverse xs) ≡ reverse (map view xs)
map_back view [] = refl
map_back view (x ∷ xs) =
    ap (map view) (reverse-append (x ∷ []) xs) ∙ map-append view (reverse xs) (x ∷ []) ∙ ap (λ k. k ++ view x ∷ []) (map_back view xs)
    ∙ sym (reverse-append (view x ∷ []) (map view xs))

pub all_pushed : (paths : List Parts) (rest : ℕ) (old new : List (Bor (List ℕ))) (whole : Parts) → rest ≡ 0 → slice_get paths 0 ≡ Some [] → new ≡ reverse old
    → get_or paths rest [] ++ reverse (map (λ part. part.now) old) ≡ whole → map (λ part. part.now) new ≡ whole
all_pushed paths rest old new whole is first turned so_far =
    ap (map (λ part. part.now)) turned ∙ map_back (λ part. part.now) old ∙ all_back paths rest (map (λ part. part.now) old) whole is first so_far

-- ---- joined by points

joined : {X : Type 0} (view : X → List ℕ) (xs : List X) → join_by view (46 ∷ []) xs ≡ join_with_byte 46 (map view xs)
joined view [] = refl
joined view (x ∷ []) = append-nil (view x)
joined view (x ∷ y ∷ ys) = ap (λ k. view x ++ (46 ∷ k)) (joined view (y ∷ ys))

pub joined_by_points : {X : Type 0} (view : X → List ℕ) (xs : List X) (path : Parts) → map view xs ≡ path → join_by view (46 ∷ []) xs ≡ dotted path
unfolding dotted
joined_by_points view xs path is = joined view xs ∙ ap (join_with_byte 46) is
