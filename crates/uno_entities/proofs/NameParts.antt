-- The parts between the points of a name are those at which std cuts it.
use Rattle.std.proofs.Common.{◌≡◌, ℕ, ◌+◌, List, [], ◌∷◌, Bool, ◌&&◌, eqb, length, refl, ap, ◌∙◌, arith, Bor, Option, Some, None}
use Rattle.std.specs.List.{slice_split, count_by, position_or_len, before_first, after_first}
use Rattle.std.proofs.lemmas.Str.Pattern.{IsSplitOnceResult, split_once_first}
use Rattle.std.proofs.lemmas.List.Splits.{length-slice_split, slice_split_first, slice_split_none}
use Rattle.std.proofs.lemmas.List.Sums.{fails_before_first}
use Rattle.uno_model.specs.Names.{parts_of, is_identifier, is_entity_name}

abbrev pub is_point : ℕ → Bool
is_point c = eqb c 46

pub parts_split : (name : List ℕ) → parts_of name ≡ slice_split is_point name
unfolding parts_of
parts_split [] = refl
parts_split (c ∷ cs) = let rest = parts_split cs in grind (arith, rest)

-- one part more than points
pub length_parts : (name : List ℕ) → length (parts_of name) ≡ count_by is_point name + 1
length_parts name = ap length (parts_split name) ∙ length-slice_split is_point name

-- a name is cut at its first point: an identifier, and behind it identifiers joined by points
pub after_point : (name : List ℕ) (r : Option (Bor (List ℕ) × Bor (List ℕ))) (part behind : Bor (List ℕ)) → IsSplitOnceResult 46 name r → r ≡ Some (part, behind)
    → is_entity_name name ≡ (is_identifier part.now && is_entity_name behind.now)
after_point name r part behind cut found =
    let at = rw found at (split_once_first 46 name r cut (omega arith)) in
    let front = at.1 in
    let back = at.2 in
    let parts : parts_of name ≡ before_first is_point name ∷ slice_split is_point (after_first is_point name) = parts_split name ∙ slice_split_first is_point name 0 at.0 in
    rw (front, back, parts, parts_split (after_first is_point name)) refl

-- a name without a point is an identifier
pub without_point : (name : List ℕ) (r : Option (Bor (List ℕ) × Bor (List ℕ))) → IsSplitOnceResult 46 name r → r ≡ None → is_entity_name name ≡ is_identifier name
without_point name r cut none =
    let at : position_or_len is_point name ≡ length name = rw none at (split_once_first 46 name r cut (omega arith)) in
    let parts : parts_of name ≡ name ∷ [] = parts_split name ∙ slice_split_none is_point name (λ k d h. fails_before_first is_point name k d (omega arith)) in
    rw parts (grind arith)
