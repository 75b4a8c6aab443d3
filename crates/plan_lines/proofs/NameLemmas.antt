-- Paths and types by what stands at their front.
use Rattle.std.proofs.Common.{◌≡◌, ℕ, Bool, true, false, ◌&&◌, ◌==◌, List, [], ◌∷◌, ◌++◌, length, refl, sym, ap, ◌∙◌, arith, Bor, Option, Some, None, codes, if◌then◌else◌}
use Rattle.std.proofs.lemmas.Bool.{eqb-true}
use Rattle.std.specs.List.{slice_split, position_or_len, before_first, after_first}
use Rattle.std.proofs.lemmas.Str.Pattern.{IsSplitOnceResult, split_once_first}
use Rattle.std.proofs.lemmas.List.Splits.{slice_split_first, slice_split_none}
use Rattle.std.proofs.lemmas.List.Sums.{fails_before_first}
use Rattle.literal_model.specs.Shapes.{is_word}
use Rattle.uno_entities.proofs.NameParts.{is_point, parts_split}
use Rattle.uno_model.specs.Names.{parts_of}
use Rattle.plan_model.specs.Forms.{is_path, is_plain_type, is_type_text, is_behind_bracket}

-- a path is cut at its first point: a word, and behind it words joined by points
pub path_after_point : (path : List ℕ) (r : Option (Bor (List ℕ) × Bor (List ℕ))) (part behind : Bor (List ℕ)) → IsSplitOnceResult 46 path r → r ≡ Some (part, behind)
    → is_path path ≡ (is_word part.now && is_path behind.now)
path_after_point path r part behind cut found =
    let at = rw found at (split_once_first 46 path r cut (omega arith)) in
    let front = at.1 in
    let back = at.2 in
    let parts : parts_of path ≡ before_first is_point path ∷ slice_split is_point (after_first is_point path) = parts_split path ∙ slice_split_first is_point path 0 at.0 in
    rw (front, back, parts, parts_split (after_first is_point path)) refl

-- a path without a point is a word
pub path_without_point : (path : List ℕ) (r : Option (Bor (List ℕ) × Bor (List ℕ))) → IsSplitOnceResult 46 path r → r ≡ None → is_path path ≡ is_word path
path_without_point path r cut none =
    let at : position_or_len is_point path ≡ length path = rw none at (split_once_first 46 path r cut (omega arith)) in
    let parts : parts_of path ≡ path ∷ [] = parts_split path ∙ slice_split_none is_point path (λ k d h. fails_before_first is_point path k d (omega arith)) in
    rw parts (grind arith)

-- ---- types

-- behind brackets stands a type
pub type_behind : (kind rest : List ℕ) → kind ≡ codes "[]" ++ rest → is_type_text kind ≡ is_type_text rest
unfolding is_type_text is_behind_bracket
type_behind kind rest is = ap is_type_text is

-- what a bracket begins is no name
no_name : (cs : List ℕ) → is_plain_type (91 ∷ cs) ≡ false
unfolding parts_of
no_name cs = by_parts (parts_of cs) refl
  where
    by_parts : (ps : List (List ℕ)) → parts_of cs ≡ ps → is_plain_type (91 ∷ cs) ≡ false
    by_parts [] are = rw are refl
    by_parts (p ∷ ps) are = rw are refl

-- where no brackets stand in front, a type is one by its name
pub type_alone : (kind : List ℕ) → ((rest : List ℕ) → kind ≡ codes "[]" ++ rest → ⊥) → is_type_text kind ≡ is_plain_type kind
unfolding is_type_text is_behind_bracket parts_of
type_alone [] free = refl
type_alone (c ∷ cs) free = by_first (c == 91) refl
  where
    inside : (ds : List ℕ) → ((rest : List ℕ) → 91 ∷ ds ≡ codes "[]" ++ rest → ⊥) → is_behind_bracket ds ≡ false
    inside [] none = refl
    inside (d ∷ ds) none = by_second (d == 93) refl
      where
        by_second : (b : Bool) → (d == 93) ≡ b → (if b then is_type_text ds else false) ≡ false
        by_second true same = absurd (none ds (ap (λ x. 91 ∷ (x ∷ ds)) (eqb-true d 93 same)))
        by_second false other = refl

    by_first : (b : Bool) → (c == 91) ≡ b → (if b then is_behind_bracket cs else is_plain_type (c ∷ cs)) ≡ is_plain_type (c ∷ cs)
    by_first true same =
        let first : c ≡ 91 = eqb-true c 91 same in
        inside cs (λ rest e. free rest (ap (λ x. x ∷ cs) first ∙ e)) ∙ sym (ap (λ x. is_plain_type (x ∷ cs)) first ∙ no_name cs)
    by_first false other = refl
