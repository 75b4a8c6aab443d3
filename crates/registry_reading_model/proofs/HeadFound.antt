-- The headers of entities and the entities themselves: which is found under a name, and at which of them a value is beyond those of `long`.
use Rattle.std.proofs.Common.{◌≡◌, ℕ, Bool, true, false, not, ◌&&◌, ◌||◌, List, [], ◌∷◌, ◌++◌, map, Some, refl, sym, ap, ap₂}
use Rattle.std.proofs.Common.{◌∙◌}
use Rattle.std.specs.Cmp.Lexicographic.{slice_cmp}
use Rattle.std.specs.List.{list_all, list_any, AllByRecursion}
use Rattle.std.specs.List.Sorted.{IsStrictlySortedBy}
use Rattle.std.specs.Ordering.{nat_cmp, is_eq}
use Rattle.std.specs.Str.{bytes_eq}
use Rattle.std.specs.declared.cmp.Ordering.TheVariants.{Less}
use Rattle.std.proofs.lemmas.List.{append-nil, append_assoc}
use Rattle.std.proofs.lemmas.Map.Text.{is_eq-slice_cmp}
use Rattle.std.proofs.lemmas.Slice.Eq.{bytes_eq-Decides}
use Rattle.uno_model.specs.Entities.{Entity}
use Rattle.uno_model.specs.Registry.{IsRising}
use Rattle.uno_model.proofs.FindLaws.{same_equal}
use Rattle.registry_text_model.specs.EnumValues.{values_are_long}
use Rattle.registry_reading_model.specs.Heads.{Head, head_named}
use Rattle.registry_reading_model.proofs.HeadLaws.{heads_of, head_of_entity}

-- ---- the header of a name

-- a name is not one that is above it
pub below_differs : (x y : List ℕ) → slice_cmp nat_cmp x y ≡ Less → (bytes_eq x y ≡ false) × (bytes_eq y x ≡ false)
below_differs x y below =
    let other : bytes_eq x y ≡ false = sym (is_eq-slice_cmp x y) ∙ ap is_eq below in
    (other, by_test (bytes_eq y x) refl other)
  where
    by_test : (b : Bool) → bytes_eq y x ≡ b → bytes_eq x y ≡ false → bytes_eq y x ≡ false
    by_test false is other = is
    by_test true is other =
        let same : y ≡ x = (bytes_eq-Decides y x).0 is in
        let both : bytes_eq x y ≡ true = (bytes_eq-Decides x y).1 (sym same) in
        let worse : ⊥ = cc in
        absurd worse

-- an entity that stands behind others of rising names has a name above that of the first
first_below : (b : Entity) (before : List Entity) (e : Entity) (ys : List Entity) → IsRising (b ∷ (before ++ e ∷ ys))
    → slice_cmp nat_cmp b.name e.name ≡ Less
unfolding IsStrictlySortedBy
first_below b before e ys rising = at_end before rising.0
  where
    at_end : (xs : List Entity) → AllByRecursion (λ n. slice_cmp nat_cmp b.name n ≡ Less) (map (λ d. d.name) (xs ++ e ∷ ys))
        → slice_cmp nat_cmp b.name e.name ≡ Less
    at_end [] all = all.0
    at_end (x ∷ xs) all = at_end xs all.1

-- under the name of an entity its own header is found
pub head_found : (fs before : List Entity) (e : Entity) (ys : List Entity) → IsRising (before ++ e ∷ ys)
    → head_named e.name (heads_of fs (before ++ e ∷ ys)) ≡ Some (head_of_entity (fs ++ before) e)
unfolding head_named IsStrictlySortedBy
head_found fs [] e ys rising = rw (same_equal e.name) (ap (λ ds. Some (head_of_entity ds e)) (sym (append-nil fs)))
head_found fs (b ∷ bs) e ys rising =
    rw (below_differs b.name e.name (first_below b bs e ys rising)).1
    (head_found (fs ++ b ∷ []) bs e ys rising.1 ∙ ap (λ ds. Some (head_of_entity ds e)) (append_assoc fs (b ∷ []) bs))

-- ---- values beyond those of `long`

none_beyond : (fs es : List Entity) → list_any (λ h. h.beyond) (heads_of fs es) ≡ not (list_all values_are_long es)
none_beyond fs [] = refl
none_beyond fs (e ∷ es) =
    ap (λ b. not (values_are_long e) || b) (none_beyond (fs ++ e ∷ []) es) ∙ both (values_are_long e) (list_all values_are_long es)
  where
    both : (a b : Bool) → (not a || not b) ≡ not (a && b)
    both true b = refl
    both false b = refl

negated : (b : Bool) → not b ≡ false → b ≡ true
negated true is = refl
negated false is = let worse : ⊥ = cc in absurd worse

-- where no header says so, no value is
pub all_long_of_heads : (fs es : List Entity) → list_any (λ h. h.beyond) (heads_of fs es) ≡ false → list_all values_are_long es ≡ true
all_long_of_heads fs es none = negated (list_all values_are_long es) (sym (none_beyond fs es) ∙ none)

-- ---- headers in two parts

abbrev pub HeadsCut : List Entity → List Entity → List Head → Head → Type 0
HeadsCut fs es before h =
    (xs : List Entity) × (e : Entity) × (ys : List Entity) × (es ≡ xs ++ e ∷ ys) × (before ≡ heads_of fs xs) × (h ≡ head_of_entity (fs ++ xs) e)

one_head_further : (fs es : List Entity) (e : Entity) (g : Head) (before : List Head) (h : Head) → head_of_entity fs e ≡ g
    → HeadsCut (fs ++ e ∷ []) es before h → HeadsCut fs (e ∷ es) (g ∷ before) h
one_head_further fs es e g before h first (xs, d, ys, split, are, is) =
    (e ∷ xs, d, ys, ap (λ ds. e ∷ ds) split, ap₂ (λ x hs. x ∷ hs) (sym first) are, is ∙ ap (λ ds. head_of_entity ds d) (append_assoc fs (e ∷ []) xs))

pub heads_cut : (fs es : List Entity) (before : List Head) (h : Head) (behind : List Head) → heads_of fs es ≡ before ++ h ∷ behind
    → HeadsCut fs es before h
heads_cut fs [] [] h behind same = let worse : ⊥ = cc in absurd worse
heads_cut fs [] (g ∷ gs) h behind same = let worse : ⊥ = cc in absurd worse
heads_cut fs (e ∷ es) [] h behind same =
    let first : head_of_entity fs e ≡ h = cc in
    ([], e, es, refl, refl, sym first ∙ ap (λ ds. head_of_entity ds e) (sym (append-nil fs)))
heads_cut fs (e ∷ es) (g ∷ gs) h behind same =
    let first : head_of_entity fs e ≡ g = cc in
    let rest : heads_of (fs ++ e ∷ []) es ≡ gs ++ h ∷ behind = cc in
    one_head_further fs es e g gs h first (heads_cut (fs ++ e ∷ []) es gs h behind rest)
