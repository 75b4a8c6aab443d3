-- The line of the first rule that a text breaks, from the places at which the tests of the rules find it.
use Rattle.std.proofs.Common.{◌≡◌, ℕ, zero, suc, ◌<◌, Bool, false, List, [], ◌∷◌, ◌++◌, take, drop, None, Some, Contains}
use Rattle.std.proofs.Common.{refl, sym, ap, subst, ◌∙◌, arith}
use Rattle.std.specs.List.{list_any, position}
use Rattle.std.specs.Prelude.{slice_get}
use Rattle.std.proofs.lemmas.List.Quantifiers.{position-Some}
use Rattle.std.proofs.lemmas.Option.{get_or_from_slice_get}
use Rattle.uno_model.specs.Entities.{Entity}
use Rattle.uno_model.proofs.Options.{same_some}
use Rattle.uno_model.proofs.PlaceLaws.{contains_head, contains_behind}
use Rattle.registry_text_model.specs.Reading.{BreaksRule}
use Rattle.registry_text_model.specs.Rules as r
use Rattle.registry_text_model.specs.Rules.{Rule, number_of}
use Rattle.registry_reading_model.specs.Heads.{Head, head_named}
use Rattle.registry_reading_model.specs.Whole.{ReadWhole}
use Rattle.registry_reading_model.proofs.FinalLaws.{breaks, has_head, breaks_values}
use Rattle.registry_reading_model.proofs.RulePlaces.{BreaksAtPlace, LesserKept, no_position}

-- ---- values beyond those of `long`

-- what passes first stands behind what does not pass
split_at : {X : Type 0} (xs : List X) (place : ℕ) (x : X) → slice_get xs place ≡ Some x → xs ≡ take place xs ++ x ∷ drop (suc place) xs
split_at [] place x at = let worse : ⊥ = cc in absurd worse
split_at (y ∷ ys) zero x at = ap (λ z. z ∷ ys) (same_some at)
split_at (y ∷ ys) (suc place) x at = ap (λ zs. y ∷ zs) (split_at ys place x at)

none_before : {X : Type 0} (p : X → Bool) (xs : List X) (place : ℕ) → ((i : ℕ) (x : X) → i < place → slice_get xs i ≡ Some x → p x ≡ false)
    → list_any p (take place xs) ≡ false
none_before p xs zero each = refl
none_before p [] (suc place) each = refl
none_before p (x ∷ xs) (suc place) each =
    rw (each 0 x (omega arith) refl) (none_before p xs place (λ i y low at. each (suc i) y (omega (arith, low)) at))

-- no value is beyond where no header says so
pub none_beyond_found : (heads : List Head) → position (λ h. h.beyond) heads ≡ None → list_any (λ h. h.beyond) heads ≡ false
none_beyond_found heads none = none_in heads (no_position (λ (h : Head). h.beyond) heads none)
  where
    none_in : (hs : List Head) → ((h : Head) → Contains hs h → h.beyond ≡ false) → list_any (λ h. h.beyond) hs ≡ false
    none_in [] each = refl
    none_in (h ∷ hs) each = rw (each h (contains_head h hs)) (none_in hs (λ g there. each g (contains_behind h hs g there)))

-- the first header that says so is that of the first entity that breaks the rule on items
pub beyond_at : (bytes : List ℕ) (heads : List Head) (reg : List Entity) → ReadWhole bytes heads reg → LesserKept reg r.values
    → (place : ℕ) (h : Head)
    → slice_get heads place ≡ Some h → position (λ g. g.beyond) heads ≡ Some place → BreaksRule bytes r.values h.line
beyond_at bytes heads reg read least place h at found =
    let first = position-Some (λ (g : Head). g.beyond) heads place h found in
    breaks_values bytes heads reg read least (take place heads) h (drop (suc place) heads) (split_at heads place h at)
    (none_before (λ (g : Head). g.beyond) heads place (λ i g low there.
    sym (ap (λ (f : Head). f.beyond) (get_or_from_slice_get heads i g g there))
    ∙ (position-Some (λ (f : Head). f.beyond) heads place g found).2 i low))
    (sym (ap (λ (g : Head). g.beyond) (get_or_from_slice_get heads place h h at)) ∙ first.1)

-- ---- the other rules

-- the header of the entity by which a rule is broken first
pub head_at : (bytes : List ℕ) (heads : List Head) (reg : List Entity) → ReadWhole bytes heads reg → (rule : Rule)
    → (number_of r.values < number_of rule → list_any (λ h. h.beyond) heads ≡ false) → (place : ℕ) (k : Entity) → slice_get reg place ≡ Some k
    → BreaksAtPlace reg rule place → (h : Head) × (head_named k.name heads ≡ Some h)
head_at bytes heads reg read rule none place k at (e, there, first) =
    has_head bytes heads reg read rule none k (subst (r.BreaksFirst reg rule) (same_some (sym there ∙ at)) first)

pub line_at : (bytes : List ℕ) (heads : List Head) (reg : List Entity) → ReadWhole bytes heads reg → (rule : Rule)
    → (number_of r.values < number_of rule → list_any (λ h. h.beyond) heads ≡ false) → (place : ℕ) (k : Entity) → slice_get reg place ≡ Some k
    → BreaksAtPlace reg rule place → (h : Head) → head_named k.name heads ≡ Some h → BreaksRule bytes rule h.line
line_at bytes heads reg read rule none place k at (e, there, first) =
    breaks bytes heads reg read rule none k (subst (r.BreaksFirst reg rule) (same_some (sym there ∙ at)) first)
