-- What the verdict on a text finds is the value of which the text is the literal.
use Rattle.std.proofs.Common.{◌≡◌, ℕ, suc, List, [], ◌∷◌, length, ◌-◌, true, Result, Ok, Err, ◌⊎◌, inl, inr, refl, sym, ap, subst, ◌∙◌}
use Rattle.std.proofs.lemmas.List.{append-nil}
use Rattle.std.specs.List.{list_all}
use Rattle.literal_model.proofs.ScanLaws.{AreTokens, tokens_sound}
use Rattle.literal_model.proofs.CompleteLaws.{Comes, within_comes}
use Rattle.literal_model.proofs.ShapeLaws.{literal_tokens}
use Rattle.literal_model.proofs.TypedLaws.{bare, within_sound}
use Rattle.uno_model.specs.Entities.{Entity}
use Rattle.uno_model.specs.Kinds.{Kind}
use Rattle.literal_model.specs.Literals.{IsLiteral, print, spells, tokens_of}
use Rattle.literal_model.specs.Readings.{Fault, deep, misfit, value_within}
use Rattle.literal_model.specs.Shapes.{Placed, value, judge}
use Rattle.uno_model.specs.Sound.{IsSound, is_named}
use Rattle.uno_model.specs.Spellable.{IsSpellable}
use Rattle.uno_model.specs.Values.{Plain}
use Rattle.literal_model.specs.Verdicts.{Wrong, too_deep, bad, wrong_type, deepest, verdict_at_end, of_reading, verdict}

wrong_or_right : {Y : Type 0} (w : Wrong) (y : Y) → Err w ≡ Ok y → ⊥
wrong_or_right w y e = cc

pub found_is_literal : (reg : List Entity) (k : Kind) (text : List ℕ) (v : Plain) → list_all is_named reg ≡ true → verdict reg k text ≡ Ok v → IsLiteral reg k text v
found_is_literal reg k text v named_all e = by_judgement (judge reg text) refl
  where
    by_rest : (ps : List Placed) (x : Plain) (rest : List Placed) → AreTokens reg text ps → value_within deepest reg k ps ≡ Ok (x, rest)
        → verdict_at_end (length text) (x, rest) ≡ Ok v → IsLiteral reg k text v
    by_rest ps x [] are read says =
        let same : x ≡ v = cc in
        let is = within_sound deepest reg k ps [] x are.typed read in
        let whole : text ≡ print reg x = are.spelled ∙ ap spells (is.spelled ∙ append-nil (tokens_of reg x)) in
        subst (λ y. IsLiteral reg k text y) same (record { fits = is.fits; closed = is.closed; printed = whole })
    by_rest ps x (p ∷ rest) are read says = absurd (wrong_or_right (wrong_type (length text - p.left)) v says)

    by_reading : (ps : List Placed) (m : Result (Plain × List Placed) Fault) → AreTokens reg text ps → value_within deepest reg k ps ≡ m
        → of_reading (length text) m ≡ Ok v → IsLiteral reg k text v
    by_reading ps (Ok x) are read says = by_rest ps x.0 x.1 are read says
    by_reading ps (Err deep) are read says = absurd (wrong_or_right too_deep v says)
    by_reading ps (Err (misfit left)) are read says = absurd (wrong_or_right (wrong_type (length text - left)) v says)

    by_judgement : (m : Result (List Placed) ℕ) → judge reg text ≡ m → IsLiteral reg k text v
    by_judgement (Ok ps) judged = by_reading ps (value_within deepest reg k ps) (tokens_sound (suc (length text)) reg value [] text ps named_all judged) refl (rw judged at e)
    by_judgement (Err left) judged = absurd (wrong_or_right (bad (length text - left)) v (rw judged at e))

-- the value of which a text is the literal is the one that is found, unless it is nested too deep
pub literal_is_found : (reg : List Entity) (k : Kind) (text : List ℕ) (v : Plain) → IsSound reg → IsLiteral reg k text v → IsSpellable v
    → (verdict reg k text ≡ Ok v) ⊎ (verdict reg k text ≡ Err too_deep)
literal_is_found reg k text v sound is spellable =
    let at = literal_tokens reg v k sound is.fits is.closed spellable in
    let judged : judge reg text ≡ Ok at.0 = ap (judge reg) is.printed ∙ at.2 in
    let come = within_comes deepest reg sound.differ k v at.0 [] is.fits is.closed spellable (at.1 ∙ sym (append-nil (tokens_of reg v))) in
    by_reading at.0 judged come
  where
    by_rest : (ps rs : List Placed) → judge reg text ≡ Ok ps → bare rs ≡ [] → value_within deepest reg k ps ≡ Ok (v, rs) → verdict reg k text ≡ Ok v
    by_rest ps [] judged none_behind read = rw (judged, read) refl
    by_rest ps (r ∷ rs) judged none_behind read = let bad : ⊥ = cc in absurd bad

    by_reading : (ps : List Placed) → judge reg text ≡ Ok ps → Comes (value_within deepest reg k ps) v [] → (verdict reg k text ≡ Ok v) ⊎ (verdict reg k text ≡ Err too_deep)
    by_reading ps judged (inl deeper) = inr (rw (judged, deeper) refl)
    by_reading ps judged (inr one) = inl (by_rest ps one.0 judged one.1 one.2)
