-- What a reading by the verdict gives of literals.
use Rattle.std.proofs.Common.{◌≡◌, ℕ, List, Result, Ok, Err, IfOk, MatchResult, ◌⊎◌, inl, inr, refl, sym, ◌∙◌}
use Rattle.literal_model.proofs.VerdictLaws.{found_is_literal, literal_is_found}
use Rattle.uno_model.specs.Entities.{Entity}
use Rattle.uno_model.specs.Kinds.{Kind}
use Rattle.literal_model.specs.Literals.{IsLiteral}
use Rattle.uno_model.specs.Sound.{IsSound}
use Rattle.uno_model.specs.Spellable.{IsSpellable}
use Rattle.uno_model.specs.Values.{Plain}
use Rattle.literal_model.specs.Verdicts.{Wrong, too_deep, bad, wrong_type, verdict}
use Rattle.uno_values.specs.Values.{plain_of}
use Rattle.uno_values.specs.declared.value.Value.{Value}
use Rattle.literal_reading.specs.Reading.{Reads}
use Rattle.literal_reading.specs.declared.read.TextError.{TextError}
use Rattle.literal_reading.specs.declared.read.TextError.TheVariants as error

pub read_found : (reg : List Entity) (k : Kind) (text : List ℕ) (result : Result Value TextError) → IsSound reg
    → Reads plain_of result (verdict reg k text) → IfOk result (λ v. IsLiteral reg k text (plain_of v))
read_found reg k text (Ok v) sound reads = found_is_literal reg k text (plain_of v) sound.named reads
read_found reg k text (Err e) sound reads = tt

-- a verdict that is one of two is no other
no_other : (m : Result Plain Wrong) (w : Plain) (a : Wrong) → (a ≡ too_deep → ⊥) → m ≡ Err a → (m ≡ Ok w) ⊎ (m ≡ Err too_deep) → ⊥
no_other m w a other is (inl found) = let both : Err a ≡ Ok w = sym is ∙ found in cc
no_other m w a other is (inr deeper) = let both : Err a ≡ Err too_deep = sym is ∙ deeper in let same : a ≡ too_deep = cc in other same

one_found : (m : Result Plain Wrong) (v w : Plain) → m ≡ Ok v → (m ≡ Ok w) ⊎ (m ≡ Err too_deep) → v ≡ w
one_found m v w is (inl found) = let both : Ok v ≡ Ok w = sym is ∙ found in cc
one_found m v w is (inr deeper) = let both : Ok v ≡ Err too_deep = sym is ∙ deeper in let worse : ⊥ = cc in absurd worse

pub read_only : (reg : List Entity) (k : Kind) (text : List ℕ) (result : Result Value TextError) → IsSound reg
    → Reads plain_of result (verdict reg k text) → (w : Plain) → IsLiteral reg k text w → IsSpellable w
    → MatchResult result (λ v. plain_of v ≡ w) (λ e. e ≡ error.NoMemory)
read_only reg k text (Ok v) sound reads w is sized = one_found (verdict reg k text) (plain_of v) w reads (literal_is_found reg k text w sound is sized)
read_only reg k text (Err error.NoMemory) sound reads w is sized = refl
read_only reg k text (Err (error.BadLiteral place)) sound reads w is sized = absurd (no_other (verdict reg k text) w (bad place) (λ same. let worse : ⊥ = cc in worse) reads (literal_is_found reg k text w sound is sized))
read_only reg k text (Err (error.WrongType place)) sound reads w is sized = absurd (no_other (verdict reg k text) w (wrong_type place) (λ same. let worse : ⊥ = cc in worse) reads (literal_is_found reg k text w sound is sized))
