-- What comes of a text by its front: its size, and its first line.
use Rattle.std.proofs.Common.{◌≡◌, ◌≢◌, ℕ, ◌+◌, ◌<◌, ◌≤◌, suc, nat_lt, true, false, List, [], ◌∷◌, length, refl, ap, subst, arith}
use Rattle.std.specs.Prelude.{Result, Ok, Err, IfOk}
use Rattle.std.specs.Str.{bytes_eq}
use Rattle.plan_model.specs.Contexts.{opening}
use Rattle.plan_model.specs.Keeps.{is_too_large, IsTextOf, IsVerdict}
use Rattle.plan_model.specs.Plans.{Plan}
use Rattle.plan_model.specs.PlanText.{behind_blanks, first_line, lines_of, said_from}
use Rattle.plan_model.specs.declared.line_reason.LineReason.{LineReason}
use Rattle.plan_model.specs.declared.line_reason.LineReason.TheVariants.{Form, Limit}
use Rattle.plan_reading_model.proofs.TextVerdicts.{read_verdict}
use Rattle.plan_reading_model.specs.TextReading.{comes, verdict, verdict_by}
use Rattle.plan_types.specs.Plans.{plan_of}
use Rattle.plan_types.specs.declared.plan.Plan as rust
use Rattle.uno_model.specs.Entities.{Entity}
use Rattle.uno_model.specs.Sound.{IsSound}
use Rattle.behaviour_text.specs.Reading.{Reads}
use Rattle.behaviour_text.specs.declared.error.PlanError.{PlanError}
use Rattle.behaviour_text.specs.declared.error.PlanError.TheVariants as error

-- a text within the limit is not too large
small : (bytes : List ℕ) → length bytes ≤ 4194304 → is_too_large bytes ≡ false
unfolding is_too_large
small bytes within = not_less (length bytes) within
  where
    not_less : (n : ℕ) → n ≤ 4194304 → nat_lt 4194304 n ≡ false
    not_less n few = grind (arith)

-- a text behind the limit is too large
large : (bytes : List ℕ) → 4194304 < length bytes → is_too_large bytes ≡ true
unfolding is_too_large
large bytes long = is_more (length bytes) long
  where
    is_more : (n : ℕ) → 4194304 < n → nat_lt 4194304 n ≡ true
    is_more n many = grind (arith)

pub large_front : (reg : List Entity) (bytes : List ℕ) → 4194304 < length bytes → verdict reg bytes ≡ Err (record { line = 0; reason = Limit })
unfolding verdict
large_front reg bytes long = rw (large bytes long) refl

-- a first line that is another one
pub wrong_front : (reg : List Entity) (bytes first rest : List ℕ) → length bytes ≤ 4194304 → (bytes ≢ [] → lines_of bytes ≡ first ∷ lines_of rest)
    → bytes_eq (behind_blanks first) first_line ≡ false → verdict reg bytes ≡ Err (record { line = 1; reason = Form })
unfolding verdict lines_of
wrong_front reg [] first rest within cut other = nothing reg
  where
    empty_front : (r : List Entity) → verdict_by r false false [] ≡ Err (record { line = 1; reason = Form })
    empty_front r = refl

    nothing : (r : List Entity) → verdict r [] ≡ Err (record { line = 1; reason = Form })
    nothing r = rw (small [] within) (empty_front r)
wrong_front reg (c ∷ cs) first rest within cut other = rw (small (c ∷ cs) within, cut (λ e. absurd (cc)), other) refl

-- the plan's first line, and lines behind it
pub right_front : (reg : List Entity) (bytes first rest : List ℕ) → length bytes ≤ 4194304 → (bytes ≢ [] → lines_of bytes ≡ first ∷ lines_of rest) → (bytes ≡ [] → first ≡ [])
    → bytes_eq (behind_blanks first) first_line ≡ true → verdict reg bytes ≡ comes reg (1 + length (lines_of rest)) opening (said_from 2 (lines_of rest))
unfolding verdict behind_blanks
right_front reg [] first rest within cut none begins = no_front first (none refl) begins
  where
    no_front : (l : List ℕ) → l ≡ [] → bytes_eq (behind_blanks l) first_line ≡ true → verdict reg [] ≡ comes reg (1 + length (lines_of rest)) opening (said_from 2 (lines_of rest))
    no_front [] is same = absurd (cc)
    no_front (x ∷ l) is same = absurd (cc)
right_front reg (c ∷ cs) first rest within cut none begins =
    let more : suc (length (lines_of rest)) ≡ 1 + length (lines_of rest) = omega arith in
    rw (small (c ∷ cs) within, cut (λ e. absurd (cc)), begins) (ap (λ n. comes reg n opening (said_from 2 (lines_of rest))) more)

-- behind a plan's first line stands less than the text
pub rest_within : (bytes first rest : List ℕ) → length bytes ≤ 4194304 → (bytes ≢ [] → length rest < length bytes) → (bytes ≡ [] → first ≡ [])
    → bytes_eq (behind_blanks first) first_line ≡ true → length rest ≤ 4194304
unfolding behind_blanks
rest_within [] first rest within less none begins = no_front first (none refl) begins
  where
    no_front : (l : List ℕ) → l ≡ [] → bytes_eq (behind_blanks l) first_line ≡ true → length rest ≤ 4194304
    no_front [] is same = absurd (cc)
    no_front (x ∷ l) is same = absurd (cc)
rest_within (c ∷ cs) first rest within less none begins =
    let fewer : length rest < length (c ∷ cs) = less (λ e. absurd (cc)) in
    omega (arith, within, fewer)

-- ---- what is read is what the rules say of the text

module _ (reg : List Entity) (text : List ℕ) (r : Result rust.Plan PlanError) (sound : IsSound reg) (reads : Reads r (verdict reg text)) where
  pub plan_read : IfOk r (λ p. IsTextOf reg text (plan_of p))
  plan_read = of r reads
    where
      of : (answer : Result rust.Plan PlanError) → Reads answer (verdict reg text) → IfOk answer (λ p. IsTextOf reg text (plan_of p))
      of (Ok p) is = read_verdict reg text (Ok (plan_of p)) sound.named is
      of (Err e) is = tt

  pub refusal_read : (n : ℕ) (why : LineReason) → r ≡ Err (error.BadLine n why) → IsVerdict reg text (Err (record { line = n; reason = why }))
  refusal_read n why is = read_verdict reg text (Err (record { line = n; reason = why })) sound.named (subst (λ answer. Reads answer (verdict reg text)) is reads)
