-- What comes of lines, one after the other.
use Rattle.std.proofs.Common.{◌≡◌, ℕ, length, subst, IsTrue, suc, ◌+◌, true, false, List, [], ◌∷◌, Result, Option, None, Some, refl, sym, ap, ◌∙◌, arith}
use Rattle.plan_model.specs.Building.{behind}
use Rattle.plan_model.specs.Contexts.{Context}
use Rattle.plan_model.specs.Keeps.{at_end, reason_of, Wrong}
use Rattle.plan_model.specs.Lines.{Line}
use Rattle.plan_model.specs.Plans.{Plan}
use Rattle.plan_model.specs.PlanText.{Numbered, lines_of, said_from, behind_blanks, is_skipped}
use Rattle.plan_model.specs.declared.line_reason.LineReason.{LineReason}
use Rattle.plan_model.specs.declared.line_reason.LineReason.TheVariants.{Form}
use Rattle.plan_reading_model.specs.LineReading.{line_at}
use Rattle.plan_reading_model.specs.TextReading.{comes, wrong}
use Rattle.plan_model.specs.Forms.{is_line}
use Rattle.plan_reading_model.proofs.LineLaws.{line_back}
use Rattle.uno_model.specs.Entities.{Entity}
use Rattle.behaviour_text.specs.Reasons.{WrongBy}
use Rattle.behaviour_text.specs.Reading.{Reads}
use Rattle.plan_checks.specs.declared.line_error.LineError.{LineError}
use Rattle.plan_checks.specs.declared.line_error.LineError.TheVariants as error
use Rattle.plan_types.specs.declared.plan.Plan as rust
use Rattle.behaviour_text.specs.declared.error.PlanError.{PlanError}

-- ---- lines that say something, and others

module _ (reg : List Entity) (last n : ℕ) (l text : List ℕ) (ls : List (List ℕ)) (c : Context) (same : text ≡ behind_blanks l) where
  pub skips : true ≡ is_skipped text → comes reg last c (said_from n (l ∷ ls)) ≡ comes reg last c (said_from (suc n) ls)
  unfolding said_from
  skips skipped = rw (← same, ← skipped) refl

  pub says : false ≡ is_skipped text → comes reg last c (said_from n (l ∷ ls)) ≡ comes reg last c (record { number = n; text = text } ∷ said_from (suc n) ls)
  unfolding said_from
  says said = rw (← same, ← said) refl

-- ---- one line, and those behind it

module _ (reg : List Entity) (last n : ℕ) (text : List ℕ) (c : Context) (ns : List Numbered) where
  abbrev pub all : Result Plan Wrong
  all = comes reg last c (record { number = n; text = text } ∷ ns)

  pub reads_none : line_at reg text ≡ None → all ≡ wrong n Form
  unfolding comes
  reads_none none = rw none refl

  pub reads_wrong : (l : Line) (why : LineReason) → line_at reg text ≡ Some l → reason_of reg c l ≡ Some why → all ≡ wrong n why
  unfolding comes
  reads_wrong l why is reason = rw (is, reason) refl

  pub reads_wrong_by : (l : Line) (e : LineError) (why : LineReason) → line_at reg text ≡ Some l → e ≡ error.Wrong why → WrongBy e (reason_of reg c l) → all ≡ wrong n why
  reads_wrong_by l e why is same reason = reads_wrong l why is (subst (λ x. WrongBy x (reason_of reg c l)) same reason)

  pub reads_right : (l : Line) (d : Context) → line_at reg text ≡ Some l → reason_of reg c l ≡ None → d ≡ behind reg l c → all ≡ comes reg last d ns
  unfolding comes
  reads_right l d is reason here = rw (is, reason, here) refl

pub at_registry : (reg words : List Entity) (text : List ℕ) (found wanted : Option Line) → found ≡ line_at words text → words ≡ reg → found ≡ wanted → line_at reg text ≡ wanted
at_registry reg words text found wanted reads same is = ap (λ r. line_at r text) (sym same) ∙ sym reads ∙ is

pub well_formed : (reg words : List Entity) (text : List ℕ) (l : Line) (found : Option Line) → found ≡ line_at words text → words ≡ reg → found ≡ Some l → IsTrue (is_line reg l)
well_formed reg words text l found reads same is = (line_back reg text l (at_registry reg words text found (Some l) reads same is)).formed

-- ---- all lines

pub next_line : (reg : List Entity) (last n m : ℕ) (old new : Context) (rest line behind : List ℕ) (all : Result Plan Wrong) → lines_of rest ≡ line ∷ lines_of behind → m ≡ n + 1
    → ((at : ℕ) (ls : List (List ℕ)) → comes reg at old (said_from m (line ∷ ls)) ≡ comes reg at new (said_from (suc m) ls))
    → all ≡ comes reg last old (said_from (n + 1) (lines_of rest)) → all ≡ comes reg last new (said_from (m + 1) (lines_of behind))
next_line reg last n m old new rest line behind all cut next on so_far =
    let further : suc m ≡ m + 1 = omega arith in
    so_far ∙ ap (λ k. comes reg last old (said_from k (lines_of rest))) (sym next) ∙ ap (λ ls. comes reg last old (said_from m ls)) cut ∙ on last (lines_of behind)
    ∙ ap (λ k. comes reg last new (said_from k (lines_of behind))) further

pub none_left : (reg : List Entity) (last n : ℕ) (c : Context) (rest : List ℕ) (all : Result Plan Wrong) → rest ≡ [] → last ≡ n + length (lines_of rest)
    → all ≡ comes reg last c (said_from (n + 1) (lines_of rest)) → all ≡ at_end n c
unfolding comes said_from lines_of
none_left reg last n c rest all none count so_far =
    let same : last ≡ n = (rw none at count) ∙ omega arith in
    (rw none at so_far) ∙ ap (λ k. at_end k c) same

pub reads_so : (r : Result rust.Plan PlanError) (v w : Result Plan Wrong) → v ≡ w → Reads r w → Reads r v
reads_so r v w same reads = subst (Reads r) (sym same) reads
