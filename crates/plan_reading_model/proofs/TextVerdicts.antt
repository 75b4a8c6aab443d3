-- The verdict that is read of a text is the one that the grammar gives it.
use Rattle.std.proofs.Common.{◌≡◌, ℕ, Bool, true, false, List, [], ◌∷◌, length, Option, None, Some, Result, inl, inr, refl, sym, ap, ◌∙◌}
use Rattle.std.specs.List.{list_all}
use Rattle.uno_model.proofs.Options.{none_some}
use Rattle.uno_model.specs.Entities.{Entity}
use Rattle.uno_model.specs.Sound.{is_named}
use Rattle.plan_model.specs.Building.{behind}
use Rattle.plan_model.specs.Contexts.{Context, opening}
use Rattle.plan_model.specs.Keeps.{reason_of, Says, SaysNothing, Wrong, ByReason, Comes, ByFront, is_too_large, IsVerdict}
use Rattle.plan_model.specs.Lines.{Line}
use Rattle.plan_model.specs.Plans.{Plan}
use Rattle.plan_model.specs.PlanText.{Numbered, lines_of, begins_plan, lines_behind}
use Rattle.plan_model.specs.declared.line_reason.LineReason.{LineReason}
use Rattle.plan_reading_model.specs.LineReading.{line_at}
use Rattle.plan_reading_model.specs.TextReading.{or_behind, comes, verdict_by, verdict}
use Rattle.plan_reading_model.proofs.LineLaws.{line_said, line_back}

-- ---- lines

-- a text says the line that is read of it, and no other
pub says_read : (reg : List Entity) (text : List ℕ) (l : Line) → list_all is_named reg ≡ true → Says reg text l → line_at reg text ≡ Some l
says_read reg text l named says = ap (line_at reg) says.spelled ∙ line_said reg l named says.formed

pub none_read : (reg : List Entity) (text : List ℕ) → list_all is_named reg ≡ true → line_at reg text ≡ None → SaysNothing reg text
none_read reg text named none l says = none_some (sym none ∙ says_read reg text l named says)

pub read_none : (reg : List Entity) (text : List ℕ) → SaysNothing reg text → line_at reg text ≡ None
read_none reg text nothing = by_read (line_at reg text) refl
  where
    by_read : (o : Option Line) → line_at reg text ≡ o → line_at reg text ≡ None
    by_read None is = is
    by_read (Some l) is = absurd (nothing l (line_back reg text l is))

-- ---- what comes of lines

reason_forth : (r : Option LineReason) (n : ℕ) (out later : Result Plan Wrong) (Behind : Type 0) → (Behind → later ≡ out)
    → ByReason r n out Behind → or_behind n r later ≡ out
reason_forth (Some why) n out later Behind more by = sym by
reason_forth None n out later Behind more by = more by

reason_back : (r : Option LineReason) (n : ℕ) (out later : Result Plan Wrong) (Behind : Type 0) → (later ≡ out → Behind)
    → or_behind n r later ≡ out → ByReason r n out Behind
reason_back (Some why) n out later Behind more is = sym is
reason_back None n out later Behind more is = more is

lines_forth : (reg : List Entity) → list_all is_named reg ≡ true → (last : ℕ) (c : Context) (ns : List Numbered) (out : Result Plan Wrong)
    → Comes reg last c ns out → comes reg last c ns ≡ out
unfolding Comes comes
lines_forth reg named last c [] out is = sym is
lines_forth reg named last c (n ∷ ns) out (inl (nothing, is)) = rw (read_none reg n.text nothing) (sym is)
lines_forth reg named last c (n ∷ ns) out (inr (l, says, by)) =
    rw (says_read reg n.text l named says)
    (reason_forth (reason_of reg c l) n.number out (comes reg last (behind reg l c) ns) (Comes reg last (behind reg l c) ns out)
    (lines_forth reg named last (behind reg l c) ns out) by)

lines_back : (reg : List Entity) → list_all is_named reg ≡ true → (last : ℕ) (c : Context) (ns : List Numbered) (out : Result Plan Wrong)
    → comes reg last c ns ≡ out → Comes reg last c ns out
unfolding Comes comes
lines_back reg named last c [] out is = sym is
lines_back reg named last c (n ∷ ns) out is = by_read (line_at reg n.text) refl (λ l. lines_back reg named last (behind reg l c) ns out) is
  where
    by_read : (o : Option Line) → line_at reg n.text ≡ o
        → ((l : Line) → comes reg last (behind reg l c) ns ≡ out → Comes reg last (behind reg l c) ns out)
        → comes reg last c (n ∷ ns) ≡ out → Comes reg last c (n ∷ ns) out
    by_read None none later is = inl (none_read reg n.text named none, sym (rw none at is))
    by_read (Some l) some later is =
        inr (
          l,
          line_back reg n.text l some,
          reason_back (reason_of reg c l) n.number out (comes reg last (behind reg l c) ns) (Comes reg last (behind reg l c) ns out) (later l) (rw some at is),
        )

-- ---- texts

front_forth : (reg : List Entity) (large begins : Bool) (ls : List (List ℕ)) (out : Result Plan Wrong) (Behind : Type 0)
    → (Behind → comes reg (length ls) opening (lines_behind ls) ≡ out) → ByFront large begins out Behind → verdict_by reg large begins ls ≡ out
front_forth reg true begins ls out Behind more is = sym is
front_forth reg false false ls out Behind more is = sym is
front_forth reg false true ls out Behind more is = more is

front_back : (reg : List Entity) (large begins : Bool) (ls : List (List ℕ)) (out : Result Plan Wrong) (Behind : Type 0)
    → (comes reg (length ls) opening (lines_behind ls) ≡ out → Behind) → verdict_by reg large begins ls ≡ out → ByFront large begins out Behind
front_back reg true begins ls out Behind more is = sym is
front_back reg false false ls out Behind more is = sym is
front_back reg false true ls out Behind more is = more is

pub verdict_read : (reg : List Entity) (text : List ℕ) (out : Result Plan Wrong) → list_all is_named reg ≡ true → IsVerdict reg text out → verdict reg text ≡ out
unfolding verdict
verdict_read reg text out named is =
    front_forth reg (is_too_large text) (begins_plan (lines_of text)) (lines_of text) out
    (Comes reg (length (lines_of text)) opening (lines_behind (lines_of text)) out)
    (lines_forth reg named (length (lines_of text)) opening (lines_behind (lines_of text)) out) is

pub read_verdict : (reg : List Entity) (text : List ℕ) (out : Result Plan Wrong) → list_all is_named reg ≡ true → verdict reg text ≡ out → IsVerdict reg text out
unfolding verdict
read_verdict reg text out named is =
    front_back reg (is_too_large text) (begins_plan (lines_of text)) (lines_of text) out
    (Comes reg (length (lines_of text)) opening (lines_behind (lines_of text)) out)
    (lines_back reg named (length (lines_of text)) opening (lines_behind (lines_of text)) out) is
