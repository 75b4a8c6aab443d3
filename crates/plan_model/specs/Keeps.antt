-- The rules of plans: the reason for which a line is wrong behind those before it, which plans keep the rules, and what comes of a text.
use Rattle.std.specs.Prelude.{◌≡◌, ℕ, suc, ◌⊎◌, Bool, true, false, not, ◌&&◌, nat_lt, IsTrue, List, [], ◌∷◌, length, Option, None, Some, Result, Ok, Err, if◌then◌else◌}
use Rattle.std.specs.Option.{option_map}
use Rattle.uno_model.specs.Entities.{Entity}
use Rattle.plan_model.specs.Building.{behind, behind_all}
use Rattle.plan_model.specs.Contexts.{Context, Block, at_top, opening}
use Rattle.plan_model.specs.Fitting.{all_fits}
use Rattle.plan_model.specs.Forms.{is_line}
use Rattle.plan_model.specs.KnownNames.{names_are_known}
use Rattle.plan_model.specs.Limits.{keeps_limits}
use Rattle.plan_model.specs.LinePlaces.{may_stand}
use Rattle.plan_model.specs.Lines.{Line}
use Rattle.plan_model.specs.NewNames.{names_are_new}
use Rattle.plan_model.specs.PlanText.{line_text, lines_of, Numbered, begins_plan, lines_behind}
use Rattle.plan_model.specs.Plans.{Plan}
use Rattle.plan_model.specs.declared.line_reason.LineReason.{LineReason}
use Rattle.plan_model.specs.declared.line_reason.LineReason.TheVariants.{Form, Unknown, Twice, Misfit, Limit, Open}

-- ---- the reason for which a line is wrong

-- spelled as a line, and at a place where it may stand
unfoldable pub has_form : List Entity → Context → Line → Bool
has_form reg c l = is_line reg l && may_stand c.block l

-- the first of the reasons, in the order in which they count
unfoldable pub reason_of : List Entity → Context → Line → Option LineReason
reason_of reg c l =
    if not (has_form reg c l) then Some Form
    else (if not (names_are_known reg c l) then Some Unknown
    else (if not (names_are_new c l) then Some Twice
    else (if not (all_fits reg c l) then Some Misfit
    else (if not (keeps_limits c l) then Some Limit
    else None))))

-- the first line that is wrong, by its place among the lines from 0
abbrev pub or_later : Option LineReason → Option (ℕ × LineReason) → Option (ℕ × LineReason)
or_later (Some why) later = Some (0, why)
or_later None later = option_map (λ x. (suc x.0, x.1)) later

unfoldable pub first_wrong : List Entity → Context → List Line → Option (ℕ × LineReason)
first_wrong reg c [] = None
first_wrong reg c (l ∷ ls) = or_later (reason_of reg c l) (first_wrong reg (behind reg l c) ls)

-- ---- plans that keep the rules

-- lines behind others, none of which is wrong, and at whose end no block is open, make a plan
pub record Makes (reg : List Entity) (c : Context) (p : Plan) : Type 0 where
  pub lines : List Line
  pub right : first_wrong reg c lines ≡ None
  pub closed : (behind_all reg lines c).block ≡ at_top
  pub made : (behind_all reg lines c).plan ≡ p

abbrev pub KeepsTheRules : List Entity → Plan → Type 0
KeepsTheRules reg p = Makes reg opening p

-- ---- what comes of a text

-- the text says this line
pub record Says (reg : List Entity) (text : List ℕ) (l : Line) : Type 0 where
  pub spelled : text ≡ line_text l
  pub formed : IsTrue (is_line reg l)

abbrev pub SaysNothing : List Entity → List ℕ → Type 0
SaysNothing reg text = (l : Line) → Says reg text l → ⊥

-- no text says two lines
abbrev pub SaysOne : List Entity → Type 0
SaysOne reg = (text : List ℕ) (l m : Line) → Says reg text l → Says reg text m → l ≡ m

-- a line that is wrong, by its number in the text, and why
pub record Wrong : Type 0 where
  pub line : ℕ
  pub reason : LineReason

-- behind the last line: the plan, where no block is open
abbrev pub end_of : ℕ → Plan → Block → Result Plan Wrong
end_of last p at_top = Ok p
end_of last p b = Err (record { line = last; reason = Open })

abbrev pub at_end : ℕ → Context → Result Plan Wrong
at_end last c = end_of last c.plan c.block

-- a line that is not wrong hands on to those behind it
abbrev pub ByReason : Option LineReason → ℕ → Result Plan Wrong → Type 0 → Type 0
ByReason (Some why) n out Behind = out ≡ Err (record { line = n; reason = why })
ByReason None n out Behind = Behind

-- what comes of the lines that are left of a text, whose last line has this number
unfoldable pub Comes : List Entity → ℕ → Context → List Numbered → Result Plan Wrong → Type 0
Comes reg last c [] out = out ≡ at_end last c
Comes reg last c (n ∷ ns) out =
    (SaysNothing reg n.text × (out ≡ Err (record { line = n.number; reason = Form })))
    ⊎ ((l : Line) × Says reg n.text l × ByReason (reason_of reg c l) n.number out (Comes reg last (behind reg l c) ns out))

-- a plan has at most so many bytes
unfoldable pub is_too_large : List ℕ → Bool
is_too_large text = nat_lt 4194304 (length text)

-- what comes of a text: its plan, or the first line that is wrong; a text that is too large is wrong at line 0, and the first line has to be `unoplan 1`
abbrev pub ByFront : (too_large begins : Bool) → Result Plan Wrong → Type 0 → Type 0
ByFront true begins out Behind = out ≡ Err (record { line = 0; reason = Limit })
ByFront false false out Behind = out ≡ Err (record { line = 1; reason = Form })
ByFront false true out Behind = Behind

abbrev pub IsVerdict : List Entity → List ℕ → Result Plan Wrong → Type 0
IsVerdict reg text out =
    ByFront (is_too_large text) (begins_plan (lines_of text)) out (Comes reg (length (lines_of text)) opening (lines_behind (lines_of text)) out)

-- the text is that of this plan
abbrev pub IsTextOf : List Entity → List ℕ → Plan → Type 0
IsTextOf reg text p = IsVerdict reg text (Ok p)
