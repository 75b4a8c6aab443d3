-- Where a text of a line says one line at most, a text has one verdict at most.
use Rattle.std.proofs.Common.{◌≡◌, ℕ, Bool, true, false, List, [], ◌∷◌, Option, None, Some, Result, inl, inr, sym, ◌∙◌, subst}
use Rattle.uno_model.specs.Entities.{Entity}
use Rattle.plan_model.specs.Building.{behind}
use Rattle.plan_model.specs.Contexts.{Context}
use Rattle.plan_model.specs.Keeps.{reason_of, SaysOne, Wrong, ByReason, Comes, ByFront, is_too_large, IsVerdict}
use Rattle.plan_model.specs.PlanText.{Numbered, lines_of, begins_plan}
use Rattle.plan_model.specs.Plans.{Plan}
use Rattle.plan_model.specs.declared.line_reason.LineReason.{LineReason}

by_one_reason : (r : Option LineReason) (n : ℕ) (out other : Result Plan Wrong) (Behind OtherBehind : Type 0) → (Behind → OtherBehind → out ≡ other)
    → ByReason r n out Behind → ByReason r n other OtherBehind → out ≡ other
by_one_reason (Some why) n out other Behind OtherBehind same p q = p ∙ sym q
by_one_reason None n out other Behind OtherBehind same p q = same p q

lines_have_one : (reg : List Entity) → SaysOne reg → (last : ℕ) (c : Context) (ns : List Numbered) (out other : Result Plan Wrong)
    → Comes reg last c ns out → Comes reg last c ns other → out ≡ other
unfolding Comes
lines_have_one reg one last c [] out other p q = p ∙ sym q
lines_have_one reg one last c (n ∷ ns) out other (inl p) (inl q) = p.1 ∙ sym q.1
lines_have_one reg one last c (n ∷ ns) out other (inl p) (inr (l, said, by)) = absurd (p.0 l said)
lines_have_one reg one last c (n ∷ ns) out other (inr (l, said, by)) (inl q) = absurd (q.0 l said)
lines_have_one reg one last c (n ∷ ns) out other (inr (l, said, by)) (inr (m, told, to)) =
    let e : m ≡ l = one n.text m l told said in
    let to' : ByReason (reason_of reg c l) n.number other (Comes reg last (behind reg l c) ns other) =
    subst (λ x. ByReason (reason_of reg c x) n.number other (Comes reg last (behind reg x c) ns other)) e to in
    by_one_reason (reason_of reg c l) n.number out other _ _ (lines_have_one reg one last (behind reg l c) ns out other) by to'

fronts_have_one : (large begins : Bool) (out other : Result Plan Wrong) (Behind OtherBehind : Type 0) → (Behind → OtherBehind → out ≡ other)
    → ByFront large begins out Behind → ByFront large begins other OtherBehind → out ≡ other
fronts_have_one true begins out other Behind OtherBehind same p q = p ∙ sym q
fronts_have_one false false out other Behind OtherBehind same p q = p ∙ sym q
fronts_have_one false true out other Behind OtherBehind same p q = same p q

pub texts_have_one : (reg : List Entity) (text : List ℕ) (out other : Result Plan Wrong) → SaysOne reg → IsVerdict reg text out → IsVerdict reg text other → out ≡ other
texts_have_one reg text out other one p q =
    fronts_have_one (is_too_large text) (begins_plan (lines_of text)) out other _ _ (lines_have_one reg one _ _ _ out other) p q
