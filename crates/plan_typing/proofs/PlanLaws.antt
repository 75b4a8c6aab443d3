-- Every plan that keeps the rules is typed.
use Rattle.std.proofs.Common.{◌≡◌, refl, sym, ap, ◌∙◌, ℕ, suc, Bool, true, false, not, ◌&&◌, List, [], ◌∷◌, ◌++◌, Option, None, Some, option_map, append-nil, if◌then◌else◌}
use Rattle.std.specs.List.{AllByRecursion}
use Rattle.std.proofs.lemmas.Bool.{and_parts}
use mathlib.Core.Path.{subst}
use Rattle.uno_model.specs.Entities.{Entity}
use Rattle.uno_model.specs.Sound.{IsSound}
use Rattle.plan_model.specs.Building.{behind, behind_all}
use Rattle.plan_model.specs.Contexts.{Context, at_top, open_behaviours, behaviours_before, opening}
use Rattle.plan_model.specs.Forms.{is_line}
use Rattle.plan_model.specs.Keeps.{has_form, reason_of, or_later, first_wrong, Makes, KeepsTheRules}
use Rattle.plan_model.specs.LinePlaces.{may_stand}
use Rattle.plan_model.specs.Lines.{Line}
use Rattle.plan_model.specs.Plans.{Plan}
use Rattle.plan_model.specs.declared.line_reason.LineReason.{LineReason}
use Rattle.plan_typing.specs.Statements.{IsTypedBehaviour, IsTypedPlan}
use Rattle.plan_typing.proofs.PlanGrows.{Grows, as_they_are, grow_on, grown_stands, line_grows}
use Rattle.plan_typing.proofs.PlanLines.{TypedSoFar, line_step}

-- ---- lines that are not wrong

-- no reason, so neither this one nor a later one
ruled : (b : Bool) (why : LineReason) (rest : Option LineReason) → (if not b then Some why else rest) ≡ None → b ≡ true
ruled true why rest is = refl
ruled false why rest is = absurd (cc)

right_line : (reg : List Entity) (c : Context) (l : Line) → reason_of reg c l ≡ None → (is_line reg l ≡ true) × (may_stand c.block l ≡ true)
unfolding reason_of has_form
right_line reg c l is = and_parts (is_line reg l) (may_stand c.block l) (ruled (is_line reg l && may_stand c.block l) _ _ is)

none_later : (first : Option LineReason) (later : Option (ℕ × LineReason)) → or_later first later ≡ None → (first ≡ None) × (later ≡ None)
none_later (Some why) later is = absurd (cc)
none_later None None is = (refl, refl)
none_later None (Some x) is = absurd (cc)

module _ (reg : List Entity) where
  -- a line, and those behind it
  pub right_parts : (c : Context) (l : Line) (ls : List Line) → first_wrong reg c (l ∷ ls) ≡ None → (reason_of reg c l ≡ None) × (first_wrong reg (behind reg l c) ls ≡ None)
  unfolding first_wrong
  right_parts c l ls is = none_later (reason_of reg c l) (first_wrong reg (behind reg l c) ls) is

  -- the behaviours that stand before lines are at their places in the plan that comes of them
  lines_grow : (plan : Plan) (ls : List Line) (c : Context) → first_wrong reg c ls ≡ None → (behind_all reg ls c).block ≡ at_top → (behind_all reg ls c).plan ≡ plan
      → Grows (behaviours_before c) plan.behaviours
  unfolding behind_all
  lines_grow plan [] c right closed made =
      let none_open : behaviours_before c ≡ c.plan.behaviours = ap (λ bl. c.plan.behaviours ++ open_behaviours bl) closed ∙ append-nil c.plan.behaviours in
      as_they_are (behaviours_before c) plan.behaviours (sym (none_open ∙ ap (λ (p : Plan). p.behaviours) made))
  lines_grow plan (l ∷ ls) c right closed made =
      let parts = right_parts c l ls right in
      let line = right_line reg c l parts.0 in
      grow_on (behaviours_before c) (behaviours_before (behind reg l c)) plan.behaviours (line_grows reg c.plan c.variables c.block l line.1)
      (lines_grow plan ls (behind reg l c) parts.1 closed made)

  lines_typed : IsSound reg → (plan : Plan) (ls : List Line) (c : Context) → first_wrong reg c ls ≡ None → (behind_all reg ls c).plan ≡ plan
      → (behind_all reg ls c).block ≡ at_top → TypedSoFar reg plan c → IsTypedPlan reg plan
  unfolding behind_all
  lines_typed sound plan [] c right made closed is = subst (λ (p : Plan). AllByRecursion (IsTypedBehaviour reg plan) p.behaviours) made is.closed
  lines_typed sound plan (l ∷ ls) c right made closed is =
      let parts = right_parts c l ls right in
      let line = right_line reg c l parts.0 in
      let grown = lines_grow plan (l ∷ ls) c right closed made in
      lines_typed sound plan ls (behind reg l c) parts.1 made closed
      (line_step reg sound plan c.plan c.block c.variables l (λ n b at. grown_stands plan (behaviours_before c) n b grown at) line.0 line.1 is)

  -- ---- the law

  pub plan_typed : IsSound reg → (p : Plan) → KeepsTheRules reg p → IsTypedPlan reg p
  plan_typed sound p keeps = lines_typed sound p keeps.lines opening keeps.right keeps.made keeps.closed (record { closed = tt; opened = tt })
