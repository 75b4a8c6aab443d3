-- What a root does next, by its state.
use Rattle.std.proofs.Common.{◌≡◌, refl, ap, ◌∙◌, ℕ, [], true, false, Some}
use Rattle.plan_model.specs.Roots.{Run, next_loose}
use Rattle.plan_model.specs.Statements.{RootStatement}
use Rattle.bridge_model.specs.RootRuns.{root_moves, state_moves, idle_moves, takes_at, statement_at, next_statement, begins_statement, is_skipped}
use Rattle.bridge_model.specs.Roots.{outcome_in}
use Rattle.bridge_model.specs.Settings.{Setting}
use Rattle.bridge_model.specs.Sides.{Outcome, RootState, idle, waits_call, waits_query, answered, Side, state_of}
use Rattle.bridge_model.specs.Steps.{is_root, may_begin}

pub idle_does : (g : Setting) (s : Side) (r : Run) → state_of r.root s.tables.roots ≡ idle → root_moves g s r ≡ idle_moves g s r (next_loose r.loose)
unfolding root_moves
idle_does g s r is = ap (state_moves g s r) is

-- with nothing to let go it goes on with its next statement
pub goes_on : (g : Setting) (s : Side) (r : Run) → state_of r.root s.tables.roots ≡ idle → r.loose ≡ [] → root_moves g s r ≡ next_statement g s r (statement_at g r)
goes_on g s r is none = idle_does g s r is ∙ ap (λ rs. idle_moves g s r (next_loose rs)) none

outcome_state : (st : RootState) (o : Outcome) → outcome_in st ≡ Some o → st ≡ answered o
outcome_state idle o is = absurd (cc)
outcome_state waits_call o is = absurd (cc)
outcome_state (waits_query wanted) o is = absurd (cc)
outcome_state (answered p) o is = let same : p ≡ o = cc in ap answered same

pub answered_does : (g : Setting) (s : Side) (r : Run) (o : Outcome) → outcome_in (state_of r.root s.tables.roots) ≡ Some o → root_moves g s r ≡ takes_at g r o (statement_at g r)
unfolding root_moves
answered_does g s r o is = ap (state_moves g s r) (outcome_state (state_of r.root s.tables.roots) o is)

-- a root that is idle may begin
pub idle_begins : (g : Setting) (root : ℕ) (s : Side) → is_root g root ≡ true → state_of root s.tables.roots ≡ idle → may_begin g root s ≡ true
idle_begins g root s is free = rw (is, free) refl

-- its next statement begins, unless it is skipped
pub begins_next : (g : Setting) (s : Side) (r : Run) (x : RootStatement) → statement_at g r ≡ Some x → is_skipped r.variables x ≡ false
    → next_statement g s r (statement_at g r) ≡ begins_statement g s r x
begins_next g s r x at stays = ap (next_statement g s r) at ∙ rw stays refl
