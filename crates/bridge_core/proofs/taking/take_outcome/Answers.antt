use Rattle.std.proofs.Common.{◌≡◌, ◌∙◌, Some, refl, sym, ap}
use Rattle.bridge_model.specs.Entries.{took}
use Rattle.bridge_model.specs.RootRuns.{statement_at, takes_outcome}
use Rattle.bridge_model.specs.Roots.{outcome_in}
use Rattle.bridge_model.specs.Sides.{state_of}
use Rattle.bridge_endpoint.specs.Telling.{outcome_of}
use Rattle.plan_types.specs.Statements.{root_statement_of}
use Rattle.behaviour.specs.Roots.{run_of}
use Rattle.bridge_endpoint.specs.Journals.{setting_at, side_at, with_entry}
use Rattle.bridge_core.proofs.TakeLemmas.{finished_where, none_there, taken_does}
use Rattle.bridge_core.proofs.taking.take_outcome.Goals as goal

pub returns-then-is_none : goal.returns-then-is_none
returns-then-is_none c = (
  finished_where (setting_at c.args.end.now) (side_at c.args.end.now) (run_of c.args.run.now) c.requires
      (none_there (λ s. root_statement_of s.now) c.statement_at.result (statement_at (setting_at c.args.end.now) (run_of c.args.run.now)) c.statement_at.ensures c.if-is_none.ensures),
  refl,
  refl,
)

pub returns : goal.returns
returns c =
    let e = c.args.end.now in
    let before = run_of c.args.run.now in
    let o = outcome_of c.in-Some.outcome in
    let s = root_statement_of c.in-Some-statement_at.statement.now in
    let same : run_of c.prepare.new.run ≡ before = c.in_ok-line.ensures.same in
    let has : outcome_in (state_of before.root (side_at e).tables.roots) ≡ Some o = ap (λ r. outcome_in (state_of r.root (side_at e).tables.roots)) (sym same) ∙ sym c.in-Some.ensures.outcome in
    let at : statement_at (setting_at e) before ≡ Some s =
    ap (statement_at (setting_at e)) (sym same) ∙ (ap (λ f. statement_at (setting_at f) (run_of c.prepare.new.run)) (sym c.in-Some.ensures.entered) ∙ sym c.in-Some-statement_at.ensures) in
    taken_does e c.take.new.self before (run_of c.becomes.new.run) (run_of c.over_with.new.run) o s c.in_ok-line.line has at (c.in-Some.ensures.entered ∙ ap (λ r. with_entry (took r.root) e) same)
    (c.in_ok-line.ensures.line o s has at) (c.becomes.ensures.taken ∙ ap (takes_outcome s o) same) (c.becomes.ensures.lines.root ∙ ap (λ r. r.root) same) (c.becomes.ensures.lines.place ∙ ap (λ r. r.place) same)
    c.over_with.ensures
