use Rattle.std.proofs.Common.{◌≡◌, rules, flat_map, subst, sym}
use Rattle.uno_model.specs.Values.{refs}
use Rattle.uno_values.specs.Values.{plain_of}
use Rattle.behaviour.specs.Roots.{run_of}
use Rattle.plan_model.specs.Roots.{Run}
use Rattle.bridge_endpoint.specs.Journals.{side_at}
use Rattle.bridge_model.specs.Sides.{idle, state_of}
use Rattle.bridge_core.specs.Standing.{IsRunAt}
use Rattle.bridge_core.proofs.AskLemmas.{begins_so, first_loose, lets_go_so, nothing_there}
use Rattle.bridge_core.proofs.RunAtLemmas.{loose_at}
use Rattle.bridge_core.proofs.stepping.go_on.Goals as goal

pub begin-requires-clause-run : goal.begin-requires-clause-run
begin-requires-clause-run c = subst (IsRunAt c.args.end.now) (sym c.open_loose.ensures.same) c.requires.run

pub begin-requires-clause-none : goal.begin-requires-clause-none
begin-requires-clause-none c = c.in_ok-open_loose.ensures.opened (nothing_there c.open_loose.new.run.letting.items (search rules))

pub let_go-requires-clause-held : goal.let_go-requires-clause-held
let_go-requires-clause-held c =
    loose_at c.args.end.now c.know_history.ensures (run_of c.open_loose.new.run) (subst (IsRunAt c.args.end.now) (sym c.open_loose.ensures.same) c.requires.run)
    (subst (λ (q : Run). state_of q.root (side_at c.args.end.now).tables.roots ≡ idle) (sym c.open_loose.ensures.same) c.requires.idle)

pub returns-then-is_empty : goal.returns-then-is_empty
returns-then-is_empty c =
    begins_so c.args.end.now c.begin.new.end (run_of c.args.run.now) (run_of c.open_loose.new.run) (run_of c.begin.new.run) c.begin.result c.open_loose.ensures.same c.requires.idle
    (c.in_ok-open_loose.ensures.opened (nothing_there c.open_loose.new.run.letting.items (search rules))) c.begin.ensures

pub returns : goal.returns
returns c =
    first_loose c.open_loose.new.run.letting.items (flat_map (λ x. refs (plain_of x)) c.open_loose.new.run.loose.items) (search rules)
    (λ x next. lets_go_so c.args.end.now c.let_go.new.end (run_of c.args.run.now) (run_of c.open_loose.new.run) (run_of c.let_go.new.run) x c.open_loose.ensures.same c.requires.idle next
    (c.let_go.ensures x next))
