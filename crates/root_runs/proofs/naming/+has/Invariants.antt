use Rattle.std.specs.Prelude.{◌≡◌, drop}
use Rattle.std.specs.List.{list_all}
use Rattle.bridge_model.specs.RootRuns.{is_there, names_in_all}
use Rattle.named_variables.specs.Threads.{all_of}
use Rattle.plan_types.specs.Expressions.{expressions_of}
use Rattle.plan_types.specs.Frames.{variables_of}
use Rattle.root_runs.proofs.naming.+has.Given as goal

-- all names so far are there
abbrev pub invariant-have_all-loop-expression : goal.invariant-have_all-loop-expression
invariant-have_all-loop-expression l =
    list_all (is_there (variables_of (all_of l.variables))) (names_in_all (expressions_of (drop l.expression-index l.expressions)))
    ≡ list_all (is_there (variables_of (all_of l.variables))) (names_in_all (expressions_of l.expressions))
