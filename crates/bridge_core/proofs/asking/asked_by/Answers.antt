use Rattle.std.proofs.Common.{◌≡◌, ap, sym, subst, IfOk}
use Rattle.bridge_model.specs.RootRuns.{calls_on}
use Rattle.named_variables.specs.Threads.{all_of}
use Rattle.plan_model.specs.Calling.{object_of}
use Rattle.plan_model.specs.Evaluation.{value_of_word}
use Rattle.plan_types.specs.Expressions.{word_of}
use Rattle.plan_types.specs.Frames.{variables_of}
use Rattle.plan_types.specs.Statements.{call_of, root_statement_of}
use Rattle.behaviour.specs.Roots.{run_of}
use Rattle.behaviour.specs.Running.{root_scene}
use Rattle.bridge_core.specs.Asking.{asks}
use Rattle.bridge_core.proofs.AskLemmas.{calls_so}
use Rattle.bridge_core.proofs.asking.asked_by.Goals as goal

pub returns-in-Call : goal.returns-in-Call
returns-in-Call c = λ g s same.
    calls_so g s (run_of c.args.run.now) (call_of c.in-Call.call) (root_statement_of c.args.statement.now) c.asks_call.result (ap root_statement_of c.in-Call.is)
    (subst (λ reg. IfOk c.asks_call.result (λ a. calls_on reg s (run_of c.args.run.now) (call_of c.in-Call.call)
    (object_of (value_of_word (root_scene (variables_of (all_of c.args.run.now.variables))) (word_of c.in-Call.call.target))) ≡ asks s (run_of c.args.run.now) a))
    (sym same) (c.asks_call.ensures s))
