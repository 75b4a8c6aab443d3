use Rattle.std.proofs.Common.{sym, ◌∙◌}
use Rattle.bridge_model.specs.RootRuns.{is_there}
use Rattle.named_variables.specs.Threads.{all_of}
use Rattle.plan_types.specs.Frames.{variables_of}
use Rattle.root_runs.proofs.NamingLemmas.{argument_behind, argument_here, arguments_past}
use Rattle.root_runs.proofs.naming.has_arguments.Goals as goal

pub returns-then-not-has_argument : goal.returns-then-not-has_argument
returns-then-not-has_argument c =
    argument_here (is_there (variables_of (all_of c.args.variables.now))) c.args.arguments.now c.loop-argument.argument-index c.argument-item.result _ c.loop-argument-test.true c.argument-item.is
    (sym c.has_argument.ensures ∙ c.if-not-has_argument.true) c.loop-argument.invariant

pub loop-argument-preserved : goal.loop-argument-preserved
loop-argument-preserved c =
    argument_behind (is_there (variables_of (all_of c.args.variables.now))) c.args.arguments.now c.loop-argument.argument-index c.argument-item.result _ c.loop-argument-test.true c.argument-item.is
    (sym c.has_argument.ensures ∙ c.if-not-has_argument.false) c.loop-argument.invariant

pub returns : goal.returns
returns c = arguments_past (is_there (variables_of (all_of c.args.variables.now))) c.args.arguments.now c.loop-argument.argument-index _ c.loop-argument-test.false c.loop-argument.invariant
