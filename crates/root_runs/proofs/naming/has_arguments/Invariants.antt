use Rattle.std.specs.Prelude.{◌≡◌, drop, map}
use Rattle.std.specs.List.{flat_map, list_all}
use Rattle.bridge_model.specs.RootRuns.{argument_names, is_there}
use Rattle.named_variables.specs.Threads.{all_of}
use Rattle.plan_types.specs.Expressions.{argument_of}
use Rattle.plan_types.specs.Frames.{variables_of}
use Rattle.root_runs.proofs.naming.has_arguments.Given as goal

-- all names so far are there
abbrev pub invariant-loop-argument : goal.invariant-loop-argument
invariant-loop-argument l =
    list_all (is_there (variables_of (all_of l.variables))) (flat_map argument_names (map argument_of (drop l.argument-index l.arguments)))
    ≡ list_all (is_there (variables_of (all_of l.variables))) (flat_map argument_names (map argument_of l.arguments))
