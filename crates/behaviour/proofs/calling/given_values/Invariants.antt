use Rattle.std.specs.Prelude.{◌≡◌, map, drop}
use Rattle.plan_model.specs.Calling.{given_values}
use Rattle.plan_types.specs.Expressions.{argument_of}
use Rattle.uno_values.specs.Values.{plain_of}
use Rattle.behaviour.specs.Calling.{behind_all}
use Rattle.behaviour.specs.Running.{scene_of}
use Rattle.behaviour.proofs.calling.given_values.Given as goal

-- the values so far stand before those of the other arguments
abbrev pub invariant-loop-argument : goal.invariant-loop-argument
invariant-loop-argument l =
    behind_all (map plain_of l.values.items) (given_values (scene_of l.scene) (map argument_of (drop l.argument-index l.arguments)))
    ≡ given_values (scene_of l.scene) (map argument_of l.arguments)
