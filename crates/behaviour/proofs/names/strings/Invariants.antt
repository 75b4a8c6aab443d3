use Rattle.std.specs.Prelude.{◌≡◌, map}
use Rattle.uno_model.specs.Values.{str}
use Rattle.uno_values.specs.Values.{plain_of}
use Rattle.behaviour.proofs.names.strings.Given as goal

abbrev pub invariant-loop-text : goal.invariant-loop-text
invariant-loop-text l = map plain_of l.strings.items ≡ map str l.yielded
