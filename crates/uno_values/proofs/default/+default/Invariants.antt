use Rattle.std.specs.Prelude.{◌≡◌, ◌*◌, ◌+◌, map, take}
use Rattle.uno_model.specs.Defaults.{default_of_kind}
use Rattle.uno_values.specs.Fitting.{kinds_at}
use Rattle.uno_values.specs.Values.{plain_of}
use Rattle.uno_values.proofs.default.+default.Given as goal

abbrev pub invariant-defaults_of-loop-field : goal.invariant-defaults_of-loop-field
invariant-defaults_of-loop-field l = map plain_of l.values.items ≡ map (default_of_kind l.registry) (kinds_at (take l.field-index l.fields))

abbrev pub decreases-default_within : goal.decreases-default_within
decreases-default_within l = 3 * l.depth + 2

abbrev pub decreases-default_tuple : goal.decreases-default_tuple
decreases-default_tuple l = 3 * l.depth + 1

abbrev pub decreases-defaults_of : goal.decreases-defaults_of
decreases-defaults_of l = 3 * l.depth + 3
