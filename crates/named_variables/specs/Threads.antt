-- What a contract sees of the variables of a thread.
use Rattle.std.specs.Prelude.{◌<◌, List}
use Rattle.std.specs.Vec.{vec_capacity, vec_len}
use Rattle.plan_types.specs.declared.frame.Variable.{Variable}
use Rattle.named_variables.specs.declared.thread.ThreadVariables.{ThreadVariables}

-- the variables, in the order in which they began
abbrev pub all_of : ThreadVariables → List Variable
all_of xs = xs.all.items

-- there is room for one more
abbrev pub HasRoom : ThreadVariables → Type 0
HasRoom xs = vec_len xs.all < vec_capacity xs.all
