-- Variables that are lent, as the definitions see them.
use Rattle.std.specs.Prelude.{List}
use Rattle.named_variables.specs.Threads.{all_of}
use Rattle.plan_model.specs.Frames.{Variable}
use Rattle.plan_types.specs.Frames.{variables_of}
use Rattle.behaviour.specs.declared.running.Variables.{Variables}
use Rattle.behaviour.specs.declared.running.Variables.TheVariants as lent

abbrev pub variables_in : Variables → List Variable
variables_in (lent.Frame xs) = variables_of xs.now
variables_in (lent.Thread xs) = variables_of (all_of xs.now)
