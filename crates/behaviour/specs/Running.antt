-- A frame that runs, as the definitions see it.
pub use Rattle.named_variables.specs.Lending.{value_or_void}
use Rattle.std.specs.Borrow.{Bor}
use Rattle.std.specs.Prelude.{List, [], Option, Result, Ok, Err, option_map}
use Rattle.plan_model.specs.Asking as asking
use Rattle.plan_model.specs.Evaluation as evaluation
use Rattle.plan_model.specs.Frames.{Variable}
use Rattle.plan_model.specs.declared.runtime_cause.RuntimeCause.{RuntimeCause}
use Rattle.plan_model.specs.Plans as plan
use Rattle.plan_types.specs.Frames.{variables_of}
use Rattle.plan_types.specs.Plans.{method_of}
use Rattle.plan_types.specs.declared.plan.Method.{Method}
use Rattle.type_registry.specs.Functions.{lent_function}
use Rattle.uno_model.specs.Values.{null, Plain}
use Rattle.uno_values.specs.Values.{plain_of}
use Rattle.uno_values.specs.declared.value.Value.{Value}
use Rattle.behaviour.specs.Calling.{target_of}
use Rattle.behaviour.specs.Variables.{variables_in}
use Rattle.behaviour.specs.declared.running.Scene.{Scene}
use Rattle.behaviour.specs.declared.running.Running.{Running}

abbrev pub scene_of : Scene → evaluation.Scene
scene_of s = record { variables = variables_in s.variables; fields = variables_of s.fields.now; own = target_of s.own }

-- what words stand for in a root: its variables alone
abbrev pub root_scene : List Variable → evaluation.Scene
root_scene xs = record { variables = xs; fields = []; own = null }

abbrev pub running_of : Running → asking.Running
running_of r =
    record {
      tid = r.tid.now;
      face = r.face.now;
      number = r.number;
      function = lent_function r.function;
      depth = r.depth;
      scene = scene_of r.scene;
    }

-- a value, or why there is none
abbrev pub outcome_of : Result Value RuntimeCause → Result Plain RuntimeCause
outcome_of (Ok x) = Ok (plain_of x)
outcome_of (Err cause) = Err cause

-- a method that is lent
abbrev pub method_there : Option (Bor Method) → Option plan.Method
method_there = option_map (λ m. method_of m.now)
