-- The effect of a job: what the statement at its place asks, or the end of its frame.
use Rattle.std.specs.Prelude.{ℕ, ◌&&◌, ◌==◌, List, [], ◌∷◌, map, Option, None, Some, slice_get, unwrap_or, if◌then◌else◌}
use Rattle.std.specs.List.{find}
use Rattle.std.specs.Option.{option_map}
use Rattle.std.specs.Str.{bytes_eq}
use Rattle.message_model.specs.Calls.{numbered, out_kinds}
use Rattle.message_model.specs.Messages.{returned, raised}
use Rattle.uno_model.specs.BuiltIn.{create_instance, create_with_arguments, available_names}
use Rattle.uno_model.specs.Defaults.{default_of_kind}
use Rattle.uno_model.specs.Entities.{Entity}
use Rattle.uno_model.specs.Functions.{Function}
use Rattle.uno_model.specs.Kinds as kd
use Rattle.uno_model.specs.Values.{own, Plain, Plains, plains}
use Rattle.uno_model.specs.Values as v
use Rattle.plan_model.specs.Asking.{Effect, lets, sets, sets_field, drops, skips, makes, disposes, creates, Running, ends_with, on_value, returns_value}
use Rattle.plan_model.specs.Calling.{call_effect, query_effect}
use Rattle.plan_model.specs.Evaluation.{Scene, value_of_word, evaluated, compares}
use Rattle.plan_model.specs.Expressions.{Expression}
use Rattle.plan_model.specs.Frames.{Body, Frame, body, Job}
use Rattle.plan_model.specs.Plans.{Plan, Behaviour, Method, manager}
use Rattle.plan_model.specs.Services.{service_names}
use Rattle.plan_model.specs.Statements.{Making, Test, Statement, let_variable, set_variable, set_field, call, query, make, drop_variable, when, return, raise, dispose}

-- ---- statements

unfoldable pub return_effect : List Entity → Running → Option Expression → Effect
return_effect reg r None = returns_value reg r v.void
return_effect reg r (Some a) = on_value reg r (evaluated r.scene a) (returns_value reg r)

-- a function that no method is written for returns the default of its result and of each parameter that comes out
unfoldable pub default_effect : List Entity → Running → Effect
default_effect reg r = ends_with reg r (returned (default_of_kind reg r.function.result_kind) (map (default_of_kind reg) (out_kinds r.function)))

unfoldable pub let_effect : List Entity → Running → List ℕ → Expression → Effect
let_effect reg r name a = on_value reg r (evaluated r.scene a) (λ x. lets (record { name = name; value = x }))

unfoldable pub set_effect : List Entity → Running → List ℕ → Expression → Effect
set_effect reg r name a = on_value reg r (evaluated r.scene a) (λ x. sets (record { name = name; value = x }))

unfoldable pub set_field_effect : List Entity → Running → List ℕ → Expression → Effect
set_field_effect reg r name a = on_value reg r (evaluated r.scene a) (λ x. sets_field (record { name = name; value = x }))

-- what is returned is worked out only where the test holds
unfoldable pub when_effect : List Entity → Running → Test → Option Expression → Effect
when_effect reg r t back =
    on_value reg r (evaluated r.scene t.right) (λ x. if compares t.comparison (value_of_word r.scene t.left) x then return_effect reg r back else skips)

unfoldable pub raise_effect : List Entity → Running → List ℕ → Expression → Effect
raise_effect reg r name a = on_value reg r (evaluated r.scene a) (λ x. ends_with reg r (raised (kd.exception name) x))

abbrev pub make_effect : Making → Effect
make_effect m = makes m.behaviour m.face m.to

unfoldable pub statement_effect : List Entity → Running → Statement → Effect
statement_effect reg r (let_variable f a) = let_effect reg r f.name a
statement_effect reg r (set_variable name a) = set_effect reg r name a
statement_effect reg r (set_field name a) = set_field_effect reg r name a
statement_effect reg r (call c) = call_effect reg r c
statement_effect reg r (query q) = query_effect reg r q
statement_effect reg r (make m) = make_effect m
statement_effect reg r (drop_variable name) = drops name
statement_effect reg r (when t back) = when_effect reg r t back
statement_effect reg r (return back) = return_effect reg r back
statement_effect reg r (raise name a) = raise_effect reg r name a
statement_effect reg r dispose = disposes

-- behind its last statement a method returns without a result
abbrev pub place_effect : List Entity → Running → Option Statement → Effect
place_effect reg r None = return_effect reg r None
place_effect reg r (Some s) = statement_effect reg r s

-- ---- the service manager

abbrev pub text_of : Plain → List ℕ
text_of (v.str s) = s
text_of x = []

unfoldable pub values_in : Plains → List Plain
values_in v.none = []
values_in (v.more x xs) = x ∷ values_in xs

abbrev pub elements_of : Plain → List Plain
elements_of (v.list k xs) = values_in xs
elements_of x = []

-- the value of the parameter at a place
abbrev pub given : ℕ → Scene → Plain
given n s = unwrap_or (option_map (λ x. x.value) (slice_get s.variables n)) v.void

unfoldable pub manager_effect : List Entity → Plan → Running → Effect
manager_effect reg plan r =
    if bytes_eq r.function.name create_instance.name then creates (text_of (given 0 r.scene)) []
    else (if bytes_eq r.function.name create_with_arguments.name then creates (text_of (given 0 r.scene)) (elements_of (given 1 r.scene))
    else (if bytes_eq r.function.name available_names.name then returns_value reg r (v.list kd.str (plains (map v.str (service_names reg plan))))
    else default_effect reg r))

-- ---- the effect of a job

-- the method that a behaviour has for a function
abbrev pub method_for : Function → List Method → Option Method
method_for f ms = find (λ m. bytes_eq m.face f.owner && bytes_eq m.function f.name) ms

abbrev pub methods_of : Option Behaviour → List Method
methods_of None = []
methods_of (Some b) = b.methods

abbrev pub method_effect : List Entity → Running → ℕ → Option Method → Effect
method_effect reg r place None = default_effect reg r
method_effect reg r place (Some m) = place_effect reg r (slice_get m.body place)

unfoldable pub body_effect : List Entity → Plan → ℕ → ℕ → Running → Effect
body_effect reg plan behaviour place r =
    if behaviour == manager then manager_effect reg plan r
    else method_effect reg r place (method_for r.function (methods_of (slice_get plan.behaviours behaviour)))

-- the own object stands under the interface that declares the function
abbrev pub running : Job → Body → Function → Running
running job b f =
    record {
      tid = job.tid;
      face = b.face;
      number = b.function;
      function = f;
      depth = job.depth;
      scene = record { variables = b.variables; fields = job.fields; own = own job.own f.owner };
    }

abbrev pub function_effect : List Entity → Plan → Job → Body → Option Function → Effect
function_effect reg plan job b None = skips
function_effect reg plan job b (Some f) = body_effect reg plan job.behaviour b.place (running job b f)

-- the effect of a job whose frame is a method; another frame asks nothing
unfoldable pub effect : Plan → List Entity → Job → Effect
effect plan reg job = of_frame job.frame
  where
    of_frame : Frame → Effect
    of_frame (body b) = function_effect reg plan job b (numbered reg b.face b.function)
    of_frame f = skips
