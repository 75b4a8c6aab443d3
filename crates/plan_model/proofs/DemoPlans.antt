-- The registry and the two plans of the rows.
use Rattle.std.proofs.Common.{ℕ, pos, false, List, [], ◌∷◌, ◌++◌, Option, None, Some, codes}
use Rattle.uno_model.specs.BuiltIn.{built_in, exception_name, x_interface_name}
use Rattle.uno_model.specs.Entities.{Entity, Field, Param, Constructor, Method, method, interface, exception, new_service, new_singleton}
use Rattle.uno_model.specs.Kinds as kd
use Rattle.uno_model.specs.Values.{Plain, null}
use Rattle.uno_model.specs.Values as v
use Rattle.uno_model.specs.declared.way.Way.TheVariants.{Into}
use Rattle.plan_model.specs.Expressions.{Expression, variable, own, constant, word, operation, tuple, none, more, into}
use Rattle.plan_model.specs.Plans.{Plan, Behaviour}
use Rattle.plan_model.specs.Plans as plans
use Rattle.plan_model.specs.Statements.{set_field, call, when, return, raise, dispose}
use Rattle.plan_model.specs.declared.comparison.Comparison.TheVariants.{Equal}
use Rattle.plan_model.specs.declared.operation.Operation.TheVariants.{Add, Sub}

-- ---- the registry

abbrev pub refused : List ℕ
refused = codes "demo.Refused"

abbrev pub x_echo : List ℕ
x_echo = codes "demo.XEcho"

abbrev pub x_node : List ℕ
x_node = codes "demo.XNode"

abbrev pub node_kind : kd.Kind
node_kind = kd.interface x_node

-- a method that takes these parameters in
abbrev pub taking : List ℕ → kd.Kind → List Param → List (List ℕ) → Method
taking name k ps raises = record { name = name; oneway = false; result_kind = k; params = ps; raises = raises }

abbrev pub given : List ℕ → kd.Kind → Param
given name k = record { way = Into; name = name; kind = k }

abbrev pub twice_method : Method
twice_method = taking (codes "twice") kd.long (given (codes "a") kd.long ∷ []) []

abbrev pub echo_entity : Entity
echo_entity = record { name = x_echo; published = false; body = interface (record { optional = false; name = x_interface_name } ∷ []) (method twice_method ∷ []) }

abbrev pub refused_entity : Entity
refused_entity = record { name = refused; published = false; body = exception (Some exception_name) (record { name = codes "Code"; kind = kd.long } ∷ []) }

abbrev pub relay_method : Method
relay_method = taking (codes "relay") kd.long (given (codes "back") node_kind ∷ (given (codes "depth") kd.long ∷ [])) []

abbrev pub turn_method : Method
turn_method = taking (codes "turn") (kd.interface x_interface_name) (given (codes "n") node_kind ∷ []) []

abbrev pub thrice_method : Method
thrice_method = taking (codes "thrice") kd.void (given (codes "a") node_kind ∷ (given (codes "b") node_kind ∷ (given (codes "c") node_kind ∷ []))) []

abbrev pub check_method : Method
check_method = taking (codes "check") kd.void (given (codes "a") kd.long ∷ []) (refused ∷ [])

abbrev pub forget_method : Method
forget_method = taking (codes "forget") kd.void [] []

abbrev pub shut_method : Method
shut_method = taking (codes "shut") kd.void [] []

abbrev pub node_entity : Entity
node_entity =
    record {
      name = x_node;
      published = false;
      body =
          interface
          (record { optional = false; name = x_interface_name } ∷ [])
          (method relay_method ∷ (method turn_method ∷ (method thrice_method ∷ (method check_method ∷ (method forget_method
          ∷ (method shut_method ∷ []))))));
    }

abbrev pub demo : List Entity
demo = built_in ++ (refused_entity ∷ (echo_entity ∷ (node_entity ∷ [])))

-- ---- the same with a service, which has three constructors, and a singleton

abbrev pub param : List ℕ → kd.Kind → Field
param name k = record { name = name; kind = k }

abbrev pub constructor : List ℕ → List Field → Option (List ℕ) → Constructor
constructor name ps rest = record { name = name; params = ps; rest = rest; raises = [] }

-- the last of its constructors has a rest parameter
abbrev pub part : Entity
part =
    record {
      name = codes "demo.Part";
      published = false;
      body =
          new_service
          x_interface_name
          (constructor (codes "create") [] None
          ∷ (constructor (codes "withId") (param (codes "id") kd.long ∷ []) None
          ∷ (constructor (codes "withAll") (param (codes "id") kd.long ∷ (param (codes "what") kd.any ∷ [])) (Some (codes "more")) ∷ [])));
    }

abbrev pub only : Entity
only = record { name = codes "demo.Only"; published = false; body = new_singleton x_interface_name }

abbrev pub parts_registry : List Entity
parts_registry = demo ++ (only ∷ (part ∷ []))

-- ---- the echo plan

abbrev pub named : List ℕ → Expression
named name = word (variable name)

abbrev pub long : ℕ → Plain
long n = v.long (pos n)

abbrev pub echo_behaviour : Behaviour
echo_behaviour =
    record {
      name = codes "Echo";
      faces = x_echo ∷ [];
      fields = [];
      methods =
          record { face = x_echo; function = codes "twice"; body = return (Some (operation Add (named (codes "a")) (named (codes "a")))) ∷ [] } ∷ [];
    }

abbrev pub echo_plan : Plan
echo_plan =
    record {
      behaviours = echo_behaviour ∷ [];
      exports = record { name = codes "echo"; behaviour = 0 } ∷ [];
      services = [];
      singletons = [];
      threads = [];
    }

-- ---- the node plan

abbrev pub refusal : Expression
refusal = tuple refused (more (constant (v.str (codes "no"))) (more (constant (v.ref null)) (more (constant (long 7)) none)))

abbrev pub relay_body : plans.Method
relay_body =
    record {
      face = x_node;
      function = codes "relay";
      body =
          when (record { left = variable (codes "depth"); comparison = Equal; right = constant (long 0) }) (Some (constant (long 0)))
          ∷ (call
          (record {
            target = variable (codes "back");
            callee = record { owner = x_node; name = codes "relay" };
            arguments = into (word own) ∷ (into (operation Sub (named (codes "depth")) (constant (long 1))) ∷ []);
            to = Some (record { name = codes "r"; kind = kd.long });
          })
          ∷ (return (Some (operation Add (named (codes "r")) (constant (long 1)))) ∷ []));
    }

abbrev pub turn_body : plans.Method
turn_body = record {
  face = x_node;
  function = codes "turn";
  body = set_field (codes "kept") (named (codes "n"))
      ∷ (return (Some (named (codes "n"))) ∷ []);
}

abbrev pub check_body : plans.Method
check_body =
    record {
      face = x_node;
      function = codes "check";
      body = when (record { left = variable (codes "a"); comparison = Equal; right = constant (long 0) }) None ∷ (raise refused refusal ∷ []);
    }

abbrev pub forget_body : plans.Method
forget_body = record { face = x_node; function = codes "forget"; body = raise refused refusal ∷ [] }

abbrev pub shut_body : plans.Method
shut_body = record { face = x_node; function = codes "shut"; body = dispose ∷ [] }

abbrev pub node_behaviour : Behaviour
node_behaviour =
    record {
      name = codes "Node";
      faces = x_node ∷ [];
      fields = record { name = codes "kept"; kind = node_kind } ∷ [];
      methods = relay_body ∷ (turn_body ∷ (check_body ∷ (forget_body ∷ (shut_body ∷ []))));
    }

abbrev pub node_plan : Plan
node_plan =
    record {
      behaviours = node_behaviour ∷ [];
      exports = record { name = codes "node"; behaviour = 0 } ∷ [];
      services = [];
      singletons = [];
      threads = [];
    }
