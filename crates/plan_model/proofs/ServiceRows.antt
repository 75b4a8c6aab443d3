-- What the names of services and singletons create.
use Rattle.std.proofs.Common.{◌≡◌, refl, ℕ, true, List, [], ◌∷◌, Some, Result, Ok, Err, codes}
use Rattle.message_model.specs.Calls.{numbered}
use Rattle.uno_model.specs.BuiltIn.{x_interface_name, factory_name}
use Rattle.uno_model.specs.Codes.{same_kind}
use Rattle.uno_model.specs.Defaults.{default_of_kind, default_within}
use Rattle.uno_model.specs.Fits.{does_fit}
use Rattle.uno_model.specs.Functions.{is_met, visit_all, met_within}
use Rattle.uno_model.specs.Kinds as kd
use Rattle.uno_model.specs.Registry.{find_entity}
use Rattle.uno_model.specs.Values.{Plain, plains, depth, depth_in}
use Rattle.uno_model.specs.Values as v
use Rattle.uno_model.specs.Weights.{weight, weights}
use Rattle.plan_model.specs.Asking.{creates, returns, out_values}
use Rattle.plan_model.specs.Effects.{effect, body_effect, manager_effect, values_in}
use Rattle.plan_model.specs.Leaving.{leaving}
use Rattle.plan_model.specs.Evaluation.{value_under, is_heavy, is_deep}
use Rattle.plan_model.specs.Frames.{Variable, Job, body}
use Rattle.plan_model.specs.Plans.{Plan, Behaviour, manager, first_objects, exported, singleton_object}
use Rattle.plan_model.specs.Services.{Created, fresh, singleton, all_filled, first_filled, fields_with, created, service_names}
use Rattle.plan_model.specs.declared.refusal.Refusal.{Refusal}
use Rattle.plan_model.specs.declared.refusal.Refusal.TheVariants.{UnknownService, BadArguments}
use Rattle.plan_model.proofs.DemoPlans.{long, param, parts_registry}

abbrev part_behaviour : Behaviour
part_behaviour =
    record {
      name = codes "Part";
      faces = x_interface_name ∷ [];
      fields = param (codes "id") kd.long ∷ (param (codes "what") kd.any ∷ (param (codes "more") (kd.sequence kd.any) ∷ []));
      methods = [];
    }

abbrev parts_plan : Plan
parts_plan =
    record {
      behaviours = part_behaviour ∷ [];
      exports = [];
      services = record { name = codes "demo.Part"; behaviour = 0 } ∷ [];
      singletons = record { name = codes "demo.Only"; behaviour = 0 } ∷ [];
      threads = [];
    }

abbrev any_long : ℕ → Plain
any_long n = v.any kd.long (long n)

abbrev any_text : List ℕ → Plain
any_text s = v.any kd.str (v.str s)

-- a new part with these values of its fields
abbrev a_part : Plain → Plain → List Plain → Result Created Refusal
a_part id what more = Ok (fresh 0 (id ∷ (what ∷ (v.list kd.any (plains more) ∷ []))))

-- without arguments all fields have their defaults
no_arguments_row : created parts_plan parts_registry (codes "demo.Part") [] ≡ a_part (long 0) (v.any kd.void v.void) []
unfolding created first_filled all_filled fields_with find_entity default_of_kind default_within does_fit same_kind
no_arguments_row = refl

-- an any whose content fits a parameter
one_argument_row : created parts_plan parts_registry (codes "demo.Part") (any_long 5 ∷ []) ≡ a_part (long 5) (v.any kd.void v.void) []
unfolding created first_filled all_filled fields_with find_entity default_of_kind default_within does_fit same_kind
one_argument_row = refl

-- a parameter of type any gets the any whole, and the rest parameter what is left, which is nothing
two_arguments_row : created parts_plan parts_registry (codes "demo.Part") (any_long 5 ∷ (any_text (codes "a") ∷ []))
    ≡ a_part (long 5) (any_text (codes "a")) []
unfolding created first_filled all_filled fields_with find_entity default_of_kind default_within does_fit same_kind
two_arguments_row = refl

-- the rest parameter gets all that follow, each whole
rest_row : created parts_plan parts_registry (codes "demo.Part") (any_long 5 ∷ (any_text (codes "a") ∷ (any_long 6 ∷ (any_text (codes "b") ∷ []))))
    ≡ a_part (long 5) (any_text (codes "a")) (any_long 6 ∷ (any_text (codes "b") ∷ []))
unfolding created first_filled all_filled fields_with find_entity default_of_kind default_within does_fit same_kind
rest_row = refl

-- a text is no long
bad_arguments_row : created parts_plan parts_registry (codes "demo.Part") (any_text (codes "a") ∷ []) ≡ Err BadArguments
unfolding created first_filled all_filled fields_with find_entity default_of_kind default_within does_fit same_kind
bad_arguments_row = refl

-- a name that the plan has not
unknown_service_row : created parts_plan parts_registry (codes "x") [] ≡ Err UnknownService
unfolding created first_filled all_filled fields_with find_entity default_of_kind default_within does_fit same_kind
unknown_service_row = refl

-- a singleton, which takes no arguments
singleton_row : created parts_plan parts_registry (codes "demo.Only") [] ≡ Ok (singleton 0)
unfolding created first_filled all_filled fields_with find_entity default_of_kind default_within does_fit same_kind
singleton_row = refl

-- and refuses them
singleton_arguments_row : created parts_plan parts_registry (codes "demo.Only") (any_long 5 ∷ []) ≡ Err BadArguments
unfolding created first_filled all_filled fields_with find_entity default_of_kind default_within does_fit same_kind
singleton_arguments_row = refl

-- a job of the service manager
abbrev asked : ℕ → List Variable → Job
asked function xs =
    record {
      tid = codes "T";
      frame = body (record { number = 0; object = 1; face = factory_name; function = function; from_peer = true; variables = xs; place = 0 });
      fields = [];
      depth = 1;
      behaviour = manager;
      own = codes "S;1";
    }

abbrev named_part : Variable
named_part = record { name = codes "aServiceSpecifier"; value = v.str (codes "demo.Part") }

abbrev given : List Plain → Variable
given args = record { name = codes "Arguments"; value = v.list kd.any (plains args) }

-- createInstance asks for a name without arguments
create_instance_row : effect parts_plan parts_registry (asked 3 (named_part ∷ [])) ≡ creates (codes "demo.Part") []
unfolding effect numbered met_within is_met visit_all find_entity body_effect manager manager_effect service_names value_under is_heavy is_deep weight weights
    depth depth_in leaving out_values values_in
create_instance_row = refl

-- createInstanceWithArguments with those that it got
create_with_arguments_row : effect parts_plan parts_registry (asked 4 (named_part ∷ (given (any_long 5 ∷ []) ∷ [])))
    ≡ creates (codes "demo.Part") (any_long 5 ∷ [])
unfolding effect numbered met_within is_met visit_all find_entity body_effect manager manager_effect service_names value_under is_heavy is_deep weight weights
    depth depth_in leaving out_values values_in
create_with_arguments_row = refl

-- the names of the services alone
names_row : effect parts_plan parts_registry (asked 5 []) ≡ returns (v.list kd.str (plains (v.str (codes "demo.Part") ∷ []))) []
unfolding effect numbered met_within is_met visit_all find_entity body_effect manager manager_effect service_names value_under is_heavy is_deep weight weights
    depth depth_in leaving out_values values_in
names_row = refl

-- the service manager and the singleton are there from the beginning
objects_row : first_objects parts_plan ≡ manager ∷ (0 ∷ [])
unfolding first_objects
objects_row = refl

manager_row : exported parts_plan (codes "ServiceManager") ≡ Some 1
unfolding exported
manager_row = refl

singleton_object_row : singleton_object parts_plan 0 ≡ 2
unfolding singleton_object
singleton_object_row = refl
