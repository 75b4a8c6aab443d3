-- Effects of jobs of the two plans.
use Rattle.std.proofs.Common.{◌≡◌, refl, ℕ, negsuc, true, List, [], ◌∷◌, Some, codes}
use Rattle.message_model.specs.Calls.{numbered, kinds_on, may_raise}
use Rattle.uno_model.specs.BuiltIn.{runtime_exception_name}
use Rattle.uno_model.specs.Defaults.{default_within, default_of_kind}
use Rattle.uno_model.specs.Functions.{is_met, visit_all, met_within}
use Rattle.uno_model.specs.Kinds as kd
use Rattle.uno_model.specs.Reaches.{reaches_within, is_base_of}
use Rattle.uno_model.specs.Registry.{find_entity, members_within}
use Rattle.uno_model.specs.Values.{Plain, Ref, null, own, peer, depth, depth_in}
use Rattle.uno_model.specs.Values as v
use Rattle.uno_model.specs.Weights.{weight, weights}
use Rattle.plan_model.specs.Asking.{Effect, returns, raises, calls, skips, sets_field, disposes, out_values}
use Rattle.plan_model.specs.Calling.{given_values, number_in, is_full, call_effect}
use Rattle.plan_model.specs.Effects.{effect, return_effect, default_effect, set_field_effect, when_effect, raise_effect, statement_effect, body_effect}
use Rattle.plan_model.specs.Leaving.{message_of, leaving}
use Rattle.plan_model.specs.Evaluation.{value_under, value_of, values_of, is_heavy, is_deep, evaluated, same_value, same_values}
use Rattle.plan_model.specs.Frames.{Variable, Job, body}
use Rattle.plan_model.specs.Plans.{manager}
use Rattle.plan_model.proofs.DemoPlans.{demo, echo_plan, node_plan, x_echo, x_node, refused, long}

-- a job of the first behaviour at a function and a place
abbrev at : List ℕ → ℕ → ℕ → ℕ → List Variable → List Variable → Job
at face function place depth fields xs =
    record {
      tid = codes "T";
      frame = body (record { number = 0; object = 1; face = face; function = function; from_peer = true; variables = xs; place = place });
      fields = fields;
      depth = depth;
      behaviour = 0;
      own = codes "S;1";
    }

abbrev var : List ℕ → Plain → Variable
var name x = record { name = name; value = x }

-- a RuntimeException of this message
abbrev runtime : List ℕ → Effect
runtime message = raises (kd.exception runtime_exception_name) (v.tuple runtime_exception_name (v.more (v.str message) (v.more (v.ref null) v.none)))

-- the exception that the node raises
abbrev no_7 : Effect
no_7 = raises (kd.exception refused) (v.tuple refused (v.more (v.str (codes "no")) (v.more (v.ref null) (v.more (long 7) v.none))))

abbrev an_echo : Plain → Job
an_echo a = at x_echo 3 0 1 [] (var (codes "a") a ∷ [])

-- the field `kept` of a node is null
abbrev a_node : ℕ → ℕ → ℕ → List Variable → Job
a_node function place frames xs = at x_node function place frames (var (codes "kept") (v.ref null) ∷ []) xs

abbrev peers : Ref
peers = peer (codes "C;2") x_node

abbrev relaying : ℕ → ℕ → Ref → ℕ → Job
relaying place frames back d = a_node 3 place frames (var (codes "back") (v.ref back) ∷ (var (codes "depth") (long d) ∷ []))

abbrev checking : ℕ → ℕ → Job
checking place a = a_node 6 place 1 (var (codes "a") (long a) ∷ [])

abbrev turning : ℕ → Job
turning place = a_node 4 place 1 (var (codes "n") (v.ref peers) ∷ [])

-- twice(21) returns 42
twice_row : effect echo_plan demo (an_echo (long 21)) ≡ returns (long 42) []
unfolding effect numbered met_within is_met visit_all find_entity body_effect manager statement_effect return_effect call_effect raise_effect when_effect
    set_field_effect number_in given_values is_full evaluated value_of values_of value_under is_heavy is_deep weight weights depth depth_in leaving out_values
    may_raise is_base_of reaches_within message_of same_value same_values default_effect default_of_kind default_within kinds_on members_within
twice_row = refl

-- the double of 1,073,741,824 is no long
range_row : effect echo_plan demo (an_echo (long 1073741824)) ≡ runtime (codes "range")
unfolding effect numbered met_within is_met visit_all find_entity body_effect manager statement_effect return_effect call_effect raise_effect when_effect
    set_field_effect number_in given_values is_full evaluated value_of values_of value_under is_heavy is_deep weight weights depth depth_in leaving out_values
    may_raise is_base_of reaches_within message_of same_value same_values default_effect default_of_kind default_within kinds_on members_within
range_row = refl

-- the double of the least long but 2^30 is one
least_sum_row : effect echo_plan demo (an_echo (v.long (negsuc 1073741823))) ≡ returns (v.long (negsuc 2147483647)) []
unfolding effect numbered met_within is_met visit_all find_entity body_effect manager statement_effect return_effect call_effect raise_effect when_effect
    set_field_effect number_in given_values is_full evaluated value_of values_of value_under is_heavy is_deep weight weights depth depth_in leaving out_values
    may_raise is_base_of reaches_within message_of same_value same_values default_effect default_of_kind default_within kinds_on members_within
least_sum_row = refl

-- relay at depth 0 returns 0
relay_0_row : effect node_plan demo (relaying 0 1 peers 0) ≡ returns (long 0) []
unfolding effect numbered met_within is_met visit_all find_entity body_effect manager statement_effect return_effect call_effect raise_effect when_effect
    set_field_effect number_in given_values is_full evaluated value_of values_of value_under is_heavy is_deep weight weights depth depth_in leaving out_values
    may_raise is_base_of reaches_within message_of same_value same_values default_effect default_of_kind default_within kinds_on members_within
relay_0_row = refl

-- at depth 3 its first statement does nothing
relay_3_row : effect node_plan demo (relaying 0 1 peers 3) ≡ skips
unfolding effect numbered met_within is_met visit_all find_entity body_effect manager statement_effect return_effect call_effect raise_effect when_effect
    set_field_effect number_in given_values is_full evaluated value_of values_of value_under is_heavy is_deep weight weights depth depth_in leaving out_values
    may_raise is_base_of reaches_within message_of same_value same_values default_effect default_of_kind default_within kinds_on members_within
relay_3_row = refl

-- and its second calls relay of the other one, with the own object and 2
relay_3_call_row : effect node_plan demo (relaying 1 1 peers 3)
    ≡ calls peers 3 (v.ref (own (codes "S;1") x_node) ∷ (long 2 ∷ [])) (Some (codes "r"))
unfolding effect numbered met_within is_met visit_all find_entity body_effect manager statement_effect return_effect call_effect raise_effect when_effect
    set_field_effect number_in given_values is_full evaluated value_of values_of value_under is_heavy is_deep weight weights depth depth_in leaving out_values
    may_raise is_base_of reaches_within message_of same_value same_values default_effect default_of_kind default_within kinds_on members_within
relay_3_call_row = refl

-- a call on null
relay_null_row : effect node_plan demo (relaying 1 1 null 1) ≡ runtime (codes "null")
unfolding effect numbered met_within is_met visit_all find_entity body_effect manager statement_effect return_effect call_effect raise_effect when_effect
    set_field_effect number_in given_values is_full evaluated value_of values_of value_under is_heavy is_deep weight weights depth depth_in leaving out_values
    may_raise is_base_of reaches_within message_of same_value same_values default_effect default_of_kind default_within kinds_on members_within
relay_null_row = refl

-- null comes before an operation without a result
relay_null_range_row : effect node_plan demo (a_node 3 1 1 (var (codes "back") (v.ref null)
    ∷ (var (codes "depth") (v.long (negsuc 2147483647)) ∷ [])))
    ≡ runtime (codes "null")
unfolding effect numbered met_within is_met visit_all find_entity body_effect manager statement_effect return_effect call_effect raise_effect when_effect
    set_field_effect number_in given_values is_full evaluated value_of values_of value_under is_heavy is_deep weight weights depth depth_in leaving out_values
    may_raise is_base_of reaches_within message_of same_value same_values default_effect default_of_kind default_within kinds_on members_within
relay_null_range_row = refl

-- a call where the stack has 1,000 frames
relay_deep_row : effect node_plan demo (relaying 1 1000 peers 1) ≡ runtime (codes "depth")
unfolding effect numbered met_within is_met visit_all find_entity body_effect manager statement_effect return_effect call_effect raise_effect when_effect
    set_field_effect number_in given_values is_full evaluated value_of values_of value_under is_heavy is_deep weight weights depth depth_in leaving out_values
    may_raise is_base_of reaches_within message_of same_value same_values default_effect default_of_kind default_within kinds_on members_within
relay_deep_row = refl

-- and where it has 999
relay_999_row : effect node_plan demo (relaying 1 999 peers 1)
    ≡ calls peers 3 (v.ref (own (codes "S;1") x_node) ∷ (long 0 ∷ [])) (Some (codes "r"))
unfolding effect numbered met_within is_met visit_all find_entity body_effect manager statement_effect return_effect call_effect raise_effect when_effect
    set_field_effect number_in given_values is_full evaluated value_of values_of value_under is_heavy is_deep weight weights depth depth_in leaving out_values
    may_raise is_base_of reaches_within message_of same_value same_values default_effect default_of_kind default_within kinds_on members_within
relay_999_row = refl

-- arguments are worked out before the frames are counted
relay_range_deep_row : effect node_plan demo (a_node 3 1 1000 (var (codes "back") (v.ref peers)
    ∷ (var (codes "depth") (v.long (negsuc 2147483647)) ∷ [])))
    ≡ runtime (codes "range")
unfolding effect numbered met_within is_met visit_all find_entity body_effect manager statement_effect return_effect call_effect raise_effect when_effect
    set_field_effect number_in given_values is_full evaluated value_of values_of value_under is_heavy is_deep weight weights depth depth_in leaving out_values
    may_raise is_base_of reaches_within message_of same_value same_values default_effect default_of_kind default_within kinds_on members_within
relay_range_deep_row = refl

-- behind its call relay returns one more than came back
relay_last_row : effect node_plan demo (a_node 3 2 1 (var (codes "back") (v.ref peers) ∷ (var (codes "depth") (long 3)
    ∷ (var (codes "r") (long 2) ∷ []))))
    ≡ returns (long 3) []
unfolding effect numbered met_within is_met visit_all find_entity body_effect manager statement_effect return_effect call_effect raise_effect when_effect
    set_field_effect number_in given_values is_full evaluated value_of values_of value_under is_heavy is_deep weight weights depth depth_in leaving out_values
    may_raise is_base_of reaches_within message_of same_value same_values default_effect default_of_kind default_within kinds_on members_within
relay_last_row = refl

-- turn keeps what it got
turn_row : effect node_plan demo (turning 0) ≡ sets_field (var (codes "kept") (v.ref peers))
unfolding effect numbered met_within is_met visit_all find_entity body_effect manager statement_effect return_effect call_effect raise_effect when_effect
    set_field_effect number_in given_values is_full evaluated value_of values_of value_under is_heavy is_deep weight weights depth depth_in leaving out_values
    may_raise is_base_of reaches_within message_of same_value same_values default_effect default_of_kind default_within kinds_on members_within
turn_row = refl

-- and gives it back
turn_return_row : effect node_plan demo (turning 1) ≡ returns (v.ref peers) []
unfolding effect numbered met_within is_met visit_all find_entity body_effect manager statement_effect return_effect call_effect raise_effect when_effect
    set_field_effect number_in given_values is_full evaluated value_of values_of value_under is_heavy is_deep weight weights depth depth_in leaving out_values
    may_raise is_base_of reaches_within message_of same_value same_values default_effect default_of_kind default_within kinds_on members_within
turn_return_row = refl

-- a method that is not written returns defaults
thrice_row : effect node_plan demo (a_node 5 0 1 (var (codes "a") (v.ref peers) ∷ (var (codes "b") (v.ref peers)
    ∷ (var (codes "c") (v.ref null) ∷ []))))
    ≡ returns v.void []
unfolding effect numbered met_within is_met visit_all find_entity body_effect manager statement_effect return_effect call_effect raise_effect when_effect
    set_field_effect number_in given_values is_full evaluated value_of values_of value_under is_heavy is_deep weight weights depth depth_in leaving out_values
    may_raise is_base_of reaches_within message_of same_value same_values default_effect default_of_kind default_within kinds_on members_within
thrice_row = refl

-- check(0) returns
check_0_row : effect node_plan demo (checking 0 0) ≡ returns v.void []
unfolding effect numbered met_within is_met visit_all find_entity body_effect manager statement_effect return_effect call_effect raise_effect when_effect
    set_field_effect number_in given_values is_full evaluated value_of values_of value_under is_heavy is_deep weight weights depth depth_in leaving out_values
    may_raise is_base_of reaches_within message_of same_value same_values default_effect default_of_kind default_within kinds_on members_within
check_0_row = refl

-- check(5) goes on
check_5_row : effect node_plan demo (checking 0 5) ≡ skips
unfolding effect numbered met_within is_met visit_all find_entity body_effect manager statement_effect return_effect call_effect raise_effect when_effect
    set_field_effect number_in given_values is_full evaluated value_of values_of value_under is_heavy is_deep weight weights depth depth_in leaving out_values
    may_raise is_base_of reaches_within message_of same_value same_values default_effect default_of_kind default_within kinds_on members_within
check_5_row = refl

-- and raises what it declares
check_5_raise_row : effect node_plan demo (checking 1 5) ≡ no_7
unfolding effect numbered met_within is_met visit_all find_entity body_effect manager statement_effect return_effect call_effect raise_effect when_effect
    set_field_effect number_in given_values is_full evaluated value_of values_of value_under is_heavy is_deep weight weights depth depth_in leaving out_values
    may_raise is_base_of reaches_within message_of same_value same_values default_effect default_of_kind default_within kinds_on members_within
check_5_raise_row = refl

-- forget raises what it does not declare
forget_row : effect node_plan demo (a_node 7 0 1 []) ≡ runtime (codes "undeclared demo.Refused")
unfolding effect numbered met_within is_met visit_all find_entity body_effect manager statement_effect return_effect call_effect raise_effect when_effect
    set_field_effect number_in given_values is_full evaluated value_of values_of value_under is_heavy is_deep weight weights depth depth_in leaving out_values
    may_raise is_base_of reaches_within message_of same_value same_values default_effect default_of_kind default_within kinds_on members_within
forget_row = refl

-- shut ends the bridge
shut_row : effect node_plan demo (a_node 8 0 1 []) ≡ disposes
unfolding effect numbered met_within is_met visit_all find_entity body_effect manager statement_effect return_effect call_effect raise_effect when_effect
    set_field_effect number_in given_values is_full evaluated value_of values_of value_under is_heavy is_deep weight weights depth depth_in leaving out_values
    may_raise is_base_of reaches_within message_of same_value same_values default_effect default_of_kind default_within kinds_on members_within
shut_row = refl
