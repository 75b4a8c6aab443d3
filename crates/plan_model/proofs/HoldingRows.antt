-- What frames take and let go.
use Rattle.std.proofs.Common.{◌≡◌, refl, ℕ, true, List, [], ◌∷◌, None, codes}
use Rattle.uno_model.specs.BuiltIn.{x_interface_name}
use Rattle.uno_model.specs.Defaults.{default_of_kind, default_within}
use Rattle.uno_model.specs.Kinds as kd
use Rattle.uno_model.specs.Reaches.{is_base_of, reaches_within}
use Rattle.uno_model.specs.Registry.{find_entity}
use Rattle.uno_model.specs.Values.{Plain, Ref, null, own, peer, refs, refs_in}
use Rattle.uno_model.specs.Values as v
use Rattle.uno_model.specs.declared.way.Way.TheVariants as way
use Rattle.plan_model.specs.Asking.{sets, drops}
use Rattle.plan_model.specs.Evaluation.{value_under}
use Rattle.plan_model.specs.Expressions.{constant, into, out, both}
use Rattle.plan_model.specs.Expressions as expression
use Rattle.plan_model.specs.Frames.{Variable}
use Rattle.plan_model.specs.Holdings.{put, refs_under, first_variables, variables_after, held_by, let_go_by, let_go_at_end}
use Rattle.plan_model.specs.Holdings.{takes_outs, takes_answer, no_object, query_answer, takes_reference}
use Rattle.plan_model.specs.Plans.{supports}
use Rattle.plan_model.specs.Statements.{Call}
use Rattle.plan_model.proofs.DemoPlans.{demo, x_node, x_echo, long}

abbrev object : List ℕ → Ref
object oid = peer oid x_node

abbrev a_variable : List ℕ → Plain → Variable
a_variable name x = record { name = name; value = x }

abbrev holding : List ℕ → List ℕ → Variable
holding name oid = a_variable name (v.ref (object oid))

abbrev two : List Variable
two = holding (codes "a") (codes "C;1") ∷ (holding (codes "b") (codes "C;2") ∷ [])

-- a variable that gets another value holds that, and lets the old one go
set_held_row : held_by (sets (holding (codes "b") (codes "C;3"))) ≡ object (codes "C;3") ∷ []
unfolding held_by refs
set_held_row = refl

set_let_go_row : let_go_by two [] (sets (holding (codes "b") (codes "C;3"))) ≡ object (codes "C;2") ∷ []
unfolding let_go_by value_under refs
set_let_go_row = refl

set_variables_row : variables_after (sets (holding (codes "a") (codes "C;3"))) two ≡ holding (codes "a") (codes "C;3")
    ∷ (holding (codes "b") (codes "C;2") ∷ [])
unfolding variables_after put
set_variables_row = refl

drop_row : variables_after (drops (codes "a")) two ≡ holding (codes "b") (codes "C;2") ∷ []
unfolding variables_after
drop_row = refl

-- a frame lets its variables go in order, and the own object last, under the interface that was called
end_row : let_go_at_end (codes "S;1")
    (record { number = 0; object = 1; face = x_interface_name; function = 3; from_peer = true; variables = two; place = 0 })
    ≡ object (codes "C;1") ∷ (object (codes "C;2") ∷ (own (codes "S;1") x_interface_name ∷ []))
unfolding let_go_at_end refs_under refs
end_row = refl

-- a method begins with its arguments, and with defaults of what only comes out
first_row : first_variables demo
    (record { way = way.Into; name = codes "a"; kind = kd.long } ∷ (record { way = way.Out; name = codes "b"; kind = kd.str }
    ∷ (record { way = way.Both; name = codes "c"; kind = kd.long } ∷ [])))
    (long 1 ∷ (long 2 ∷ []))
    ≡ a_variable (codes "a") (long 1) ∷ (a_variable (codes "b") (v.str []) ∷ (a_variable (codes "c") (long 2) ∷ []))
unfolding first_variables default_of_kind default_within
first_row = refl

-- a call with a value that goes in, one that comes out, and one that goes both ways
abbrev a_call : Call
a_call =
    record {
      target = expression.own;
      callee = record { owner = x_node; name = codes "pass" };
      arguments = into (constant (long 1)) ∷ (out (codes "a") ∷ (both (codes "b") ∷ []));
      to = None;
    }

-- its result is not named, and goes before the old values of the variables
answer_row : takes_answer a_call (v.ref (object (codes "C;7"))) (v.ref (object (codes "C;8")) ∷ (v.ref null ∷ [])) two
    ≡ record {
      variables = holding (codes "a") (codes "C;8") ∷ (a_variable (codes "b") (v.ref null) ∷ []);
      let_go = object (codes "C;7") ∷ (object (codes "C;1") ∷ (object (codes "C;2") ∷ []));
    }
unfolding takes_answer takes_outs put value_under refs
answer_row = refl

-- an own object that supports the wanted interface, and one that does not
supported_row : query_answer demo (x_node ∷ []) (codes "S;1") (kd.interface x_interface_name)
    ≡ v.any (kd.interface x_interface_name) (v.ref (own (codes "S;1") x_interface_name))
unfolding query_answer supports is_base_of reaches_within find_entity
supported_row = refl

not_supported_row : query_answer demo (x_node ∷ []) (codes "S;1") (kd.interface x_echo) ≡ no_object
unfolding query_answer supports is_base_of reaches_within find_entity
not_supported_row = refl

-- the reference of an answer is taken where its type is assignable, and else let go
taken_row : takes_reference demo x_interface_name (codes "q") (v.any (kd.interface x_node) (v.ref (object (codes "C;9")))) []
    ≡ record { variables = holding (codes "q") (codes "C;9") ∷ []; let_go = [] }
unfolding takes_reference is_base_of reaches_within find_entity
taken_row = refl

not_taken_row : takes_reference demo x_echo (codes "q") (v.any (kd.interface x_node) (v.ref (object (codes "C;9")))) []
    ≡ record { variables = a_variable (codes "q") (v.ref null) ∷ []; let_go = object (codes "C;9") ∷ [] }
unfolding takes_reference is_base_of reaches_within find_entity refs
not_taken_row = refl
