-- The node plan calls the peer back, on the thread of the call that it serves; an object comes home; and an exception goes through two frames of calls within an
-- end.
use Rattle.std.proofs.Common.{◌≡◌, refl, ℕ, List, [], ◌∷◌, ◌++◌, None, Some, codes}
use Rattle.plan_model.proofs.DemoPlans.{demo, node_plan, node_behaviour, x_node, long, refusal, refused}
use Rattle.plan_model.specs.Expressions.{own, constant, into}
use Rattle.plan_model.specs.Plans.{Plan, Method}
use Rattle.plan_model.specs.Statements.{Statement, call, raise}
use Rattle.bridge_model.specs.Entries.{Entry, fed, drained}
use Rattle.bridge_model.specs.Settings.{Setting}
use Rattle.bridge_model.specs.declared.cause.Cause.TheVariants.{Disposed}
use Rattle.bridge_model.proofs.NodeRows.{node, asks_node, grants_node, on_t}
use Rattle.bridge_model.proofs.OnLiterals.{on_literals}
use Rattle.bridge_model.proofs.Rows.{hex, Seen, seen}

abbrev asked : List Entry
asked = fed asks_node ∷ (drained grants_node ∷ [])

-- the peer has the object, and nothing waits
abbrev granted : Seen
granted = record { waiting = []; stubs = 1; held = 0; objects = 1; stacks = 0; cause = None }

-- ---- a callback

-- relay(`C;2`, 1) calls `C;2` with the own object and 0
abbrev relays_1 : List ℕ
relays_1 = hex (codes "00000015 00000001 F0 03 16 0001 03") ++ (codes "S;1" ++ (hex (codes "0001 03") ++ (codes "C;2" ++ hex (codes "0002 00000001"))))

abbrev calls_back : List ℕ
calls_back = hex (codes "00000012 00000001 F0 03 16 0000 03") ++ (codes "C;2" ++ hex (codes "0001 00 0000 00000000"))

abbrev called_back : List Entry
called_back = asked ++ (fed relays_1 ∷ (on_t ∷ (on_t ∷ (drained calls_back ∷ []))))

-- the method that waits holds `C;2` and its own object; the own object went out once more
calls_back_row : seen node called_back ≡ Some (record granted { held = 2; stacks = 1 })
unfolding on_literals
calls_back_row = refl

-- the peer calls the own object on the same thread, relay(`C;2`, 0): the pair came again, so it is released once, and a second frame stands above the first
abbrev relays_0 : List ℕ
relays_0 = hex (codes "00000008 00000001 03 00 0002 00000000")

abbrev releases_c_2 : List ℕ
releases_c_2 = hex (codes "00000008 00000001 C8 02 03") ++ (codes "S;0" ++ hex (codes "0001"))

abbrev entered : List Entry
entered = called_back ++ (fed relays_0 ∷ (drained releases_c_2 ∷ []))

entered_row : seen node entered ≡ Some (record granted { held = 4; stacks = 1 })
unfolding on_literals
entered_row = refl

-- it returns 0; the reply of the peer is for the call that waits, and the first frame returns 1 and lets `C;2` go behind that
abbrev is_0 : List ℕ
is_0 = hex (codes "00000008 00000001 88 00 0000 00000000")

abbrev replies_0 : List ℕ
replies_0 = hex (codes "00000005 00000001 80 00000000")

abbrev is_1 : List ℕ
is_1 = hex (codes "00000005 00000001 80 00000001")

abbrev lets_c_2_go : List ℕ
lets_c_2_go = hex (codes "00000005 00000001 C8 02 00 0001")

relayed_row : seen node (entered ++ (on_t ∷ (drained is_0 ∷ (fed replies_0 ∷ (on_t ∷ (drained (is_1 ++ lets_c_2_go) ∷ []))))))
    ≡ Some granted
unfolding on_literals
relayed_row = refl

-- a callback that calls back again: the reply of the peer is for the call that went out last
abbrev relays_1_again : List ℕ
relays_1_again = hex (codes "00000008 00000001 03 00 0002 00000001")

abbrev calls_back_again : List ℕ
calls_back_again = hex (codes "0000000C 00000001 C8 03 00 0000 00 0000 00000000")

abbrev replies_1 : List ℕ
replies_1 = hex (codes "00000005 00000001 80 00000001")

abbrev is_2 : List ℕ
is_2 = hex (codes "00000005 00000001 80 00000002")

abbrev nested : List Entry
nested = called_back ++ (fed relays_1_again ∷ (on_t ∷ (on_t ∷ (drained (releases_c_2 ++ calls_back_again) ∷ []))))

nested_row : seen node (nested ++ (fed replies_0 ∷ (on_t ∷ (drained is_1 ∷ (fed replies_1 ∷ (on_t ∷ (drained (is_2 ++ lets_c_2_go) ∷ [])))))))
    ≡ Some granted
unfolding on_literals
nested_row = refl

-- ---- an object that comes home

-- relay(`S;1`, 1) to `S;1` itself: the call that it makes is one within this end, and nothing goes out before the reply
abbrev relays_home : List ℕ
relays_home = hex (codes "00000012 00000001 F0 03 16 0001 03") ++ (codes "S;1" ++ hex (codes "0001 00 0001 00000001"))

home_row : seen node (asked ++ (fed relays_home ∷ (on_t ∷ (on_t ∷ (on_t ∷ (on_t ∷ (drained is_1 ∷ []))))))) ≡ Some granted
unfolding on_literals
home_row = refl

-- ---- an exception through two frames

-- `shut` calls `forget`, which calls `check`, which raises what `forget` does not declare
abbrev calls_own : List ℕ → Statement
calls_own name = call (record { target = own; callee = record { owner = x_node; name = name }; arguments = []; to = None })

abbrev checks_5 : Statement
checks_5 = call (record { target = own; callee = record { owner = x_node; name = codes "check" }; arguments = into (constant (long 5)) ∷ []; to = None })

abbrev method_of : List ℕ → Statement → Method
method_of name s = record { face = x_node; function = name; body = s ∷ [] }

abbrev raising_plan : Plan
raising_plan =
    record node_plan {
      behaviours =
          record node_behaviour {
            methods =
                method_of (codes "shut") (calls_own (codes "forget"))
                ∷ (method_of (codes "forget") checks_5 ∷ (method_of (codes "check") (raise refused refusal) ∷ []));
          }
          ∷ [];
    }

abbrev raising : Setting
raising = record { tag = codes "S"; registry = demo; plan = raising_plan }

abbrev shuts : List ℕ
shuts = hex (codes "0000000B 00000001 F0 08 16 0001 03") ++ (codes "S;1" ++ hex (codes "0001"))

-- each frame holds the own object
three_frames_row : seen raising (asked ++ (fed shuts ∷ (on_t ∷ (on_t ∷ [])))) ≡ Some (record granted { held = 3; stacks = 1 })
unfolding on_literals
three_frames_row = refl

-- one event ends all three
abbrev undeclared : List ℕ
undeclared =
    hex (codes "00000041 00000001 A0 93 0001 21")
    ++ (codes "com.sun.star.uno.RuntimeException" ++ (hex (codes "17") ++ (codes "undeclared demo.Refused" ++ hex (codes "00 FFFF"))))

raised_row : seen raising (asked ++ (fed shuts ∷ (on_t ∷ (on_t ∷ (on_t ∷ (drained undeclared ∷ [])))))) ≡ Some granted
unfolding on_literals
raised_row = refl

-- ---- a statement that ends the bridge

disposed_row : seen node (asked ++ (fed shuts ∷ (on_t ∷ []))) ≡ Some (record granted { stubs = 0; cause = Some Disposed })
unfolding on_literals
disposed_row = refl
