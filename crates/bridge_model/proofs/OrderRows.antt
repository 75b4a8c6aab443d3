-- What comes in as one piece, in the order in which `answer` works; and a root that asks, makes, calls and compares.
use Rattle.std.proofs.Common.{◌≡◌, refl, ℕ, List, [], ◌∷◌, ◌++◌, map, Option, Some, option_map, codes}
use Rattle.uno_model.specs.BuiltIn.{x_interface_name}
use Rattle.uno_model.specs.Kinds as kd
use Rattle.plan_model.proofs.DemoPlans.{demo, node_plan, named, x_node}
use Rattle.plan_model.specs.Expressions.{variable, into}
use Rattle.plan_model.specs.Statements.{RootStatement, ask, root_call, root_make, same}
use Rattle.bridge_model.specs.Orders.{begins_work, works}
use Rattle.bridge_model.specs.Settings.{Setting}
use Rattle.bridge_model.specs.declared.cause.Cause.TheVariants.{Ended}
use Rattle.bridge_model.proofs.EchoRows.{echo, asks_echo, grants_echo, twice_21, is_42, twice_1, is_2, lets_echo_go}
use Rattle.bridge_model.proofs.OnLiterals.{on_literals}
use Rattle.bridge_model.proofs.Rows.{hex, Seen, seen_of}

-- the bytes that went out, the lines of the roots, and what is seen at the end
pub record Done : Type 0 where
  pub written : List ℕ
  pub lines : List (List (List ℕ))
  pub last : Seen

abbrev done : Setting → List ℕ → Option Done
done g bytes = option_map (λ w. record { written = w.told.bytes_out; lines = map (λ r. r.lines) w.runs; last = seen_of g w.told.side }) (works 30 g (begins_work g bytes))

echo_row : done echo (asks_echo ++ (twice_21 ++ (twice_1 ++ lets_echo_go)))
    ≡ Some (record {
      written = grants_echo ++ (is_42 ++ is_2);
      lines = [];
      last = record { waiting = []; stubs = 0; held = 0; objects = 1; stacks = 0; cause = Some Ended };
    })
unfolding on_literals
echo_row = refl

-- ---- a root

abbrev statements : List RootStatement
statements =
    ask (codes "n") x_node (codes "node")
    ∷ (root_make (record { behaviour = 0; face = x_node; to = codes "o" })
    ∷ (root_call (record {
      target = variable (codes "n");
      callee = record { owner = x_node; name = codes "turn" };
      arguments = into (named (codes "o")) ∷ [];
      to = Some (record { name = codes "t"; kind = kd.interface x_interface_name });
    })
    ∷ (same (codes "t") (codes "o") ∷ [])))

abbrev pub caller : Setting
caller = record { tag = codes "A"; registry = demo; plan = record node_plan { threads = statements ∷ [] } }

abbrev asks : List ℕ
asks =
    hex (codes "0000003C 00000001 F8 00 96 0000 1B")
    ++ (codes "com.sun.star.uno.XInterface"
    ++ (hex (codes "04")
    ++ (codes "node" ++ (hex (codes "0000 03") ++ (codes "A;1" ++ (hex (codes "0000 96 0001 0A") ++ codes "demo.XNode"))))))

-- what the peer answers: its object, and then what was given
abbrev grants : List ℕ
grants =
    hex (codes "0000001B 00000001 88 03")
    ++ (codes "A;1" ++ (hex (codes "0000 96 0000 0A") ++ (codes "demo.XNode" ++ (hex (codes "03") ++ (codes "B;1" ++ hex (codes "0000"))))))

abbrev turns : List ℕ
turns = hex (codes "00000011 00000001 F0 04 16 0001 03") ++ (codes "B;1" ++ (hex (codes "0001 03") ++ (codes "A;2" ++ hex (codes "0002"))))

abbrev turned : List ℕ
turned = hex (codes "00000007 00000001 80 03") ++ (codes "A;2" ++ hex (codes "0001"))

-- the object that was sent out and comes home is itself, under another interface
root_row : done caller (grants ++ turned)
    ≡ Some (record {
      written = asks ++ turns;
      lines =
          (codes "1.1 returned @\"B;1\"<demo.XNode>"
          ∷ (codes "1.2 returned @\"A;2\"<demo.XNode>"
          ∷ (codes "1.3 returned @\"A;2\"<com.sun.star.uno.XInterface>" ∷ (codes "1.4 same" ∷ []))))
          ∷ [];
      last = record { waiting = []; stubs = 0; held = 3; objects = 2; stacks = 0; cause = Some Ended };
    })
unfolding on_literals
root_row = refl
