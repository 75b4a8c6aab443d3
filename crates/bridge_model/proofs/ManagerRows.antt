-- The service manager: it is asked for by name, and creates an object, or raises that the service is unknown.
use Rattle.std.proofs.Common.{◌≡◌, refl, ℕ, List, [], ◌∷◌, ◌++◌, None, Some, codes}
use Rattle.uno_model.specs.BuiltIn.{x_interface_name}
use Rattle.uno_model.specs.Kinds as kd
use Rattle.plan_model.proofs.DemoPlans.{param, parts_registry}
use Rattle.plan_model.specs.Plans.{Plan, Behaviour}
use Rattle.bridge_model.specs.Entries.{Entry, fed, drained, applied}
use Rattle.bridge_model.specs.Settings.{Setting}
use Rattle.bridge_model.proofs.OnLiterals.{on_literals}
use Rattle.bridge_model.proofs.Rows.{hex, Seen, seen}

abbrev part_behaviour : Behaviour
part_behaviour =
    record {
      name = codes "Part";
      faces = x_interface_name ∷ [];
      fields = param (codes "id") kd.long ∷ (param (codes "what") kd.any ∷ (param (codes "more") (kd.sequence kd.any) ∷ []));
      methods = [];
    }

abbrev parts_plan : Plan
parts_plan =
    record {
      behaviours = part_behaviour ∷ [];
      exports = [];
      services = record { name = codes "demo.Part"; behaviour = 0 } ∷ [];
      singletons = record { name = codes "demo.Only"; behaviour = 0 } ∷ [];
      threads = [];
    }

abbrev parts : Setting
parts = record { tag = codes "S"; registry = parts_registry; plan = parts_plan }

abbrev asks_manager : List ℕ
asks_manager =
    hex (codes "00000060 00000001 F8 00 96 0000 1B")
    ++ (codes "com.sun.star.uno.XInterface"
    ++ (hex (codes "0E")
    ++ (codes "ServiceManager" ++ (hex (codes "0000 01") ++ (codes "T" ++ (hex (codes "0000 96 0001 26") ++ codes "com.sun.star.lang.XMultiServiceFactory"))))))

abbrev grants_manager : List ℕ
grants_manager =
    hex (codes "00000035 00000001 88 01")
    ++ (codes "T"
    ++ (hex (codes "0000 96 0000 26") ++ (codes "com.sun.star.lang.XMultiServiceFactory" ++ (hex (codes "03") ++ (codes "S;1" ++ hex (codes "0000"))))))

-- the manager is `S;1` and the singleton `S;2`
abbrev creates_part : List ℕ
creates_part = hex (codes "00000015 00000001 F0 03 16 0001 03") ++ (codes "S;1" ++ (hex (codes "0001 09") ++ codes "demo.Part"))

abbrev created : List ℕ
created = hex (codes "00000007 00000001 80 03") ++ (codes "S;3" ++ hex (codes "0001"))

abbrev on_t : Entry
on_t = applied (codes "T")

abbrev begun : List Entry
begun = fed asks_manager ∷ (drained grants_manager ∷ (fed creates_part ∷ (on_t ∷ (drained created ∷ []))))

abbrev has_part : Seen
has_part = record { waiting = []; stubs = 2; held = 0; objects = 3; stacks = 0; cause = None }

created_row : seen parts begun ≡ Some has_part
unfolding on_literals
created_row = refl

abbrev creates_x : List ℕ
creates_x = hex (codes "00000003 00000001 03 01") ++ codes "x"

abbrev unknown_x : List ℕ
unknown_x =
    hex (codes "00000034 00000001 A0 93 0001 1A")
    ++ (codes "com.sun.star.uno.Exception" ++ (hex (codes "11") ++ (codes "unknown service x" ++ hex (codes "00 FFFF"))))

unknown_row : seen parts (begun ++ (fed creates_x ∷ (on_t ∷ (drained unknown_x ∷ [])))) ≡ Some has_part
unfolding on_literals
unknown_row = refl
