-- The node plan: an object of the peer's comes and goes home, twice.
use Rattle.std.proofs.Common.{◌≡◌, refl, ℕ, List, [], ◌∷◌, ◌++◌, None, Some, codes}
use Rattle.plan_model.proofs.DemoPlans.{demo, node_plan}
use Rattle.bridge_model.specs.Entries.{Entry, fed, drained, applied}
use Rattle.bridge_model.specs.Settings.{Setting}
use Rattle.bridge_model.proofs.OnLiterals.{on_literals}
use Rattle.bridge_model.proofs.Rows.{hex, Seen, seen}

abbrev pub node : Setting
node = record { tag = codes "S"; registry = demo; plan = node_plan }

abbrev pub asks_node : List ℕ
asks_node =
    hex (codes "0000003A 00000001 F8 00 96 0000 1B")
    ++ (codes "com.sun.star.uno.XInterface"
    ++ (hex (codes "04") ++ (codes "node" ++ (hex (codes "0000 01") ++ (codes "T" ++ (hex (codes "0000 96 0001 0A") ++ codes "demo.XNode"))))))

abbrev pub grants_node : List ℕ
grants_node =
    hex (codes "00000019 00000001 88 01")
    ++ (codes "T" ++ (hex (codes "0000 96 0000 0A") ++ (codes "demo.XNode" ++ (hex (codes "03") ++ (codes "S;1" ++ hex (codes "0000"))))))

abbrev pub on_t : Entry
on_t = applied (codes "T")

-- turn of `C;2`, an object of the peer's: it is kept in a field, and goes home
abbrev turns : List ℕ
turns = hex (codes "00000011 00000001 F0 04 16 0001 03") ++ (codes "S;1" ++ (hex (codes "0001 03") ++ (codes "C;2" ++ hex (codes "0002"))))

abbrev turned : List ℕ
turned = hex (codes "00000007 00000001 80 03") ++ (codes "C;2" ++ hex (codes "0001"))

abbrev pub once : List Entry
once = fed asks_node ∷ (drained grants_node ∷ (fed turns ∷ (on_t ∷ (on_t ∷ (drained turned ∷ [])))))

-- the field holds it: one occurrence
abbrev kept : Seen
kept = record { waiting = []; stubs = 1; held = 1; objects = 1; stacks = 0; cause = None }

turned_row : seen node once ≡ Some kept
unfolding on_literals
turned_row = refl

-- the same call again: the pair is held already, so it is released once, before the answer
abbrev turns_again : List ℕ
turns_again = hex (codes "00000004 00000001 04 00 0002")

abbrev released : List ℕ
released = hex (codes "0000000E 00000001 F8 02 16 0000 00 0001 03") ++ (codes "S;0" ++ hex (codes "0001"))

abbrev turned_again : List ℕ
turned_again = hex (codes "00000007 00000001 88 00 0000 00 0001")

turned_again_row : seen node (once ++ (fed turns_again ∷ (on_t ∷ (on_t ∷ (drained (released ++ turned_again) ∷ []))))) ≡ Some kept
unfolding on_literals
turned_again_row = refl
