-- A release that crosses a new sending of its pair: each number of the balance behind each part of it.
use Rattle.std.proofs.Common.{◌≡◌, refl, ℕ, List, [], ◌∷◌, map, Option, None, Some, codes}
use Rattle.plan_model.proofs.DemoPlans.{demo, x_node}
use Rattle.table_model.specs.Pair.{Pair, pair}
use Rattle.bridge_model.specs.Entries.{asked}
use Rattle.bridge_laws.specs.Counting.{total, places, releases_of}
use Rattle.world_model.specs.Balances.{held_by, IsBalanced}
use Rattle.world_model.specs.Flights.{flight}
use Rattle.world_model.specs.Worlds.{World}
use Rattle.world_model.proofs.OnLiterals.{on_literals}
use Rattle.world_model.proofs.Rows.{Act, at_a, at_b, does, drains, carries, along, two, first, asks, calls, calls_back}

-- the node of the second end
abbrev node : Pair
node = pair (codes "B;1") x_node

-- the places in all that was sent; the releases that came; the places on their way; whether it is held; and the releases on their way
record Counts : Type 0 where
  sent : ℕ
  released : ℕ
  coming : ℕ
  held : ℕ
  going : ℕ

abbrev counted : World → Counts
counted w =
    record {
      sent = total (places demo node) w.b.last.said;
      released = total (releases_of node) w.b.last.got;
      coming = total (places demo node) (flight w.b.last w.a.last);
      held = held_by node w.a.last;
      going = total (releases_of node) (flight w.a.last w.b.last);
    }

-- the second root asks for the node too, while the first one's call is served
abbrev asks_again : List Act
asks_again = at_a (does (asked 2 (codes "node") x_node)) ∷ (at_a drains ∷ (at_b carries ∷ (at_b drains ∷ (at_a carries ∷ []))))

-- the call calls back with the node while the release of its second arrival is on its way; it arrives a third time; and both releases arrive
abbrev parts : List (List Act)
parts =
    asks
    ∷ (calls
    ∷ ((at_a drains ∷ (at_b carries ∷ []))
    ∷ (asks_again ∷ (calls_back ∷ ((at_b drains ∷ (at_a carries ∷ [])) ∷ ((at_a drains ∷ (at_b carries ∷ (at_b carries ∷ []))) ∷ []))))))

abbrev row : (sent released coming held going : ℕ) → Counts
row a b c d e = record { sent = a; released = b; coming = c; held = d; going = e }

-- in each row the first number is the sum of the others
crossing_row : along two counted first parts
    ≡ map Some (row 1 0 0 1 0 ∷ (row 1 0 0 1 0 ∷ (row 1 0 0 1 0 ∷ (row 2 0 0 1 1 ∷ (row 3 0 1 1 1 ∷ (row 3 0 0 1 2 ∷ (row 3 2 0 1 0 ∷ [])))))))
unfolding on_literals
crossing_row = refl

-- and so it is by the definition: the node is balanced behind each part
abbrev IsBalancedThen : Option World → Type 0
IsBalancedThen None = ⊥
IsBalancedThen (Some w) = IsBalanced demo w.b.last w.a.last node

abbrev AreBalanced : List (Option World) → Type 0
AreBalanced [] = Unit
AreBalanced (o ∷ os) = IsBalancedThen o × AreBalanced os

balance_row : AreBalanced (along two (λ w. w) first parts)
unfolding on_literals
balance_row = (refl, (refl, (refl, (refl, (refl, (refl, (refl, tt)))))))
