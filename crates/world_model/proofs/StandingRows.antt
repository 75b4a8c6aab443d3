-- A pair that is used and let go while the call is on its way: what uses it in flight, whether it is held, and the release behind.
use Rattle.std.proofs.Common.{◌≡◌, refl, ℕ, List, [], ◌∷◌, map, Option, None, Some, codes, arith}
use Rattle.plan_model.proofs.DemoPlans.{x_node}
use Rattle.plan_model.specs.Forms.{is_export_name}
use Rattle.table_model.specs.Pair.{Pair, pair}
use Rattle.bridge_model.specs.Entries.{dropped}
use Rattle.bridge_laws.specs.Counting.{total, releases_of}
use Rattle.bridge_laws.specs.Standing.{is_ask, uses, Stands}
use Rattle.world_model.specs.Balances.{held_by, IsStanding}
use Rattle.world_model.specs.Flights.{flight}
use Rattle.world_model.specs.Worlds.{World}
use Rattle.world_model.proofs.OnLiterals.{on_literals}
use Rattle.world_model.proofs.Rows.{Act, at_a, at_b, does, drains, carries, along, two, first, asks, calls}

-- the node of the second end
abbrev node : Pair
node = pair (codes "B;1") x_node

-- how often it is used on the way to that end; whether it is held; and the releases on their way
record Uses : Type 0 where
  used : ℕ
  held : ℕ
  released : ℕ

abbrev used_by : World → Uses
used_by w =
    record { used = total (uses node) (flight w.a.last w.b.last); held = held_by node w.a.last; released = total (releases_of node) (flight w.a.last w.b.last) }

-- the root lets the node go while its call of it is on its way; the call arrives, and then the release
abbrev parts : List (List Act)
parts =
    asks
    ∷ (calls
    ∷ ((at_a (does (dropped 1 (codes "B;1") x_node)) ∷ []) ∷ ((at_a drains ∷ (at_b carries ∷ [])) ∷ ((at_b carries ∷ []) ∷ []))))

abbrev row : (used held released : ℕ) → Uses
row a b c = record { used = a; held = b; released = c }

standing_row : along two used_by first parts ≡ map Some (row 0 1 0 ∷ (row 1 1 0 ∷ (row 1 0 1 ∷ (row 0 0 1 ∷ (row 0 0 0 ∷ [])))))
unfolding on_literals uses is_ask is_export_name
standing_row = refl

-- and so it is by the definition: behind each part the node stands
abbrev StandsThen : Option World → Type 0
StandsThen None = ⊥
StandsThen (Some w) = IsStanding w.b.last w.a.last node

abbrev AllStand : List (Option World) → Type 0
AllStand [] = Unit
AllStand (o ∷ os) = StandsThen o × AllStand os

definition_row : AllStand (along two (λ w. w) first parts)
unfolding on_literals uses is_ask is_export_name Stands
definition_row = (tt, ((λ u. omega arith, tt), ((λ u. omega arith, (λ u. omega arith, tt)), ((λ u. omega arith, tt), (tt, tt)))))
