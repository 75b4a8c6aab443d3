-- Two ends that act one after the other: what they do, and what is seen of it.
use Rattle.std.specs.Prelude.{ℕ, List, [], ◌∷◌, Option, None, Some, codes}
use Rattle.std.specs.Option.{option_map}
use Rattle.plan_model.proofs.DemoPlans.{demo, node_plan, x_node, long}
use Rattle.uno_model.specs.Values.{own, Plain}
use Rattle.uno_model.specs.Values as v
use Rattle.bridge_model.specs.Answers.{drained_next, next_cut}
use Rattle.bridge_model.specs.Entries.{Entry, fed, asked, called, made, applied, took, drained}
use Rattle.bridge_model.specs.Histories.{Told}
use Rattle.bridge_model.specs.Settings.{Setting}
use Rattle.world_model.specs.Worlds.{Settings, of_a, of_b, World, opening_world, Event, happens, pipe}
use Rattle.world_model.specs.declared.side.Side.{Side}
use Rattle.world_model.specs.declared.side.Side.TheVariants.{A, B}

-- an end makes an entry; it drains all that waits; or it is fed up to the end of the next block
pub data Deed : Type 0 where
  does : Entry → Deed
  drains : Deed
  carries : Deed

pub record Act : Type 0 where
  pub side : Side
  pub deed : Deed

abbrev pub at_a : Deed → Act
at_a d = record { side = A; deed = d }

abbrev pub at_b : Deed → Act
at_b d = record { side = B; deed = d }

abbrev entry_of : Setting → (from to : Told) → Deed → Entry
entry_of g x y (does e) = e
entry_of g x y drains = drained (drained_next g 65536 y.side)
entry_of g x y carries = fed (next_cut y.side (pipe x y))

abbrev event_of : Settings → World → Side → Deed → Event
event_of g w A d = record { side = A; entry = entry_of (of_a g) w.b.now w.a.now d }
event_of g w B d = record { side = B; entry = entry_of (of_b g) w.a.now w.b.now d }

abbrev pub after : Settings → Option World → List Act → Option World
after g None ds = None
after g (Some w) [] = Some w
after g (Some w) (d ∷ ds) = after g (happens g w (event_of g w d.side d.deed)) ds

-- what is seen behind each of these
abbrev pub along : {X : Type 0} → Settings → (World → X) → Option World → List (List Act) → List (Option X)
along g see o [] = []
along g see o (ds ∷ rest) = option_map see (after g o ds) ∷ along g see (after g o ds) rest

-- ---- two nodes

-- the first has two roots; both export a node
abbrev pub two : Settings
two = record { registry = demo; a = record { tag = codes "A"; plan = record node_plan { threads = [] ∷ ([] ∷ []) } }; b = record { tag = codes "B"; plan = node_plan } }

abbrev pub first : Option World
first = Some (opening_world two)

-- the first root asks for the node of the other end, and has it
abbrev pub asks : List Act
asks = at_a (does (asked 1 (codes "node") x_node)) ∷ (at_a drains ∷ (at_b carries ∷ (at_b drains ∷ (at_a carries ∷ (at_a (does (took 1)) ∷ [])))))

-- relay(`A;2`, 1) calls `A;2` back with the own object and 0
abbrev given : List Plain
given = v.ref (own (codes "A;2") x_node) ∷ (long 1 ∷ [])

abbrev pub calls : List Act
calls = at_a (does (made 1 0 x_node)) ∷ (at_a (does (called 1 (codes "B;1") x_node 3 given)) ∷ [])

abbrev pub on_1 : List ℕ
on_1 = codes "A;1"

-- the other end serves the call up to its own
abbrev pub calls_back : List Act
calls_back = at_b (does (applied on_1)) ∷ (at_b (does (applied on_1)) ∷ [])
