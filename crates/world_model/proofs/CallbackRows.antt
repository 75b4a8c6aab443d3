-- One exchange with a callback: where the thread is behind each part of it.
use Rattle.std.proofs.Common.{◌≡◌, refl, ℕ, List, [], ◌∷◌, map, Some, codes}
use Rattle.plan_model.proofs.DemoPlans.{x_node}
use Rattle.bridge_model.specs.Entries.{applied}
use Rattle.bridge_model.specs.Settings.{is_own}
use Rattle.world_model.specs.Threads.{Call, Crossing, idle, runs, asked, answered, View, turned, seen, view}
use Rattle.world_model.specs.Worlds.{of_a, World}
use Rattle.world_model.proofs.OnLiterals.{on_literals}
use Rattle.world_model.proofs.Rows.{Act, at_a, at_b, does, drains, carries, along, two, first, asks, calls, on_1, calls_back}

abbrev there : Call
there = record { oid = codes "B;1"; called = record { face = x_node; function = 3 } }

abbrev back : Call
back = record { oid = codes "A;2"; called = record { face = x_node; function = 3 } }

abbrev crossed : Call → Crossing
crossed k = record { call = k; above = 0 }

-- the call goes out, is served, calls back, is served here, and each is answered in turn
abbrev parts : List (List Act)
parts =
    asks
    ∷ (calls
    ∷ ((at_a drains ∷ (at_b carries ∷ []))
    ∷ (calls_back
    ∷ ((at_b drains ∷ (at_a carries ∷ []))
    ∷ ((at_a (does (applied on_1)) ∷ [])
    ∷ ((at_a drains ∷ (at_b carries ∷ (at_b carries ∷ [])))
    ∷ ((at_b (does (applied on_1)) ∷ []) ∷ ((at_b drains ∷ (at_a carries ∷ [])) ∷ []))))))))

abbrev seen_on_1 : World → View
seen_on_1 w = view (is_own (of_a two)) on_1 w.a.last w.b.last

-- an own release stands before the answer of the callback, since its object came a second time
thread_row : along two seen_on_1 first parts
    ≡ map Some
    (seen idle
    ∷ (seen (asked there 0 [])
    ∷ (turned (seen (runs 0 (crossed there ∷ [])))
    ∷ (turned (seen (asked back 0 (crossed there ∷ [])))
    ∷ (seen (runs 0 (crossed back ∷ (crossed there ∷ [])))
    ∷ (turned (seen (answered back 0 (crossed there ∷ [])))
    ∷ (turned (seen (runs 0 (crossed there ∷ []))) ∷ (seen (answered there 0 []) ∷ (seen idle ∷ [])))))))))
unfolding on_literals
thread_row = refl
