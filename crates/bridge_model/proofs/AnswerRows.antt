-- What calls answer behind a journal.
use Rattle.std.proofs.Common.{◌≡◌, refl, ℕ, Bool, true, false, List, [], ◌∷◌, ◌++◌, Option, None, Some, option_map, codes}
use Rattle.plan_model.specs.Frames.{Job}
use Rattle.plan_model.proofs.DemoPlans.{x_node}
use Rattle.uno_model.specs.BuiltIn.{x_interface_name}
use Rattle.urp_model.specs.declared.reason.Reason.TheVariants as reason
use Rattle.bridge_model.specs.Answers.{taken, broken, gone, feed_answer, started, answered_already, not_held, gone_already, begun, ready_at, pick, counts_of, at_rest, awaits_input, bytes_wait, may_reap}
use Rattle.bridge_model.specs.Entries.{Entry, fed, drained, asked, called, queried, made, dropped, disposed}
use Rattle.bridge_model.specs.Histories.{replay}
use Rattle.bridge_model.specs.Settings.{Setting}
use Rattle.bridge_model.specs.Sides.{Side}
use Rattle.bridge_model.proofs.EchoRows.{echo, asks_echo, grants_echo, twice_21}
use Rattle.bridge_model.proofs.NodeRows.{node, once}
use Rattle.bridge_model.proofs.OnLiterals.{on_literals}
use Rattle.bridge_model.proofs.OrderRows.{caller}
use Rattle.bridge_model.proofs.Rows.{hex}

-- what is told of the side behind a journal
abbrev behind : {X : Type 0} → Setting → List Entry → (Side → X) → Option X
behind g es tells = option_map (λ x. tells x.side) (replay g es)

-- ---- pieces

-- of a piece with more than a block, the block is taken
taken_row : behind echo [] (λ s. feed_answer echo s (asks_echo ++ (0 ∷ (0 ∷ [])))) ≡ Some (taken 66)
unfolding on_literals
taken_row = refl

broken_row : behind echo [] (λ s. feed_answer echo s (hex (codes "00000000 00000000 00"))) ≡ Some (broken reason.NoMessages 0)
unfolding on_literals
broken_row = refl

nothing_row : behind echo [] (λ s. feed_answer echo s []) ≡ Some (taken 0)
unfolding on_literals
nothing_row = refl

gone_row : behind echo (disposed ∷ []) (λ s. feed_answer echo s asks_echo) ≡ Some gone
unfolding on_literals
gone_row = refl

-- ---- rest

abbrev rests : Setting → Side → Bool × Bool × Bool
rests g s = (at_rest g s, awaits_input s, bytes_wait g s)

opening_row : behind echo [] (rests echo) ≡ Some (true, false, false)
unfolding on_literals
opening_row = refl

part_row : behind echo (fed (0 ∷ []) ∷ []) (rests echo) ≡ Some (false, true, false)
unfolding on_literals
part_row = refl

waiting_row : behind echo (fed asks_echo ∷ []) (rests echo) ≡ Some (false, false, true)
unfolding on_literals
waiting_row = refl

-- ---- what can be done, and counts

abbrev called_21 : List Entry
called_21 = fed asks_echo ∷ (drained grants_echo ∷ (fed twice_21 ∷ []))

abbrev first_two : Side → Option (List ℕ) × Option (List ℕ)
first_two s = (ready_at s 0, ready_at s 1)

ready_row : behind echo called_21 first_two ≡ Some (Some (codes "T"), None)
unfolding on_literals
ready_row = refl

-- the job of the method that runs: one frame, no fields, behaviour 0, the object `S;1`
abbrev seen_job : Job → ℕ × ℕ × List ℕ
seen_job j = (j.depth, j.behaviour, j.own)

job_row : behind echo called_21 (λ s. option_map seen_job (pick echo (codes "T") s)) ≡ Some (Some (1, 0, codes "S;1"))
unfolding on_literals
job_row = refl

no_job_row : behind echo [] (λ s. pick echo (codes "T") s) ≡ Some None
unfolding on_literals
no_job_row = refl

-- an object of the peer's that a field holds is one proxy
counts_row : behind node once (counts_of node) ≡ Some (record { stubs = 1; proxies = 1; objects = 1 })
unfolding on_literals
counts_row = refl

-- ---- what roots begin

asked_row : behind caller [] (λ s. begun caller s (asked 1 (codes "node") x_node)) ≡ Some started
unfolding on_literals
asked_row = refl

not_held_row : behind caller [] (λ s. begun caller s (called 1 (codes "B;1") x_node 8 [])) ≡ Some not_held
unfolding on_literals
not_held_row = refl

-- an own object is queried at once
queried_row : behind caller (made 1 0 x_node ∷ []) (λ s. begun caller s (queried 1 (codes "A;2") x_node x_interface_name)) ≡ Some answered_already
unfolding on_literals
queried_row = refl

ended_row : behind caller (disposed ∷ []) (λ s. begun caller s (asked 1 (codes "node") x_node)) ≡ Some gone_already
unfolding on_literals
ended_row = refl

-- ---- objects that go

-- an object that was made and let go may be reaped; the exported one stays
may_reap_row : behind caller (made 1 0 x_node ∷ (dropped 1 (codes "A;2") x_node ∷ [])) (may_reap caller) ≡ Some (Some 2)
unfolding on_literals
may_reap_row = refl

stays_row : behind caller (made 1 0 x_node ∷ []) (may_reap caller) ≡ Some None
unfolding on_literals
stays_row = refl
