-- Each move that there is at two joined ends can be done, where their runs stand for the entries: of any history of them.
use Rattle.std.proofs.Common.{◌≡◌, refl, ap, ◌∙◌, ℕ, ◌≤◌, true, List, [], ◌∷◌, length, take, None, Some}
use Rattle.std.specs.List.{AllByRecursion}
use Rattle.std.specs.Str.{bytes_eq}
use Rattle.plan_model.specs.Roots.{Run}
use Rattle.bridge_laws.specs.Living.{plan_constants}
use Rattle.bridge_model.specs.Entries.{Entry}
use Rattle.bridge_model.specs.Histories.{Leads, bytes_fed}
use Rattle.bridge_model.specs.RootRuns.{Moved, waiting, finished, moved, root_moves}
use Rattle.bridge_model.specs.Settings.{Setting}
use Rattle.bridge_laws.proofs.MayLaws.{own_entry_may}
use Rattle.bridge_laws.proofs.RootConstantLaws.{roots_refer_to_nothing}
use Rattle.bridge_laws.specs.RootConstants.{root_constants}
use Rattle.world_laws.specs.Standing.{StandsAt, AllStandAt}
use Rattle.world_laws.proofs.StandingLaws.{is_of_plan}
use Rattle.bridge_laws.proofs.OwnLaws.{move_feeds}
use Rattle.world_laws.proofs.AllDone.{all_done}
use Rattle.world_laws.proofs.DoingLaws.{acts_can, nothing_comes}
use Rattle.world_laws.proofs.Entering.{MovedCanEnter, RunCanMove}
use Rattle.world_laws.specs.Doing.{CanBeDone}
use Rattle.world_model.specs.Moves.{moves}
use Rattle.world_model.specs.Pairs.{Pairing}
use Rattle.world_laws.proofs.CarriedLaws.{whole_met}
use Rattle.world_laws.specs.Ready.{AreReady, BothGiveWell}
use Rattle.world_laws.proofs.RunLaws.{both_lead}
use Rattle.world_laws.proofs.SaidLaws.{fit}
use Rattle.world_model.specs.Worlds.{Settings, of_a, of_b, End, Runs, pipe, may_come, entries_of}
use Rattle.world_model.specs.declared.side.Side.TheVariants.{A, B}

module _ (g : Setting) (es : List Entry) (one other : End) (leads : Leads g es one.now) (closed : plan_constants g.plan ≡ []) (also : root_constants g.plan ≡ []) where
  comes_so : (x : Entry) → bytes_fed x ≡ [] → may_come other.now one.now x ≡ true
  comes_so x none = ap (λ b. bytes_eq b (take (length b) (pipe other.now one.now))) none ∙ nothing_comes one other

  moved_enters : (r : Run) → StandsAt g es r → (m : Moved) → root_moves g one.now.side r ≡ m → MovedCanEnter g one other m
  moved_enters r stand waiting is = tt
  moved_enters r stand finished is = tt
  moved_enters r stand (moved next None) is = tt
  moved_enters r stand (moved next (Some x)) is =
      acts_can g one other x (comes_so x (move_feeds g one.now.side r next x is))
      (own_entry_may g es r next x one.now closed also (is_of_plan g r.root stand.root) leads stand.stands is)

  all_enter : (rs : List Run) → AllStandAt g es rs → AllByRecursion (RunCanMove g one other) rs
  unfolding AllStandAt
  all_enter [] stand = tt
  all_enter (r ∷ rs) stand = (moved_enters r stand.0 (root_moves g one.now.side r) refl, all_enter rs stand.2)

pub moves_can : (g : Settings) (cut : ℕ) → 1 ≤ cut → AreReady g → (p : Pairing) → Runs g p.events p.world → BothGiveWell g p.events → AllStandAt (of_a g) (entries_of A p.events) p.runs.a
    → AllStandAt (of_b g) (entries_of B p.events) p.runs.b → AllByRecursion (CanBeDone g cut p) (moves g p.world p.runs)
moves_can g cut least ready p runs well stand_a stand_b =
    let lead = both_lead g p.events p.world (whole_met g ready p.events well p.world runs).met in
    let fits = fit g ready.up in
    all_done g cut least ready p runs well
    (record {
      a = all_enter (of_a g) (entries_of A p.events) p.world.a p.world.b lead.a fits.closed_a (roots_refer_to_nothing g.registry g.a.plan ready.up.keeps_a) p.runs.a stand_a;
      b = all_enter (of_b g) (entries_of B p.events) p.world.b p.world.a lead.b fits.closed_b (roots_refer_to_nothing g.registry g.b.plan ready.up.keeps_b) p.runs.b stand_b;
    })
