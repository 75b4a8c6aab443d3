-- Wherever the moves of a pair lead, each move that there is can be done: what its roots enter may stand.
use Rattle.std.proofs.Common.{◌≡◌, refl, sym, ap, ◌∙◌, subst, ℕ, ◌≤◌, true, List, [], ◌∷◌, length, take, Option, None, Some}
use Rattle.std.specs.List.{AllByRecursion}
use Rattle.std.specs.Str.{bytes_eq}
use Rattle.plan_model.specs.Roots.{Run}
use Rattle.bridge_laws.specs.Living.{plan_constants}
use Rattle.bridge_laws.specs.OfPlan.{IsRoot}
use Rattle.bridge_model.specs.Entries.{Entry}
use Rattle.bridge_model.specs.Histories.{bytes_fed, Leads}
use Rattle.bridge_model.specs.RootRuns.{Moved, waiting, finished, moved, root_moves, StandsFor}
use Rattle.bridge_model.specs.Settings.{Setting}
use Rattle.bridge_model.specs.Steps.{may}
use Rattle.bridge_laws.specs.RootConstants.{root_constants}
use Rattle.bridge_laws.proofs.MayLaws.{own_entry_may}
use Rattle.bridge_laws.proofs.RootConstantLaws.{roots_refer_to_nothing}
use Rattle.bridge_laws.proofs.OwnLaws.{move_feeds}
use Rattle.world_model.specs.Moves.{moves}
use Rattle.world_model.specs.Pairs.{Pairing}
use Rattle.world_laws.specs.Ready.{AreReady, BothGiveWell}
use Rattle.world_laws.proofs.SaidLaws.{fit}
use Rattle.world_model.specs.Worlds.{Settings, of_a, of_b, End, pipe, may_come, entries_of}
use Rattle.world_model.specs.declared.side.Side.TheVariants.{A, B}
use Rattle.world_laws.specs.Doing.{IsReached, at_first, at_next, CanBeDone}
use Rattle.world_laws.proofs.AllDone.{all_done}
use Rattle.world_laws.proofs.DoingLaws.{acts_can, nothing_comes}
use Rattle.world_laws.proofs.Entering.{MovedCanEnter, RunCanMove, RootsCanMove}
use Rattle.world_laws.proofs.PlayLaws.{IsGood, first_good, some_good}
use Rattle.world_laws.proofs.StandLaws.{AreStanding, first_standing, some_stands, each_stands}

-- ---- what roots enter

module _ (g : Setting) (es : List Entry) (one other : End) (leads : Leads g es one.now) (closed : plan_constants g.plan ≡ []) (also : root_constants g.plan ≡ []) where
  comes_so : (x : Entry) → bytes_fed x ≡ [] → may_come other.now one.now x ≡ true
  comes_so x none = ap (λ b. bytes_eq b (take (length b) (pipe other.now one.now))) none ∙ nothing_comes one other

  moved_enters : (r : Run) → IsRoot g r.root → StandsFor g es r → (m : Moved) → root_moves g one.now.side r ≡ m → MovedCanEnter g one other m
  moved_enters r root stand waiting is = tt
  moved_enters r root stand finished is = tt
  moved_enters r root stand (moved next None) is = tt
  moved_enters r root stand (moved next (Some x)) is =
      acts_can g one other x (comes_so x (move_feeds g one.now.side r next x is)) (own_entry_may g es r next x one.now closed also root leads stand is)

  all_enter : (rs : List Run) → AllByRecursion (λ (r : Run). IsRoot g r.root) rs → AllByRecursion (StandsFor g es) rs → AllByRecursion (RunCanMove g one other) rs
  all_enter [] roots stand = tt
  all_enter (r ∷ rs) roots stand = (moved_enters r roots.0 stand.0 (root_moves g one.now.side r) refl, all_enter rs roots.1 stand.1)

-- ---- wherever moves lead

pub reached_good : (g : Settings) (seed : Option ℕ) (cut : ℕ) (p : Pairing) → IsReached g seed cut p → IsGood g p
reached_good g seed cut p at_first = first_good g seed
reached_good g seed cut p' (at_next p next reached m is) = some_good g cut p next (Some m) (reached_good g seed cut p reached) is

pub reached_stands : (g : Settings) (seed : Option ℕ) (cut : ℕ) (p : Pairing) → IsReached g seed cut p → AreStanding g p
reached_stands g seed cut p at_first = first_standing g seed
reached_stands g seed cut p' (at_next p next reached m is) = some_stands g cut p next (Some m) (reached_stands g seed cut p reached) is

pub reached_done : (g : Settings) (seed : Option ℕ) (cut : ℕ) → 1 ≤ cut → AreReady g → (p : Pairing) → IsReached g seed cut p → BothGiveWell g p.events
    → AllByRecursion (CanBeDone g cut p) (moves g p.world p.runs)
reached_done g seed cut some ready p reached well =
    let good = reached_good g seed cut p reached in
    let stand = reached_stands g seed cut p reached in
    let fits = fit g ready.up in
    all_done g cut some ready p good.history well
    (record {
      a = all_enter (of_a g) (entries_of A p.events) p.world.a p.world.b stand.lead_a fits.closed_a (roots_refer_to_nothing g.registry g.a.plan ready.up.keeps_a) p.runs.a good.roots_a
          (each_stands (of_a g) (entries_of A p.events) 1 p.runs.a stand.runs_a);
      b = all_enter (of_b g) (entries_of B p.events) p.world.b p.world.a stand.lead_b fits.closed_b (roots_refer_to_nothing g.registry g.b.plan ready.up.keeps_b) p.runs.b good.roots_b
          (each_stands (of_b g) (entries_of B p.events) 1 p.runs.b stand.runs_b);
    })
