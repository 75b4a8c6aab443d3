-- Where a pair has played and no end reached its limit, every run is finished.
use Rattle.std.proofs.Common.{◌≡◌, sym, ◌∙◌, ℕ, ◌⊎◌, inl, inr, true, false, [], Option}
use Rattle.std.specs.List.{AllByRecursion}
use Rattle.std.proofs.lemmas.Bool.{true≢false}
use Rattle.plan_model.specs.Roots.{Run}
use Rattle.bridge_model.specs.RootRuns.{finished, root_moves}
use Rattle.world_model.specs.Pairs.{Pairing, has_full, IsPaired}
use Rattle.world_model.specs.Moves.{moves}
use Rattle.world_laws.specs.Ready.{AreReady, BothGiveWell}
use Rattle.world_model.specs.Worlds.{Settings, of_a, of_b, Runs}
use Rattle.world_laws.proofs.PlayLaws.{pair_played}
use Rattle.world_laws.proofs.StuckLaws.{stuck_a, stuck_b}

none_left : (g : Settings) (q : Pairing) → has_full q.world ≡ false → (has_full q.world ≡ true) ⊎ (moves g q.world q.runs ≡ []) → moves g q.world q.runs ≡ []
none_left g q none (inl full) = absurd (true≢false (sym full ∙ none))
none_left g q none (inr is) = is

pub pair_history : (g : Settings) (seed : Option ℕ) (cut : ℕ) (last : Pairing) → IsPaired g seed cut last → Runs g last.events last.world
pair_history g seed cut last is = (pair_played g seed cut last is).good.history

pub pair_finished_a : (g : Settings) → AreReady g
    → (seed : Option ℕ) (cut : ℕ) (last : Pairing) → BothGiveWell g last.events → IsPaired g seed cut last → has_full last.world ≡ false
    → AllByRecursion (λ (r : Run). root_moves (of_a g) last.world.a.now.side r ≡ finished) last.runs.a
pair_finished_a g ready seed cut last well is none =
    let played = pair_played g seed cut last is in
    stuck_a g ready last.events last.world last.runs well played.good.history played.good.roots_a (none_left g last none played.stops)

pub pair_finished_b : (g : Settings) → AreReady g
    → (seed : Option ℕ) (cut : ℕ) (last : Pairing) → BothGiveWell g last.events → IsPaired g seed cut last → has_full last.world ≡ false
    → AllByRecursion (λ (r : Run). root_moves (of_b g) last.world.b.now.side r ≡ finished) last.runs.b
pair_finished_b g ready seed cut last well is none =
    let played = pair_played g seed cut last is in
    stuck_b g ready last.events last.world last.runs well played.good.history played.good.roots_b (none_left g last none played.stops)
