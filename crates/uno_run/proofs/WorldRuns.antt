-- Two joined ends at which nothing has happened run as a pair does, and are reported on as one.
use Rattle.std.proofs.Common.{◌≡◌, refl, sym, ap, ◌∙◌, subst, ℕ, true, false, List, [], Option, Some, Result, Err, unwrap_or}
use Rattle.bridge_core.specs.declared.side.Side.TheVariants as code
use Rattle.bridge_endpoint.specs.Journals.{side_at, told_at}
use Rattle.bridge_model.specs.Answers.{Counts, counts_of}
use Rattle.bridge_model.specs.Entries.{Entry}
use Rattle.bridge_model.specs.Histories.{Leads, Told, nothing_told, replay}
use Rattle.bridge_model.specs.Orders.{first_runs}
use Rattle.bridge_model.specs.Settings.{Setting}
use Rattle.bridge_setting.specs.Settings.{setting_of}
use Rattle.bridge_setting.specs.declared.setting.Setting.{Setting as Configured}
use Rattle.bridge_world.specs.Joined.{Joined, settings_of, share_of, unmarked, world_of}
use Rattle.bridge_world.specs.Playing.{PlaysSo, StandForHistory, pairing_of}
use Rattle.bridge_world.specs.declared.error.RunError.{RunError}
use Rattle.bridge_world.specs.declared.error.RunError.TheVariants as why
use Rattle.world_laws.proofs.StandingLaws.{runs_begin}
use Rattle.world_laws.specs.Standing.{AllStandAt}
use Rattle.world_laws.proofs.GivingLaws.{pair_reached}
use Rattle.world_laws.proofs.PlayLaws.{pair_played}
use Rattle.world_laws.proofs.ReachedLaws.{reached_stands}
use Rattle.world_laws.proofs.StandLaws.{AreStanding}
use Rattle.world_model.specs.Moves.{Progress}
use Rattle.world_model.specs.Pairs.{Pairing, IsPaired, begins_pair, generator_of, has_full, plays}
use Rattle.plan_model.specs.Roots.{Run}
use Rattle.rand_pcg.specs.Lcg.{Lcg}
use Rattle.report_model.proofs.EndLaws.{ends_well, reaches_limit}
use Rattle.report_model.specs.Drills.{summary}
use Rattle.report_model.specs.Pairs.{IsPairReport, IsSummary, ReachesLimit, counts_a, counts_b}
use Rattle.report_model.specs.Reports.{both_reports}
use Rattle.world_model.specs.Worlds.{Settings, World, Event, Runs, entries_of, happen_all, of_a, of_b, opening_world, setting_with}
use Rattle.world_model.specs.declared.side.Side.TheVariants.{A, B}
use Rattle.uno_run.specs.Joining.{AreFirst, IsFresh, Ran, StopsSo, counts_seen, stopped}
use Rattle.uno_run.specs.declared.status.Status.{Status}
use Rattle.uno_run.specs.declared.status.Status.TheVariants.{NoMemory}

abbrev progress_with : List Run → List Run → Progress
progress_with a b = record { a = a; b = b }

abbrev pairing_with : World → List Event → Progress → Option Lcg → Pairing
pairing_with w es p x = record { world = w; events = es; runs = p; generator = x }

abbrev joined_with : Configured → Configured → List Event → Joined
joined_with a b es = record { a = a; b = b; events = es }

-- ---- the beginning

module _ (j : Joined) (p : Progress) (fresh : IsFresh j) (first : AreFirst (settings_of j) p) where
  world_fresh : world_of j ≡ opening_world (settings_of j)
  unfolding world_of happen_all
  world_fresh = ap (λ es. unwrap_or (happen_all (settings_of j) (Some (opening_world (settings_of j))) es) (opening_world (settings_of j))) fresh.events

  runs_first : p ≡ progress_with (first_runs 1 (settings_of j).a.plan.threads) (first_runs 1 (settings_of j).b.plan.threads)
  runs_first = ap (λ rs. progress_with rs p.b) first.a ∙ ap (λ rs. progress_with (first_runs 1 (settings_of j).a.plan.threads) rs) first.b

  begins_so : (seed : Option ℕ) → pairing_of j p (generator_of seed) ≡ begins_pair (settings_of j) seed
  begins_so seed =
      ap (λ w. pairing_with w j.events p (generator_of seed)) world_fresh
      ∙ (ap (λ es. pairing_with (opening_world (settings_of j)) es p (generator_of seed)) fresh.events ∙ ap (λ q. pairing_with (opening_world (settings_of j)) [] q (generator_of seed)) runs_first)

  -- the runs of the plans stand for what has happened
  stand_first : (g : Setting) (es : List Entry) (rs : List Run) → es ≡ [] → rs ≡ first_runs 1 g.plan.threads → AllStandAt g es rs
  stand_first g es rs nothing are = subst (λ fs. AllStandAt g fs rs) (sym nothing) (subst (AllStandAt g []) (sym are) (runs_begin g))

  none_of_a : entries_of A j.events ≡ []
  unfolding entries_of
  none_of_a = ap (entries_of A) fresh.events

  none_of_b : entries_of B j.events ≡ []
  unfolding entries_of
  none_of_b = ap (entries_of B) fresh.events

  pub stands_fresh : StandForHistory j p
  stands_fresh =
      record {
        a = stand_first (of_a (settings_of j)) (entries_of A j.events) p.a none_of_a first.a;
        b = stand_first (of_b (settings_of j)) (entries_of B j.events) p.b none_of_b first.b;
      }

  -- ---- the end

  module _ (seed : Option ℕ) (cut : ℕ) (k : Joined) (q : Progress) (x : PlaysSo seed cut j k p q) where
    is_paired : IsPaired (settings_of j) seed cut x.last
    is_paired = record { steps = x.steps; plays = subst (λ b. plays x.steps (settings_of j) cut b ≡ Some x.last) (begins_so seed) x.plays }

    same_settings : settings_of k ≡ settings_of j
    same_settings = ap (λ (c : Configured). settings_of (joined_with c k.b k.events)) x.same.0 ∙ ap (λ (c : Configured). settings_of (joined_with j.a c k.events)) x.same.1

    world_last : world_of k ≡ x.last.world
    unfolding world_of
    world_last =
        ap (λ (g : Settings). unwrap_or (happen_all g (Some (opening_world g)) k.events) (opening_world g)) same_settings
        ∙ (ap (λ es. unwrap_or (happen_all (settings_of j) (Some (opening_world (settings_of j))) es) (opening_world (settings_of j))) x.events
        ∙ ap (λ o. unwrap_or o (opening_world (settings_of j))) (pair_played (settings_of j) seed cut x.last is_paired).good.history)

    pub ran : has_full (world_of k) ≡ false → Ran seed cut j k q
    ran within =
        record {
          last = x.last;
          ends = ends_well (settings_of j) fresh.ready seed cut x.last is_paired (subst (λ (w : World). has_full w ≡ false) world_last within);
          same_a = x.same.0;
          same_b = x.same.1;
          events = x.events;
          runs = x.runs;
        }

    at_limit : has_full (world_of k) ≡ true → ReachesLimit (settings_of j) seed cut
    at_limit full = reaches_limit (settings_of j) fresh.ready seed cut x.last is_paired (subst (λ (w : World). has_full w ≡ true) world_last full)

  pub stops_so : (seed : Option ℕ) (cut : ℕ) (k : Joined) (q : Progress) (error : RunError) (r : Result Unit RunError) → r ≡ Err error
      → (r ≡ Err why.Full → PlaysSo seed cut j k p q × (has_full (world_of k) ≡ true)) → StopsSo (settings_of j) seed cut (stopped error)
  stops_so seed cut k q why.NoMemory r is full = tt
  stops_so seed cut k q why.Full r is full = let at = full is in at_limit seed cut k q at.0 at.1

-- ---- what is counted

-- an end is where its entries lead
side_led : (c : Configured) (g : Setting) (es : List Entry) (x : Told) → setting_of c ≡ g → Leads g es x → side_at (unmarked c es) ≡ x.side
unfolding side_at told_at
side_led c g es x same leads =
    ap (λ (h : Setting). (unwrap_or (replay h es) (nothing_told h)).side) same ∙ ap (λ (o : Option Told). (unwrap_or o (nothing_told g)).side) leads

counts_so : (c d : Configured) (g : Setting) (es fs : List Entry) (x : Told) → c ≡ d → setting_of d ≡ g → es ≡ fs → Leads g fs x
    → counts_of (setting_of c) (side_at (unmarked c es)) ≡ counts_of g x.side
counts_so c d g es fs x alike same entries leads =
    ap (λ (e : Configured). counts_of (setting_of e) (side_at (unmarked e es))) alike
    ∙ (ap (λ hs. counts_of (setting_of d) (side_at (unmarked d hs))) entries
    ∙ (ap (λ (h : Setting). counts_of h (side_at (unmarked d fs))) same ∙ ap (counts_of g) (side_led d g fs x same leads)))

module _ (seed : Option ℕ) (cut : ℕ) (j k : Joined) (p : Progress) (fresh : IsFresh j) (is : Ran seed cut j k p) where
  led : AreStanding (settings_of j) is.last
  led = reached_stands (settings_of j) seed cut is.last (pair_reached (settings_of j) seed cut is.last is.ends.paired)

  seen_a : counts_seen k code.A ≡ counts_a (settings_of j) is.last
  seen_a = counts_so k.a j.a (of_a (settings_of j)) (entries_of A k.events) (entries_of A is.last.events) is.last.world.a.now is.same_a refl (ap (entries_of A) is.events) led.lead_a

  seen_b : counts_seen k code.B ≡ counts_b (settings_of j) is.last
  seen_b =
      counts_so k.b j.b (of_b (settings_of j)) (entries_of B k.events) (entries_of B is.last.events) is.last.world.b.now is.same_b (ap (λ reg. setting_with reg (share_of j.b)) fresh.registry)
      (ap (entries_of B) is.events) led.lead_b

  -- what is written of both ends is written of a function of their progress and of what they count
  told_so : (write : Progress → Counts → Counts → List ℕ) → write p (counts_seen k code.A) (counts_seen k code.B) ≡ write is.last.runs (counts_a (settings_of j) is.last) (counts_b (settings_of j) is.last)
  told_so write =
      ap (λ (q : Progress). write q (counts_seen k code.A) (counts_seen k code.B)) is.runs
      ∙ (ap (λ (c : Counts). write is.last.runs c (counts_seen k code.B)) seen_a ∙ ap (λ (c : Counts). write is.last.runs (counts_a (settings_of j) is.last) c) seen_b)

  pub reported : (text : List ℕ) → text ≡ both_reports p (counts_seen k code.A) (counts_seen k code.B) → IsPairReport (settings_of j) seed cut text
  reported text written = record { last = is.last; ends = is.ends; written = written ∙ told_so both_reports }

pub summed : (rounds seed : ℕ) (j k : Joined) (p : Progress) → IsFresh j → Ran (Some seed) 65536 j k p → (text : List ℕ) → text ≡ summary rounds seed p (counts_seen k code.A) (counts_seen k code.B)
    → IsSummary rounds seed (settings_of j) text
summed rounds seed j k p fresh is text written =
    record { last = is.last; ends = is.ends; written = written ∙ told_so (Some seed) 65536 j k p fresh is (summary rounds seed) }

-- no memory for what is written
pub lost_so : (g : Settings) (seed : Option ℕ) (cut : ℕ) (status : Status) → status ≡ NoMemory → StopsSo g seed cut status
lost_so g seed cut status lost = subst (StopsSo g seed cut) (sym lost) tt
