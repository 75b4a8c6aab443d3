-- Of a pair each outcome that a line tells is that of the very call that its statement made.
use Rattle.std.proofs.Common.{◌≡◌, refl, sym, ap, subst, ◌∙◌, ℕ, Bool, true, false, if◌then◌else◌, List, [], ◌∷◌, ◌++◌, Option, Some}
use Rattle.std.specs.List.{AllByRecursion}
use Rattle.plan_model.specs.Roots.{Run}
use Rattle.plan_model.specs.Statements.{RootStatement}
use Rattle.bridge_laws.specs.OfPlan.{IsRoot}
use Rattle.bridge_model.specs.Entries.{Entry}
use Rattle.bridge_model.specs.Histories.{Told, Leads}
use Rattle.bridge_model.specs.RootRuns.{StandsFor}
use Rattle.bridge_model.specs.Settings.{Setting}
use Rattle.bridge_model.specs.Sides.{Outcome, answered, Side, state_of}
use Rattle.bridge_laws.specs.Giving.{RootsGive}
use Rattle.bridge_laws.proofs.TypedGiven.{IsGiven}
use Rattle.bridge_laws.proofs.TypedGivenLaws.{is_given}
use Rattle.world_laws.specs.Ends.{near_of}
use Rattle.bridge_laws.specs.Lines.{Lines, first, silent, line, Says, is_skipped_line, is_null_line, compares, takes, makes, is_gone, is_full, IsAt}
use Rattle.bridge_laws.proofs.LineLaws.{run_lines}
use Rattle.world_model.specs.Pairs.{Pairing}
use Rattle.bridge_laws.proofs.CallLaws.{gives_front, outcome_is}
use Rattle.world_laws.specs.Kept.{IsAccounted}
use Rattle.world_laws.specs.Ready.{AreReady, BothGiveWell}
use Rattle.world_laws.proofs.CarriedLaws.{well_front, whole_met}
use Rattle.world_laws.proofs.KeptLaws.{reached, both_keep}
use Rattle.world_laws.proofs.RunLaws.{both_lead}
use Rattle.world_model.specs.Worlds.{Settings, of_a, of_b, World, opening_world, Event, Runs, is_at, entries_of}
use Rattle.world_model.specs.declared.side.Side as which_side
use Rattle.world_model.specs.declared.side.Side.TheVariants.{A, B}
use Rattle.world_laws.specs.Doing.{IsReached}
use Rattle.world_laws.specs.Outcomes.{IsItsCalls, TellsItsCalls, AllTellTheirCalls, TellsItsOutcomes}
use Rattle.world_laws.proofs.GivingLaws.{reached_give}
use Rattle.world_laws.proofs.PlayLaws.{IsGood}
use Rattle.world_laws.proofs.ReachedLaws.{reached_good, reached_stands}
use Rattle.world_laws.proofs.StandLaws.{each_stands}

-- ---- events of which an end has a front of its entries

record Front (s : which_side.Side) (es : List Event) (front : List Entry) : Type 0 where
  events : List Event
  rest : List Event
  journal : events ++ rest ≡ es
  entries : entries_of s events ≡ front

module _ (s : which_side.Side) where
  no_event : (es : List Event) → Front s es []
  unfolding entries_of
  no_event es = record { events = []; rest = es; journal = refl; entries = refl }

  front_by : (x : Event) (es : List Event) (b : Bool) → is_at s x.side ≡ b → (f : Entry) (front later : List Entry) → (if b then x.entry ∷ entries_of s es else entries_of s es) ≡ (f ∷ front) ++ later
      → ((fs : List Entry) → entries_of s es ≡ fs ++ later → Front s es fs) → Front s (x ∷ es) (f ∷ front)
  unfolding entries_of
  front_by x es true at f front later is more =
      let head : x.entry ≡ f = cc in
      let tail : entries_of s es ≡ front ++ later = cc in
      let k = more front tail in
      record {
        events = x ∷ k.events;
        rest = k.rest;
        journal = ap (λ zs. x ∷ zs) k.journal;
        entries = ap (λ c. if c then x.entry ∷ entries_of s k.events else entries_of s k.events) at ∙ (λ i. head i ∷ k.entries i);
      }
  front_by x es false at f front later is more =
      let k = more (f ∷ front) is in
      record {
        events = x ∷ k.events;
        rest = k.rest;
        journal = ap (λ zs. x ∷ zs) k.journal;
        entries = ap (λ c. if c then x.entry ∷ entries_of s k.events else entries_of s k.events) at ∙ k.entries;
      }

  none_left : {X : Type 0} (f : Entry) (front later : List Entry) → [] ≡ (f ∷ front) ++ later → X
  none_left f front later is = absurd (cc)

  front_events : (es : List Event) (front later : List Entry) → entries_of s es ≡ front ++ later → Front s es front
  unfolding entries_of
  front_events es [] later is = no_event es
  front_events [] (f ∷ front) later is = none_left f front later is
  front_events (x ∷ es) (f ∷ front) later is = front_by x es (is_at s x.side) refl f front later is (λ fs more. front_events es fs later more)

-- ---- one end

same_told : (x y : Told) → ◌≡◌ {A = Option Told} (Some x) (Some y) → x ≡ y
same_told x y is = cc

-- how each outcome behind a front of the events came to its root
abbrev Accounts : Settings → which_side.Side → List Event → Type 0
Accounts g s es = (before later : List Event) → before ++ later ≡ es → (x : Told) → Leads (near_of s g) (entries_of s before) x → (root : ℕ) (o : Outcome) → state_of root x.side.tables.roots ≡ answered o
    → IsAccounted g s before root o

module _ (g : Settings) (s : which_side.Side) (es : List Event) (given : IsGiven (near_of s g)) (gives : RootsGive (near_of s g) (entries_of s es)) (accounts : Accounts g s es) (root : ℕ) (is_root : IsRoot (near_of s g) root) where
  outcome_told : (place : ℕ) (ls : List (List ℕ)) (at : IsAt (near_of s g) (entries_of s es) root place ls) (o : Outcome) → state_of at.run.root at.told.side.tables.roots ≡ answered o
      → IsItsCalls g s es at.front at.run o
  outcome_told place ls at o has =
      let k = front_events s es at.front at.later at.journal in
      record {
        call =
            outcome_is (near_of s g) given at.front at.told at.run o (gives_front (near_of s g) at.front at.later (subst (RootsGive (near_of s g)) at.journal gives)) at.leads at.stands_for
            (subst (IsRoot (near_of s g)) (sym at.same_root) is_root) has;
        before = k.events;
        later = k.rest;
        events = k.journal;
        entries = k.entries;
        came = accounts k.events k.rest k.journal at.told (subst (λ fs. Leads (near_of s g) fs at.told) (sym k.entries) at.leads) at.run.root o has;
      }

  one_tells : (place : ℕ) (ls : List (List ℕ)) (at : IsAt (near_of s g) (entries_of s es) root place ls) (x : RootStatement) (e : Option Entry) (text : List ℕ) (says : Says (near_of s g) at.told.side at.run x e text)
      → TellsItsCalls g s es root place ls at says
  one_tells place ls at x e text (is_skipped_line skips) = tt
  one_tells place ls at x e text (is_null_line unskipped null) = tt
  one_tells place ls at x e text (compares a b is unskipped) = tt
  one_tells place ls at x e text (takes o has) = outcome_told place ls at o has
  one_tells place ls at x e text (makes m is up) = tt
  one_tells place ls at x e text (is_gone begun down) = tt
  one_tells place ls at x e text (is_full begun up full) = tt

  all_tell : (n : ℕ) (ls : List (List ℕ)) (lines : Lines (near_of s g) (entries_of s es) root n ls) → AllTellTheirCalls g s es root n ls lines
  unfolding AllTellTheirCalls
  all_tell n' ls' first = tt
  all_tell n' ls' (silent place ls x e at there says next before) = all_tell place ls before
  all_tell n' ls' (line place ls x e text at there says next before) = (one_tells place ls at x e text says, all_tell place ls before)

runs_tell : (g : Settings) (s : which_side.Side) (es : List Event) → IsGiven (near_of s g) → RootsGive (near_of s g) (entries_of s es) → Accounts g s es → (rs : List Run)
    → AllByRecursion (StandsFor (near_of s g) (entries_of s es)) rs → AllByRecursion (λ (r : Run). IsRoot (near_of s g) r.root) rs → AllByRecursion (TellsItsOutcomes g s es) rs
runs_tell g s es given gives accounts [] stand roots = tt
runs_tell g s es given gives accounts (r ∷ rs) stand roots =
    let lines = run_lines (near_of s g) (entries_of s es) r stand.0 in
    (record { lines = lines; tell = all_tell g s es given gives accounts r.root roots.0 r.place r.lines lines }, runs_tell g s es given gives accounts rs stand.1 roots.1)

-- ---- both

module _ (g : Settings) (ready : AreReady g) (es : List Event) (well : BothGiveWell g es) (w : World) (runs : Runs g es w) where
  accounts_a : Accounts g A es
  accounts_a before later is x leads root o at =
      let r = reached g (Some (opening_world g)) before later w (subst (λ fs. Runs g fs w) (sym is) runs) in
      let front = well_front g before later es is well in
      let same = same_told x r.at.a.now (sym leads ∙ (both_lead g before r.at (whole_met g ready before front r.at r.to).met).a) in
      (both_keep g ready before front r.at r.to).outcomes_a root o (ap (λ (z : Told). state_of root z.side.tables.roots) (sym same) ∙ at)

  accounts_b : Accounts g B es
  accounts_b before later is x leads root o at =
      let r = reached g (Some (opening_world g)) before later w (subst (λ fs. Runs g fs w) (sym is) runs) in
      let front = well_front g before later es is well in
      let same = same_told x r.at.b.now (sym leads ∙ (both_lead g before r.at (whole_met g ready before front r.at r.to).met).b) in
      (both_keep g ready before front r.at r.to).outcomes_b root o (ap (λ (z : Told). state_of root z.side.tables.roots) (sym same) ∙ at)

module _ (g : Settings) (ready : AreReady g) (seed : Option ℕ) (cut : ℕ) (p : Pairing) (is : IsReached g seed cut p) where
  pub tell_a : AllByRecursion (TellsItsOutcomes g A p.events) p.runs.a
  tell_a =
      let good = reached_good g seed cut p is in
      let well = reached_give g seed cut ready p is in
      runs_tell g A p.events (is_given (of_a g) ready.up.sound ready.up.built ready.up.differ ready.up.keeps_a ready.up.tag_a.short) well.gives.a
      (accounts_a g ready p.events well p.world good.history) p.runs.a (each_stands (of_a g) (entries_of A p.events) 1 p.runs.a (reached_stands g seed cut p is).runs_a) good.roots_a

  pub tell_b : AllByRecursion (TellsItsOutcomes g B p.events) p.runs.b
  tell_b =
      let good = reached_good g seed cut p is in
      let well = reached_give g seed cut ready p is in
      runs_tell g B p.events (is_given (of_b g) ready.up.sound ready.up.built ready.up.differ ready.up.keeps_b ready.up.tag_b.short) well.gives.b
      (accounts_b g ready p.events well p.world good.history) p.runs.b (each_stands (of_b g) (entries_of B p.events) 1 p.runs.b (reached_stands g seed cut p is).runs_b) good.roots_b
