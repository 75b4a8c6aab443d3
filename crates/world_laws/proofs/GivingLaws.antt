-- The roots of a pair give what they may: each of their entries is that of a run that follows its plan.
use Rattle.std.proofs.Common.{◌≡◌, refl, sym, ap, ◌∙◌, subst, ℕ, zero, suc, ◌≤◌, Bool, true, false, List, [], ◌∷◌, ◌++◌, length, take, slice_get, slice_set, Option, None, Some, if◌then◌else◌}
use Rattle.std.specs.List.{AllByRecursion}
use Rattle.std.specs.Str.{IsUtf8}
use Rattle.urp_model.proofs.Utf8Laws.{utf8_of_ascii}
use Rattle.message_model.specs.Messages.{Message}
use Rattle.plan_model.specs.Forms.{is_export_name}
use Rattle.plan_model.specs.Plans.{manager_name}
use Rattle.plan_model.specs.Roots.{Run, opening_run}
use Rattle.plan_model.specs.Statements.{RootStatement}
use Rattle.bridge_laws.specs.OfPlan.{IsRoot}
use Rattle.bridge_model.specs.Answers.{feed_is_full, next_cut, drained_next}
use Rattle.bridge_model.specs.Entries.{Entry, fed, ended, applied, reaped, drained, full}
use Rattle.bridge_model.specs.Histories.{Told, Leads}
use Rattle.bridge_model.specs.Orders.{first_runs, or_full, most_drained}
use Rattle.bridge_model.specs.RootRuns.{Moved, waiting, finished, moved, root_moves, StandsFor}
use Rattle.bridge_model.specs.Settings.{Setting}
use Rattle.bridge_model.specs.Steps.{has_entries}
use Rattle.bridge_laws.specs.SpellableGiving.{IsGivenByRoot, AreGivenByRoots}
use Rattle.bridge_laws.specs.Holding.{MessageGoes}
use Rattle.bridge_laws.proofs.RunSpelling.{run_gives_where}
use Rattle.bridge_laws.specs.Giving.{MayGive, RootsGive}
use Rattle.bridge_laws.proofs.TypedGiven.{IsGiven}
use Rattle.bridge_laws.proofs.TypedGivenLaws.{is_given}
use Rattle.bridge_laws.specs.RootStatements.{AreTypedThreads}
use Rattle.bridge_laws.proofs.RootLines.{threads_typed}
use Rattle.bridge_laws.proofs.RunGivingLaws.{IsOfRun, move_run, run_gives}
use Rattle.world_model.specs.Moves.{Deed, applies, steps, reaps, drains, carries, closes, Move, moves, Done, step_done, steps_at, done}
use Rattle.world_model.specs.Pairs.{Pairing, begins_pair, with_world, enters, is_done_a, is_done_b, does_at, does, place_of, behind, does_some, has_full, goes_on, plays_list, plays, IsPaired}
use Rattle.world_laws.specs.Kept.{BothKeep}
use Rattle.world_laws.specs.Ready.{AreReady, BothGiveWell}
use Rattle.world_laws.proofs.CarriedLaws.{spells_a, spells_b, got_goes_a, got_goes_b, whole_met}
use Rattle.world_laws.proofs.KeptLaws.{both_keep}
use Rattle.world_laws.proofs.RunLaws.{a_pushed, a_same, b_pushed, b_same}
use Rattle.world_laws.proofs.SaidLaws.{fit}
use Rattle.world_model.specs.Meetings.{Meets}
use Rattle.world_model.specs.Worlds.{Settings, of_a, of_b, World, pipe, happens, entries_of}
use Rattle.world_model.specs.declared.side.Side as which_side
use Rattle.world_model.specs.declared.side.Side.TheVariants.{A, B}
use Rattle.world_laws.specs.Doing.{IsReached, at_first, at_next, CanBeDone}
use Rattle.world_laws.proofs.PairLaws.{pair_finished_a, pair_finished_b}
use Rattle.world_laws.proofs.PlayLaws.{AreRoots, IsGood, same_done, same_pair, pair_played}
use Rattle.world_laws.proofs.ReachedLaws.{reached_good, reached_stands, reached_done}
use Rattle.world_laws.proofs.StandLaws.{AreAt, AreStanding, each_stands}

-- ---- runs that ask for the service manager as the instance

abbrev AreNamed : List Run → Type 0
AreNamed rs = AllByRecursion (λ (r : Run). r.instance ≡ manager_name) rs

first_named : (n : ℕ) (ts : List (List RootStatement)) → AreNamed (first_runs n ts)
unfolding first_runs opening_run
first_named n [] = tt
first_named n (t ∷ ts) = (refl, first_named (suc n) ts)

set_named : (rs : List Run) (n : ℕ) (r : Run) → AreNamed rs → r.instance ≡ manager_name → AreNamed (slice_set rs n r)
set_named [] n r all is = tt
set_named (x ∷ rs) zero r all is = (is, all.1)
set_named (x ∷ rs) (suc n) r all is = (all.0, set_named rs n r all.1 is)

at_place : (P : Run → Type 0) (rs : List Run) (n : ℕ) (r : Run) → AllByRecursion P rs → slice_get rs n ≡ Some r → P r
at_place P [] n r all is = absurd (cc)
at_place P (x ∷ rs) zero r all is = subst P (some_same x r is) all.0
  where
    some_same : (x y : Run) → ◌≡◌ {A = Option Run} (Some x) (Some y) → x ≡ y
    some_same x y e = cc
at_place P (x ∷ rs) (suc n) r all is = at_place P rs n r all.1 is

manager_exports : is_export_name manager_name ≡ true
unfolding is_export_name
manager_exports = refl

manager_utf8 : IsUtf8 manager_name
manager_utf8 = utf8_of_ascii manager_name refl

-- ---- one end

-- an entry that may be given, and carried
abbrev EntryGives : Setting → Option Entry → Type 0
EntryGives g None = Unit
EntryGives g (Some e) = MayGive g e × IsGivenByRoot e

-- what a deed does gives what it may, and keeps the names
record DeedGives (g : Setting) (d : Done) : Type 0 where
  gives : EntryGives g d.entry
  named : AreNamed d.runs

full_gives : (g : Setting) (b : Bool) (e : Entry) → EntryGives g (Some e) → EntryGives g (Some (if b then full else e))
full_gives g true e is = (tt, tt)
full_gives g false e is = is

-- an end of a world that is set up
record IsEndOf (g : Setting) (es : List Entry) (x : Told) (rs : List Run) : Type 0 where
  leads : Leads g es x
  gives : RootsGive g es
  next : (r next : Run) (e : Entry) → StandsFor g es r → r.instance ≡ manager_name → root_moves g x.side r ≡ moved next (Some e) → IsGivenByRoot e
  stand : AllByRecursion (StandsFor g es) rs
  roots : AreRoots g rs
  named : AreNamed rs

module _ (g : Setting) (given : IsGiven g) (typed : AreTypedThreads g.registry g.plan) (es : List Entry) (x : Told) (rs : List Run) (is_end : IsEndOf g es x rs) where
  same_runs : (e : Entry) (d : Done) → EntryGives g (Some e) → ◌≡◌ {A = Option Done} (Some (record { entry = Some e; runs = rs })) (Some d) → DeedGives g d
  same_runs e d is to = subst (DeedGives g) (same_done (record { entry = Some e; runs = rs }) d to) (record { gives = is; named = is_end.named })

  entry_gives : (place : ℕ) (r next : Run) (oe : Option Entry) → slice_get rs place ≡ Some r → root_moves g x.side r ≡ moved next oe → EntryGives g oe
  entry_gives place r next None at to = tt
  entry_gives place r next (Some e) at to =
      let stand = at_place (StandsFor g es) rs place r is_end.stand at in
      let named = at_place (λ (q : Run). q.instance ≡ manager_name) rs place r is_end.named at in (
        run_gives g given typed es x r next e is_end.gives is_end.leads stand (at_place (λ (q : Run). IsRoot g q.root) rs place r is_end.roots at)
            (subst (λ name. is_export_name name ≡ true) (sym named) manager_exports) to,
        is_end.next r next e stand named to,
      )

  by_move : (place : ℕ) (r : Run) (m : Moved) (d : Done) → slice_get rs place ≡ Some r → root_moves g x.side r ≡ m → step_done place rs m ≡ Some d → DeedGives g d
  by_move place r waiting d at to is = absurd (cc)
  by_move place r finished d at to is = absurd (cc)
  by_move place r (moved next oe) d at to is =
      let kept = subst (IsOfRun r) to (move_run g x.side r given) in
      subst (DeedGives g) (same_done (record { entry = oe; runs = slice_set rs place next }) d is)
      (record {
        gives = entry_gives place r next oe at to;
        named = set_named rs place next is_end.named (kept.1 ∙ at_place (λ (q : Run). q.instance ≡ manager_name) rs place r is_end.named at);
      })

  by_run : (place : ℕ) (o : Option Run) (d : Done) → slice_get rs place ≡ o → steps_at g x.side place rs o ≡ Some d → DeedGives g d
  by_run place None d at is = absurd (cc)
  by_run place (Some r) d at is = by_move place r (root_moves g x.side r) d at refl is

  deed_gives : (cut : ℕ) (y : Told) (deed : Deed) (d : Done) → done g cut x y rs deed ≡ Some d → DeedGives g d
  unfolding done
  deed_gives cut y (applies tid) d is = same_runs (or_full x.side (applied tid)) d (full_gives g (has_entries x.side) (applied tid) (tt, tt)) is
  deed_gives cut y (steps place) d is = by_run place (slice_get rs place) d refl is
  deed_gives cut y (reaps n) d is = same_runs (reaped n) d (tt, tt) is
  deed_gives cut y drains d is = same_runs (drained (drained_next g most_drained x.side)) d (tt, tt) is
  deed_gives cut y carries d is =
      let piece = take cut (pipe y x) in same_runs _ d (full_gives g (feed_is_full x.side piece) (fed (next_cut x.side piece)) (tt, tt)) is
  deed_gives cut y closes d is = same_runs ended d (tt, tt) is

-- ---- a pair

record PairGives (g : Settings) (p : Pairing) : Type 0 where
  well : BothGiveWell g p.events
  named_a : AreNamed p.runs.a
  named_b : AreNamed p.runs.b

all_push : {X : Type 0} (P : X → Type 0) (xs : List X) (x : X) → AllByRecursion P xs → P x → AllByRecursion P (xs ++ x ∷ [])
all_push P [] x all is = (is, tt)
all_push P (y ∷ xs) x all is = (all.0, all_push P xs x all.1 is)

module _ (g : Settings) (ready : AreReady g) (p q : Pairing) (good : IsGood g p) (stand : AreStanding g p) (before : PairGives g p) where
  met : Meets g p.events p.world
  met = (whole_met g ready p.events before.well p.world good.history).met

  fits_a : IsGiven (of_a g)
  fits_a = is_given (of_a g) ready.up.sound ready.up.built ready.up.differ ready.up.keeps_a ready.up.tag_a.short

  fits_b : IsGiven (of_b g)
  fits_b = is_given (of_b g) ready.up.sound ready.up.built ready.up.differ ready.up.keeps_b ready.up.tag_b.short

  end_a : IsEndOf (of_a g) (entries_of A p.events) p.world.a.now p.runs.a
  end_a =
      record {
        leads = stand.lead_a;
        gives = before.well.gives.a;
        next = λ r next e stands named to.
            run_gives_where (of_a g) (spells_a g ready) (entries_of A p.events) p.world.a.now r next e before.well.a stand.lead_a (got_goes_a g ready p.events p.world met before.well) stands
            (subst IsUtf8 (sym named) manager_utf8) to;
        stand = each_stands (of_a g) (entries_of A p.events) 1 p.runs.a stand.runs_a;
        roots = good.roots_a;
        named = before.named_a;
      }

  end_b : IsEndOf (of_b g) (entries_of B p.events) p.world.b.now p.runs.b
  end_b =
      record {
        leads = stand.lead_b;
        gives = before.well.gives.b;
        next = λ r next e stands named to.
            run_gives_where (of_b g) (spells_b g ready) (entries_of B p.events) p.world.b.now r next e before.well.b stand.lead_b (got_goes_b g ready p.events p.world met before.well) stands
            (subst IsUtf8 (sym named) manager_utf8) to;
        stand = each_stands (of_b g) (entries_of B p.events) 1 p.runs.b stand.runs_b;
        roots = good.roots_b;
        named = before.named_b;
      }

  a_world : (rs : List Run) (e : Entry) → AreNamed rs → MayGive (of_a g) e × IsGivenByRoot e → (o : Option World)
      → with_world (record p { runs = record p.runs { a = rs } }) (record { side = A; entry = e }) o ≡ Some q → PairGives g q
  a_world rs e named gives None is = absurd (cc)
  a_world rs e named gives (Some v) is =
      subst (PairGives g) (same_pair (record p { world = v; events = p.events ++ record { side = A; entry = e } ∷ []; runs = record p.runs { a = rs } }) q is)
      (record {
        well =
            record {
              gives =
                  record {
                    a = subst (RootsGive (of_a g)) (sym (a_pushed p.events e)) (all_push (MayGive (of_a g)) (entries_of A p.events) e before.well.gives.a gives.0);
                    b = subst (RootsGive (of_b g)) (sym (b_same p.events e)) before.well.gives.b;
                  };
              a = subst AreGivenByRoots (sym (a_pushed p.events e)) (all_push IsGivenByRoot (entries_of A p.events) e before.well.a gives.1);
              b = subst AreGivenByRoots (sym (b_same p.events e)) before.well.b;
            };
        named_a = named;
        named_b = before.named_b;
      })

  b_world : (rs : List Run) (e : Entry) → AreNamed rs → MayGive (of_b g) e × IsGivenByRoot e → (o : Option World)
      → with_world (record p { runs = record p.runs { b = rs } }) (record { side = B; entry = e }) o ≡ Some q → PairGives g q
  b_world rs e named gives None is = absurd (cc)
  b_world rs e named gives (Some v) is =
      subst (PairGives g) (same_pair (record p { world = v; events = p.events ++ record { side = B; entry = e } ∷ []; runs = record p.runs { b = rs } }) q is)
      (record {
        well =
            record {
              gives =
                  record {
                    a = subst (RootsGive (of_a g)) (sym (a_same p.events e)) before.well.gives.a;
                    b = subst (RootsGive (of_b g)) (sym (b_pushed p.events e)) (all_push (MayGive (of_b g)) (entries_of B p.events) e before.well.gives.b gives.0);
                  };
              a = subst AreGivenByRoots (sym (a_same p.events e)) before.well.a;
              b = subst AreGivenByRoots (sym (b_pushed p.events e)) (all_push IsGivenByRoot (entries_of B p.events) e before.well.b gives.1);
            };
        named_a = before.named_a;
        named_b = named;
      })

  a_enters : (rs : List Run) (oe : Option Entry) → AreNamed rs → EntryGives (of_a g) oe → enters g (record p { runs = record p.runs { a = rs } }) A oe ≡ Some q → PairGives g q
  a_enters rs None named gives is =
      subst (PairGives g) (same_pair (record p { runs = record p.runs { a = rs } }) q is) (record { well = before.well; named_a = named; named_b = before.named_b })
  a_enters rs (Some e) named gives is = a_world rs e named gives (happens g p.world (record { side = A; entry = e })) is

  b_enters : (rs : List Run) (oe : Option Entry) → AreNamed rs → EntryGives (of_b g) oe → enters g (record p { runs = record p.runs { b = rs } }) B oe ≡ Some q → PairGives g q
  b_enters rs None named gives is =
      subst (PairGives g) (same_pair (record p { runs = record p.runs { b = rs } }) q is) (record { well = before.well; named_a = before.named_a; named_b = named })
  b_enters rs (Some e) named gives is = b_world rs e named gives (happens g p.world (record { side = B; entry = e })) is

  a_deed : (cut : ℕ) (deed : Deed) (o : Option Done) → done (of_a g) cut p.world.a.now p.world.b.now p.runs.a deed ≡ o → is_done_a g p o ≡ Some q → PairGives g q
  a_deed cut deed None at is = absurd (cc)
  a_deed cut deed (Some d) at is =
      let gives = deed_gives (of_a g) fits_a (threads_typed g.registry ready.up.sound g.a.plan ready.up.keeps_a) (entries_of A p.events) p.world.a.now p.runs.a end_a cut p.world.b.now deed d at in
      a_enters d.runs d.entry gives.named gives.gives is

  b_deed : (cut : ℕ) (deed : Deed) (o : Option Done) → done (of_b g) cut p.world.b.now p.world.a.now p.runs.b deed ≡ o → is_done_b g p o ≡ Some q → PairGives g q
  b_deed cut deed None at is = absurd (cc)
  b_deed cut deed (Some d) at is =
      let gives = deed_gives (of_b g) fits_b (threads_typed g.registry ready.up.sound g.b.plan ready.up.keeps_b) (entries_of B p.events) p.world.b.now p.runs.b end_b cut p.world.a.now deed d at in
      b_enters d.runs d.entry gives.named gives.gives is

  deed_at : (cut : ℕ) (m : Move) (s : which_side.Side) → does_at g cut p m s ≡ Some q → PairGives g q
  deed_at cut m A is = a_deed cut m.deed (done (of_a g) cut p.world.a.now p.world.b.now p.runs.a m.deed) refl is
  deed_at cut m B is = b_deed cut m.deed (done (of_b g) cut p.world.b.now p.world.a.now p.runs.b m.deed) refl is

some_gives : (g : Settings) → AreReady g → (cut : ℕ) (p q : Pairing) (m : Move) → IsGood g p → AreStanding g p → PairGives g p → does_some g cut p (Some m) ≡ Some q → PairGives g q
unfolding does
some_gives g ready cut p q m good stand before is =
    deed_at g ready (record p { generator = behind p.generator }) q (record { history = good.history; roots_a = good.roots_a; roots_b = good.roots_b })
    (record { lead_a = stand.lead_a; lead_b = stand.lead_b; runs_a = stand.runs_a; runs_b = stand.runs_b })
    (record { well = before.well; named_a = before.named_a; named_b = before.named_b }) cut m m.side is

first_gives : (g : Settings) (seed : Option ℕ) → PairGives g (begins_pair g seed)
unfolding entries_of
first_gives g seed =
    record {
      well = record { gives = record { a = tt; b = tt }; a = tt; b = tt };
      named_a = first_named 1 g.a.plan.threads;
      named_b = first_named 1 g.b.plan.threads;
    }

all_give : (g : Settings) → AreReady g → (seed : Option ℕ) (cut : ℕ) (p : Pairing) → IsReached g seed cut p → PairGives g p
all_give g ready seed cut p at_first = first_gives g seed
all_give g ready seed cut p' (at_next p next reached m is) =
    some_gives g ready cut p next m (reached_good g seed cut p reached) (reached_stands g seed cut p reached) (all_give g ready seed cut p reached) is

pub reached_give : (g : Settings) (seed : Option ℕ) (cut : ℕ) → AreReady g → (p : Pairing) → IsReached g seed cut p → BothGiveWell g p.events
reached_give g seed cut ready p reached = (all_give g ready seed cut p reached).well

-- ---- a pair that played is reached

abbrev Reaches : Settings → Option ℕ → ℕ → (Pairing → Option Pairing) → Type 0
Reaches g seed cut more = (p q : Pairing) → IsReached g seed cut p → more p ≡ Some q → IsReached g seed cut q

on_reached : (g : Settings) (seed : Option ℕ) (cut : ℕ) (more : Pairing → Option Pairing) → Reaches g seed cut more → (p q : Pairing) → IsReached g seed cut p → (m : Option Move) (o : Option Pairing)
    → does_some g cut p m ≡ o → goes_on more o ≡ Some q → IsReached g seed cut q
on_reached g seed cut more keeps p q reached m None to is = absurd (cc)
on_reached g seed cut more keeps p q reached None (Some r) to is = absurd (cc)
on_reached g seed cut more keeps p q reached (Some m) (Some r) to is = keeps r q (at_next p r reached m to) is

list_reached : (g : Settings) (seed : Option ℕ) (cut : ℕ) (more : Pairing → Option Pairing) → Reaches g seed cut more → (p q : Pairing) (ms : List Move) → IsReached g seed cut p
    → plays_list more g cut p ms ≡ Some q → IsReached g seed cut q
list_reached g seed cut more keeps p q [] reached is = subst (IsReached g seed cut) (same_pair p q is) reached
list_reached g seed cut more keeps p q (m ∷ ms) reached is =
    let next = slice_get (m ∷ ms) (place_of p.generator (length (m ∷ ms))) in on_reached g seed cut more keeps p q reached next (does_some g cut p next) refl is

full_reached : (g : Settings) (seed : Option ℕ) (cut : ℕ) (more : Pairing → Option Pairing) → Reaches g seed cut more → (p q : Pairing) (b : Bool) → IsReached g seed cut p
    → (if b then Some p else plays_list more g cut p (moves g p.world p.runs)) ≡ Some q → IsReached g seed cut q
full_reached g seed cut more keeps p q true reached is = subst (IsReached g seed cut) (same_pair p q is) reached
full_reached g seed cut more keeps p q false reached is = list_reached g seed cut more keeps p q (moves g p.world p.runs) reached is

all_reached : (n : ℕ) (g : Settings) (seed : Option ℕ) (cut : ℕ) → Reaches g seed cut (plays n g cut)
unfolding plays
all_reached zero g seed cut p q reached is = absurd (cc)
all_reached (suc n) g seed cut p q reached is = full_reached g seed cut (plays n g cut) (all_reached n g seed cut) p q (has_full p.world) reached is

pub pair_reached : (g : Settings) (seed : Option ℕ) (cut : ℕ) (last : Pairing) → IsPaired g seed cut last → IsReached g seed cut last
pair_reached g seed cut last is = all_reached is.steps g seed cut (begins_pair g seed) last at_first is.plays

-- ---- laws without a premise of roots

pub each_done : (g : Settings) (seed : Option ℕ) (cut : ℕ) → 1 ≤ cut → AreReady g → (p : Pairing) → IsReached g seed cut p → AllByRecursion (CanBeDone g cut p) (moves g p.world p.runs)
each_done g seed cut some ready p reached = reached_done g seed cut some ready p reached (reached_give g seed cut ready p reached)

pub ends_finished_a : (g : Settings) → AreReady g → (seed : Option ℕ) (cut : ℕ) (last : Pairing) → IsPaired g seed cut last → has_full last.world ≡ false
    → AllByRecursion (λ (r : Run). root_moves (of_a g) last.world.a.now.side r ≡ finished) last.runs.a
ends_finished_a g ready seed cut last is room = pair_finished_a g ready seed cut last (reached_give g seed cut ready last (pair_reached g seed cut last is)) is room

pub ends_finished_b : (g : Settings) → AreReady g → (seed : Option ℕ) (cut : ℕ) (last : Pairing) → IsPaired g seed cut last → has_full last.world ≡ false
    → AllByRecursion (λ (r : Run). root_moves (of_b g) last.world.b.now.side r ≡ finished) last.runs.b
ends_finished_b g ready seed cut last is room = pair_finished_b g ready seed cut last (reached_give g seed cut ready last (pair_reached g seed cut last is)) is room

pub pair_keeps : (g : Settings) → AreReady g → (seed : Option ℕ) (cut : ℕ) (p : Pairing) → IsReached g seed cut p → BothKeep g p.events p.world
pair_keeps g ready seed cut p reached = both_keep g ready p.events (reached_give g seed cut ready p reached) p.world (reached_good g seed cut p reached).history
