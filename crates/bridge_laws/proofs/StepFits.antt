-- Over every history all that was said may be said: each entry leaves a side of which that holds.
use Rattle.std.proofs.Common.{◌≡◌, ℕ, zero, suc, ◌+◌, ◌<◌, Bool, true, false, not, nat_lt, if◌then◌else◌, List, [], ◌∷◌, ◌++◌, length, drop, Option, None, Some, refl, sym, subst, arith}
use Rattle.std.specs.List.{list_all}
use Rattle.std.proofs.lemmas.Bool.{and_parts, ltb-true}
use Rattle.message_model.specs.Messages.{Message}
use Rattle.message_model.specs.Sayable.{IsThread}
use Rattle.uno_model.specs.Values.{Plain}
use Rattle.plan_model.specs.Asking.{Effect, disposes}
use Rattle.plan_model.specs.Frames.{Body, Frame, body, frames_of}
use Rattle.plan_model.specs.Plans.{first_objects}
use Rattle.bridge_laws.proofs.CountedLaws.{does_counts}
use Rattle.bridge_laws.proofs.CoveringLaws.{kept, opening_covers}
use Rattle.bridge_laws.proofs.LivingLaws.{AllCovered}
use Rattle.bridge_laws.proofs.Replays.{of_step}
use Rattle.bridge_model.specs.Applying.{applies, effect_at}
use Rattle.bridge_model.specs.Ends.{ends_by, runs_out}
use Rattle.bridge_model.specs.Entries.{Entry, fed, ended, failed, asked, called, queried, made, dropped, applied, took, reaped, drained, disposed, full, no_memory, counts}
use Rattle.bridge_model.specs.Histories.{Told, nothing_told, told_more, told_by, tells, tells_all, replay, Leads}
use Rattle.bridge_model.specs.Objects.{lowest}
use Rattle.bridge_model.specs.References.{refs_of_values}
use Rattle.bridge_model.specs.Roots.{holds_each, holds_pair, root_asks, root_calls, root_queries, root_drops, root_takes}
use Rattle.bridge_model.specs.Settings.{Setting, is_told}
use Rattle.bridge_model.specs.Sides.{Object, Side, stands}
use Rattle.bridge_model.specs.Steps.{Turn, turn, step, may, may_begin, may_give, has_entries, most_entries, is_picked, Picked, picked_in, picked, applies_effect, applies_picked, reaps_some, opening, does, said_by}
use Rattle.bridge_model.specs.declared.cause.Cause.TheVariants as cause
use Rattle.bridge_laws.specs.Giving.{MayGive, RootsGive}
use Rattle.bridge_laws.specs.Telling.{AreRightlySaid}
use Rattle.bridge_laws.proofs.FramesFit.{Runs, Pauses, FramesFit}
use Rattle.bridge_laws.proofs.TypedGiven.{IsGiven}
use Rattle.bridge_laws.proofs.Moves.{Moves}
use Rattle.bridge_laws.proofs.SideFits.{SideFits}
use Rattle.bridge_laws.proofs.ApplyingMoves.{effect_moves}
use Rattle.bridge_laws.proofs.FeedingFits.{feeds_fits}
use Rattle.bridge_laws.proofs.OpeningFits.{opening_fits}
use Rattle.bridge_laws.proofs.ReapedFits.{reaps_some_fits}
use Rattle.bridge_laws.proofs.RootFits.{root_calls_fits, root_queries_fits, root_asks_fits, root_makes_fits, root_drops_fits, root_takes_fits}
use Rattle.bridge_laws.proofs.FittingSideLaws.{thread_frames, thread_is, moved_fits, later_fits, ends_fits, runs_out_fits, drains_fits}

-- ---- where entries stand

few_entries : (s : Side) → not (has_entries s) ≡ true → s.entries < 1000000
unfolding most_entries
few_entries s is = ltb-true s.entries 1000000 (not_not (nat_lt s.entries 1000000) is)
  where
    not_not : (b : Bool) → not (not b) ≡ true → b ≡ true
    not_not true is = refl
    not_not false is = absurd (cc)

-- what a root calls with is told, and held by it
record MayCall (g : Setting) (root : ℕ) (oid face : List ℕ) (args : List Plain) (s : Side) : Type 0 where
  told : list_all (is_told g) (refs_of_values args) ≡ true
  held : holds_pair root oid face s.tables ≡ true
  each : holds_each root (refs_of_values args) s.tables ≡ true

may_call : (g : Setting) (root : ℕ) (oid face : List ℕ) (function : ℕ) (args : List Plain) (s : Side) → may g s (called root oid face function args) ≡ true → MayCall g root oid face args s
unfolding may
may_call g root oid face function args s is =
    let begins = and_parts (not (has_entries s)) _ (and_parts (stands s) _ is).1 in
    let gives = and_parts (holds_pair root oid face s.tables) (may_give g root args s) (and_parts (may_begin g root s) _ begins.1).1 in
    let both = and_parts (holds_each root (refs_of_values args) s.tables) (list_all (is_told g) (refs_of_values args)) gives.1 in
    record { told = both.1; held = gives.0; each = both.0 }

may_query : (g : Setting) (root : ℕ) (oid face wanted : List ℕ) (s : Side) → may g s (queried root oid face wanted) ≡ true → holds_pair root oid face s.tables ≡ true
unfolding may
may_query g root oid face wanted s is = (and_parts (may_begin g root s) _ (and_parts (not (has_entries s)) _ (and_parts (stands s) _ is).1).1).1

may_make : (g : Setting) (root behaviour : ℕ) (wanted : List ℕ) (s : Side) → may g s (made root behaviour wanted) ≡ true → not (has_entries s) ≡ true
unfolding may
may_make g root behaviour wanted s is = (and_parts (not (has_entries s)) _ (and_parts (stands s) _ is).1).0

may_drop : (g : Setting) (root : ℕ) (oid face : List ℕ) (s : Side) → may g s (dropped root oid face) ≡ true → holds_pair root oid face s.tables ≡ true
unfolding may
may_drop g root oid face s is = is

may_apply : (g : Setting) (tid : List ℕ) (s : Side) → may g s (applied tid) ≡ true → not (has_entries s) ≡ true
unfolding may
may_apply g tid s is = (and_parts (not (has_entries s)) (is_picked (picked tid s)) is).0

module _ (g : Setting) (given : IsGiven g) where
  -- ---- statements

  effect_fits : (most : ℕ) (tid : List ℕ) (p : Picked) (e : Effect) (s : Side) (fit : SideFits g most s) → IsThread tid → Moves g fit.os fit.made (applies g tid p.method p.below e s.tables)
      → SideFits g (suc most) (applies_effect g tid p e s)
  effect_fits most tid p disposes s fit thread moves = later_fits g most (ends_by cause.Disposed s) (ends_fits g given most cause.Disposed s fit)
  effect_fits most tid p e s fit thread moves = moved_fits g most tid (applies g tid p.method p.below e s.tables) s fit thread moves

  -- a method at the top of frames that fit
  top_runs : (fit_os : List Object) (b : Body) (fs : List Frame) → FramesFit g fit_os None (body b ∷ fs) → (r : Runs g fit_os b) × (b.from_peer ≡ true → Pauses fs) × FramesFit g fit_os (Some r.function) fs
  unfolding FramesFit
  top_runs fit_os b fs fit = fit

  picked_fits : (most : ℕ) (tid : List ℕ) (fs : List Frame) (s : Side) (fit : SideFits g most s) → most < 2000000 → frames_of tid s.stacks ≡ fs → SideFits g (suc most) (applies_picked g tid (picked_in fs) s)
  picked_fits most tid (body b ∷ fs) s fit room is =
      let thread = thread_is g fit.os tid s.stacks (body b) fs fit.stacks is in
      let top = top_runs fit.os b fs (subst (FramesFit g fit.os None) is (thread_frames g fit.os tid s.stacks fit.stacks)) in
      let counted = fit.counted in
      effect_fits most tid (record { method = b; below = fs }) (effect_at g tid b fs s.tables) s fit thread
      (effect_moves g given fit.os fit.made fit.objects (omega arith) tid thread b fs top.0 top.1 top.2 fit.opened s.tables fit.tables)
  picked_fits most tid fs s fit room is = later_fits g most s fit

  applied_fits : (most : ℕ) (tid : List ℕ) (s : Side) → most < 2000000 → SideFits g most s → SideFits g (suc most) (applies_picked g tid (picked tid s) s)
  unfolding picked
  applied_fits most tid s room fit = picked_fits most tid (frames_of tid s.stacks) s fit room refl

  -- ---- entries

  -- one more object at most, where the entry counts
  abbrev pub after : Entry → ℕ → ℕ
  after e most = if counts e then suc most else most

  does_fits : (e : Entry) (s : Side) → MayGive g e → may g s e ≡ true → AllCovered g s → SideFits g (length (first_objects g.plan) + s.entries) s
      → SideFits g (after e (length (first_objects g.plan) + s.entries)) (does g e s).side
  unfolding does
  does_fits (fed b) s gives is covered fit = feeds_fits g given _ b s fit
  does_fits ended s gives is covered fit = later_fits g _ (ends_by cause.Ended s) (ends_fits g given _ cause.Ended s fit)
  does_fits failed s gives is covered fit = later_fits g _ (ends_by cause.Failed s) (ends_fits g given _ cause.Failed s fit)
  does_fits (asked root name wanted) s gives is covered fit = later_fits g _ (root_asks g root name wanted s) (root_asks_fits g given _ root name wanted s gives.0 gives.1 fit)
  does_fits (called root oid face function args) s gives is covered fit =
      let calls = may_call g root oid face function args s is in
      later_fits g _ (root_calls g root oid face function args s) (root_calls_fits g given _ root oid face function args s gives calls.told calls.held calls.each fit)
  does_fits (queried root oid face wanted) s gives is covered fit =
      later_fits g _ (root_queries g root oid face wanted s) (root_queries_fits g given _ root oid face wanted s gives (may_query g root oid face wanted s is) fit)
  does_fits (made root behaviour wanted) s gives is covered fit =
      let few = few_entries s (may_make g root behaviour wanted s is) in let first = given.objects in
      root_makes_fits g given _ root behaviour wanted s gives (omega arith) fit
  does_fits (dropped root oid face) s gives is covered fit = later_fits g _ (root_drops g root oid face s) (root_drops_fits g given _ root oid face s (may_drop g root oid face s is) fit)
  does_fits (applied tid) s gives is covered fit =
      let few = few_entries s (may_apply g tid s is) in let first = given.objects in
      applied_fits _ tid s (omega arith) fit
  does_fits (took root) s gives is covered fit = later_fits g _ (root_takes root s) (root_takes_fits g given _ root s fit)
  does_fits (reaped object) s gives is covered fit = later_fits g _ (reaps_some g (lowest g s.tables) s) (reaps_some_fits g given _ (lowest g s.tables) s refl covered fit)
  does_fits (drained b) s gives is covered fit = drains_fits g _ (length b) s fit
  does_fits disposed s gives is covered fit = later_fits g _ (ends_by cause.Disposed s) (ends_fits g given _ cause.Disposed s fit)
  does_fits full s gives is covered fit = later_fits g _ (ends_by cause.Full s) (ends_fits g given _ cause.Full s fit)
  does_fits no_memory s gives is covered fit = later_fits g _ (runs_out s.cause s) (runs_out_fits g given _ s.cause s fit)

  counted_by : (b : Bool) (before : ℕ) (s : Side) → s.entries ≡ before → SideFits g (if b then suc (length (first_objects g.plan) + before) else length (first_objects g.plan) + before) s
      → SideFits g (length (first_objects g.plan) + (if b then record s { entries = suc s.entries } else s).entries) (if b then record s { entries = suc s.entries } else s)
  counted_by true before s same fit =
      let more : suc (length (first_objects g.plan) + before) ≡ length (first_objects g.plan) + suc s.entries = omega arith in
      subst (λ n. SideFits g n s) more fit
  counted_by false before s same fit = subst (λ n. SideFits g (length (first_objects g.plan) + n) s) (sym same) fit

  -- ---- histories

  sayable_both : (ms ns : List Message) → AreRightlySaid g ms → AreRightlySaid g ns → AreRightlySaid g (ms ++ ns)
  sayable_both [] ns all also = also
  sayable_both (m ∷ ms) ns all also = (all.0, sayable_both ms ns all.1 also)

  sayable_rest : (n : ℕ) (ms : List Message) → AreRightlySaid g ms → AreRightlySaid g (drop n ms)
  sayable_rest zero ms all = all
  sayable_rest (suc n) [] all = tt
  sayable_rest (suc n) (m ∷ ms) all = sayable_rest n ms all.1

  said_fits : (e : Entry) (before now : List Message) → AreRightlySaid g now → AreRightlySaid g (said_by e before now)
  said_fits (drained b) before now all = tt
  said_fits e before now all = sayable_rest (length before) now all

  pub record Stays (x : Told) : Type 0 where
    pub covered : AllCovered g x.side
    pub fit : SideFits g (length (first_objects g.plan) + x.side.entries) x.side
    pub said : AreRightlySaid g x.said

  -- so it is behind the next entry
  pub next_fits : (x : Told) (e : Entry) → MayGive g e → may g x.side e ≡ true → Stays x
      → SideFits g (after e (length (first_objects g.plan) + x.side.entries)) (does g e x.side).side
  next_fits x e gives is stays = does_fits e x.side gives is stays.covered stays.fit

  stays_on : (x : Told) (e : Entry) → MayGive g e → may g x.side e ≡ true → Stays x → Stays (told_more x e (turn e x.side (does g e x.side)))
  stays_on x e gives is stays =
      let fit = next_fits x e gives is stays in
      record {
        covered = λ h. kept g h x e (stays.covered h) is;
        fit = counted_by (counts e) x.side.entries (does g e x.side).side (does_counts g e x.side) fit;
        said = sayable_both x.said _ stays.said (said_fits e x.side.tables.unsaid (does g e x.side).side.tables.unsaid fit.tables.sayable);
      }

  told_fine : (x : Told) (e : Entry) (o : Option Turn) → MayGive g e → Stays x → o ≡ step g x.side e → (y : Told) → told_by x e o ≡ Some y → Stays y
  told_fine x e None gives stays is y to = absurd (cc)
  told_fine x e (Some u) gives stays is y to =
      subst Stays (cc) (of_step g x.side e u (λ v. Stays (told_more x e v)) (λ may_it. stays_on x e gives may_it stays) (cc))

  along_given : (o : Option Told) (es : List Entry) → RootsGive g es → ((x : Told) → o ≡ Some x → Stays x) → (y : Told) → tells_all g o es ≡ Some y → Stays y
  unfolding tells_all
  along_given None es gives stays y to = absurd (cc)
  along_given (Some x) [] gives stays y to = stays y to
  along_given (Some x) (e ∷ es) gives stays y to =
      along_given (tells g x e) es gives.1 (λ z is. told_fine x e (step g x.side e) gives.0 (stays x refl) refl z is) y to

  nothing_counted : length (first_objects g.plan) ≡ length (first_objects g.plan) + (nothing_told g).side.entries
  unfolding opening
  nothing_counted = omega arith

  first_stays : Stays (nothing_told g)
  first_stays =
      record { covered = λ h. opening_covers g h; fit = subst (λ n. SideFits g n (nothing_told g).side) nothing_counted (opening_fits g given); said = tt }

  pub all_stays : (es : List Entry) (x : Told) → RootsGive g es → Leads g es x → Stays x
  unfolding replay
  all_stays es x gives leads = along_given (Some (nothing_told g)) es gives (λ z is. subst Stays (cc) first_stays) x leads
