-- Over every history all that was said can be carried by bytes: each entry leaves a side of which that holds.
use Rattle.std.proofs.Common.{◌≡◌, ℕ, zero, suc, ◌==◌, Bool, true, false, not, if◌then◌else◌, List, [], ◌∷◌, length, drop, replicate, Option, None, Some, refl, subst}
use Rattle.std.specs.List.{AllByRecursion}
use Rattle.std.proofs.lemmas.Bool.{and_parts}
use Rattle.urp_model.specs.Blocks.{AreBytes}
use Rattle.message_model.specs.Messages.{Message}
use Rattle.message_model.specs.Sayable.{MessageSpellable}
use Rattle.uno_model.specs.Values.{Plain}
use Rattle.table_model.specs.declared.holder.Holder.TheVariants as holder
use Rattle.plan_model.specs.Asking.{Effect, disposes}
use Rattle.plan_model.specs.Frames.{Frame, body, frames_of}
use Rattle.plan_model.specs.Plans.{Plan, first_objects}
use Rattle.bridge_laws.proofs.Replays.{of_step}
use Rattle.bridge_model.specs.Applying.{applies, effect_at}
use Rattle.bridge_model.specs.Entries.{Entry, fed, ended, failed, asked, called, queried, made, dropped, applied, took, reaped, drained, disposed, full, no_memory, counts}
use Rattle.bridge_model.specs.Feeding.{feeds}
use Rattle.bridge_model.specs.Going.{reaps_object, reaps}
use Rattle.bridge_model.specs.Histories.{Told, nothing_told, told_more, told_by, tells, tells_all, replay, Leads}
use Rattle.bridge_model.specs.Objects.{lowest, without_object}
use Rattle.bridge_model.specs.References.{refs_of_values}
use Rattle.bridge_model.specs.Roots.{holds_pair}
use Rattle.bridge_model.specs.Settings.{Setting}
use Rattle.bridge_model.specs.Sides.{Incoming, nothing_came, Object, idle, Tables, Side, stands}
use Rattle.bridge_model.specs.Steps.{Turn, turn, step, may, may_begin, may_give, has_entries, Picked, picked_in, picked, applies_effect, applies_picked, reaps_some, no_objects, opening, does, said_by}
use Rattle.bridge_model.specs.declared.cause.Cause.TheVariants as cause
use Rattle.bridge_laws.specs.SpellableGiving.{IsGivenByRoot, IsGivenSpellable, AreGivenSpellable}
use Rattle.bridge_laws.specs.Holding.{MessageGoes, StateSpellable}
use Rattle.bridge_laws.proofs.ApplyingSpelling.{method_applied}
use Rattle.bridge_laws.proofs.FeedingSpelling.{feeds_spellable}
use Rattle.bridge_laws.proofs.SpellableGiven.{IsGiven}
use Rattle.bridge_laws.proofs.HandingSpelling.{FramesSpellable, UnwoundSpellable}
use Rattle.bridge_laws.proofs.JobSpelling.{all_filtered}
use Rattle.bridge_laws.proofs.ObjectSpelling.{makes_all_spellable}
use Rattle.bridge_laws.proofs.RootSpelling.{pair_spellable, root_calls_spellable, root_queries_spellable, root_asks_spellable, root_makes_spellable, root_drops_spellable, root_takes_spellable}
use Rattle.bridge_laws.proofs.SideSpelling.{Comes, SideSpellable, thread_spellable, unwound_spellable, tabled_spellable, nothing_comes, ends_spellable, runs_out_spellable, drains_spellable}
use Rattle.bridge_laws.proofs.TableSpelling.{messages_spellable, ObjectSpellable, TablesSpellable, lets_go_all_spellable, loses_all_spellable}
use Rattle.bridge_laws.proofs.ValueSpelling.{all_append}

-- ---- where entries stand

may_call : (g : Setting) (root : ℕ) (oid face : List ℕ) (function : ℕ) (args : List Plain) (s : Side) → may g s (called root oid face function args) ≡ true → holds_pair root oid face s.tables ≡ true
unfolding may
may_call g root oid face function args s is =
    let begins = and_parts (not (has_entries s)) _ (and_parts (stands s) _ is).1 in
    (and_parts (holds_pair root oid face s.tables) (may_give g root args s) (and_parts (may_begin g root s) _ begins.1).1).0

may_query : (g : Setting) (root : ℕ) (oid face wanted : List ℕ) (s : Side) → may g s (queried root oid face wanted) ≡ true → holds_pair root oid face s.tables ≡ true
unfolding may
may_query g root oid face wanted s is = (and_parts (may_begin g root s) _ (and_parts (not (has_entries s)) _ (and_parts (stands s) _ is).1).1).1

-- ---- objects that go

reaped_by : (g : Setting) (b : Bool) (o : Object) (t : Tables) → TablesSpellable t → TablesSpellable (reaps_object g b o t)
unfolding without_object
reaped_by g true o t fine =
    lets_go_all_spellable g (holder.Object o.number) (refs_of_values o.fields) (record t { objects = without_object o.number t.objects })
    (record { fields = all_filtered ObjectSpellable (λ p. not (o.number == p.number)) t.objects fine.fields; held = fine.held; states = fine.states; said = fine.said })
reaped_by g false o t fine =
    loses_all_spellable (holder.Object o.number) (refs_of_values o.fields) (record t { objects = without_object o.number t.objects })
    (record { fields = all_filtered ObjectSpellable (λ p. not (o.number == p.number)) t.objects fine.fields; held = fine.held; states = fine.states; said = fine.said })

reaps_spellable : (C : Incoming → Type 0) (g : Setting) (o : Option Object) (s : Side) → SideSpellable C s → SideSpellable C (reaps_some g o s)
unfolding reaps
reaps_spellable C g None s fine = fine
reaps_spellable C g (Some o) s fine = tabled_spellable C (reaps_object g (stands s) o s.tables) s (reaped_by g (stands s) o s.tables fine.tables) fine

-- ---- the opening

all_idle : (n : ℕ) → AllByRecursion StateSpellable (replicate n idle)
all_idle zero = tt
all_idle (suc n) = (tt, all_idle n)

nothing_there : (p : Plan) → TablesSpellable (no_objects p)
nothing_there p = record { fields = tt; held = tt; states = all_idle (length p.threads); said = tt }

-- ---- messages

rest_spellable : (n : ℕ) (ms : List Message) → AllByRecursion MessageGoes ms → AllByRecursion MessageGoes (drop n ms)
rest_spellable zero ms all = all
rest_spellable (suc n) [] all = tt
rest_spellable (suc n) (m ∷ ms) all = rest_spellable n ms all.1

pub said_spellable : (e : Entry) (before now : List Message) → AllByRecursion MessageGoes now → AllByRecursion MessageGoes (said_by e before now)
said_spellable (drained b) before now all = tt
said_spellable e before now all = rest_spellable (length before) now all

module _ (C : Incoming → Type 0) where
  pub counted_by : (b : Bool) (s : Side) → SideSpellable C s → SideSpellable C (if b then record s { entries = suc s.entries } else s)
  counted_by true s fine = record { tables = fine.tables; stacks = fine.stacks; comes = fine.comes }
  counted_by false s fine = fine

  pub opening_spellable : (g : Setting) → IsGiven g → C nothing_came → SideSpellable C (opening g)
  unfolding opening
  opening_spellable g given nothing =
      record {
        tables = makes_all_spellable g given (first_objects g.plan) (no_objects g.plan) (nothing_there g.plan);
        stacks = tt;
        comes = nothing;
      }

-- ---- entries

-- an entry gives what can be carried by bytes; of what is fed it is asked otherwise
abbrev pub EntryFits : (List ℕ → Side → Type 0) → Entry → Side → Type 0
EntryFits Q (fed b) s = Q b s
EntryFits Q e s = IsGivenByRoot e

module _ (g : Setting) (given : IsGiven g) (C : Incoming → Type 0) (nothing : C nothing_came) (Q : List ℕ → Side → Type 0)
    (reads : (b : List ℕ) (s : Side) → Q b s → SideSpellable C s → SideSpellable C (feeds g b s).side) where
  -- ---- statements

  effect_spellable : (tid : List ℕ) (p : Picked) (e : Effect) (s : Side) → UnwoundSpellable (applies g tid p.method p.below e s.tables) → SideSpellable C s
      → SideSpellable C (applies_effect g tid p e s)
  effect_spellable tid p disposes s is fine = ends_spellable C nothing cause.Disposed s fine
  effect_spellable tid p e s is fine = unwound_spellable C tid (applies g tid p.method p.below e s.tables) s is fine

  picked_spellable : (tid : List ℕ) (fs : List Frame) (s : Side) → FramesSpellable fs → SideSpellable C s → SideSpellable C (applies_picked g tid (picked_in fs) s)
  picked_spellable tid (body b ∷ fs) s frames fine =
      effect_spellable tid (record { method = b; below = fs }) (effect_at g tid b fs s.tables) s (method_applied g given tid b fs s.tables frames.0 frames.1 fine.tables) fine
  picked_spellable tid fs s frames fine = fine

  applied_spellable : (tid : List ℕ) (s : Side) → SideSpellable C s → SideSpellable C (applies_picked g tid (picked tid s) s)
  unfolding picked
  applied_spellable tid s fine = picked_spellable tid (frames_of tid s.stacks) s (thread_spellable tid s.stacks fine.stacks) fine

  -- ---- entries

  pub does_spellable : (e : Entry) (s : Side) → EntryFits Q e s → may g s e ≡ true → SideSpellable C s → SideSpellable C (does g e s).side
  unfolding does
  does_spellable (fed b) s gives is fine = reads b s gives fine
  does_spellable ended s gives is fine = ends_spellable C nothing cause.Ended s fine
  does_spellable failed s gives is fine = ends_spellable C nothing cause.Failed s fine
  does_spellable (asked root name wanted) s gives is fine = root_asks_spellable g given C root name wanted s gives fine
  does_spellable (called root oid face function args) s gives is fine =
      root_calls_spellable g given C root oid face function args s (pair_spellable C root oid face s fine (may_call g root oid face function args s is)) gives fine
  does_spellable (queried root oid face wanted) s gives is fine =
      root_queries_spellable g given C root oid face wanted s (pair_spellable C root oid face s fine (may_query g root oid face wanted s is)) fine
  does_spellable (made root behaviour wanted) s gives is fine = root_makes_spellable g given C root behaviour wanted s fine
  does_spellable (dropped root oid face) s gives is fine = root_drops_spellable g given C root oid face s fine
  does_spellable (applied tid) s gives is fine = applied_spellable tid s fine
  does_spellable (took root) s gives is fine = root_takes_spellable g given C root s fine
  does_spellable (reaped object) s gives is fine = reaps_spellable C g (lowest g s.tables) s fine
  does_spellable (drained b) s gives is fine = drains_spellable C g (length b) s fine
  does_spellable disposed s gives is fine = ends_spellable C nothing cause.Disposed s fine
  does_spellable full s gives is fine = ends_spellable C nothing cause.Full s fine
  does_spellable no_memory s gives is fine = runs_out_spellable C nothing s.cause s fine

-- ---- histories

module _ (g : Setting) (given : IsGiven g) where
  bytes_fit : (e : Entry) (s : Side) → IsGivenSpellable e → EntryFits (λ b u. AreBytes b) e s
  bytes_fit (fed b) s gives = gives
  bytes_fit e s gives = gives

  step_spellable : (e : Entry) (s : Side) → IsGivenSpellable e → may g s e ≡ true → SideSpellable (Comes g.registry) s → SideSpellable (Comes g.registry) (does g e s).side
  step_spellable e s gives is fine =
      does_spellable g given (Comes g.registry) (nothing_comes g.registry) (λ b u. AreBytes b) (feeds_spellable g given) e s (bytes_fit e s gives) is fine

  pub record Stays (x : Told) : Type 0 where
    pub side : SideSpellable (Comes g.registry) x.side
    pub said : AllByRecursion MessageGoes x.said

  stays_on : (x : Told) (e : Entry) → IsGivenSpellable e → may g x.side e ≡ true → Stays x → Stays (told_more x e (turn e x.side (does g e x.side)))
  stays_on x e gives is stays =
      let fine = step_spellable e x.side gives is stays.side in
      record {
        side = counted_by (Comes g.registry) (counts e) (does g e x.side).side fine;
        said = all_append MessageGoes x.said _ stays.said (said_spellable e x.side.tables.unsaid (does g e x.side).side.tables.unsaid fine.tables.said);
      }

  told_fine : (x : Told) (e : Entry) (o : Option Turn) → IsGivenSpellable e → Stays x → o ≡ step g x.side e → (y : Told) → told_by x e o ≡ Some y → Stays y
  told_fine x e None gives stays is y to = absurd (cc)
  told_fine x e (Some u) gives stays is y to =
      subst Stays (cc) (of_step g x.side e u (λ v. Stays (told_more x e v)) (λ may_it. stays_on x e gives may_it stays) (cc))

  along_given : (o : Option Told) (es : List Entry) → AreGivenSpellable es → ((x : Told) → o ≡ Some x → Stays x) → (y : Told) → tells_all g o es ≡ Some y → Stays y
  unfolding tells_all
  along_given None es gives stays y to = absurd (cc)
  along_given (Some x) [] gives stays y to = stays y to
  along_given (Some x) (e ∷ es) gives stays y to =
      along_given (tells g x e) es gives.1 (λ z is. told_fine x e (step g x.side e) gives.0 (stays x refl) refl z is) y to

  first_stays : Stays (nothing_told g)
  first_stays = record { side = opening_spellable (Comes g.registry) g given (nothing_comes g.registry); said = tt }

  pub all_stays : (es : List Entry) (x : Told) → AreGivenSpellable es → Leads g es x → Stays x
  unfolding replay
  all_stays es x gives leads = along_given (Some (nothing_told g)) es gives (λ z is. subst Stays (cc) first_stays) x leads

  -- what the next entry says
  pub next_spellable : (es : List Entry) (x : Told) → AreGivenSpellable es → Leads g es x → (e : Entry) → IsGivenSpellable e → may g x.side e ≡ true
      → AllByRecursion MessageSpellable (does g e x.side).side.tables.unsaid
  next_spellable es x gives leads e one is =
      messages_spellable (does g e x.side).side.tables.unsaid (step_spellable e x.side one is (all_stays es x gives leads).side).tables.said
