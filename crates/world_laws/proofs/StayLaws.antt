-- While a call waits on top of a thread, no entry of its end touches the thread but the message that comes on it.
use Rattle.std.proofs.Common.{◌≡◌, refl, sym, ap, subst, ◌∙◌, ℕ, suc, ◌<◌, ◌≤◌, ◌^◌, inl, inr, Bool, true, false, not, ◌&&◌, nat_lt, List, [], ◌∷◌, length, Option, None, Some, arith, if◌then◌else◌}
use Rattle.std.specs.Str.{bytes_eq}
use Rattle.std.proofs.lemmas.Bool.{true≢false, and_parts, ltb-true, ltb-false, not-true}
use Rattle.std.proofs.lemmas.Slice.Eq.{bytes_eq-Decides}
use Rattle.message_model.specs.Messages.{Message, request, release, reply}
use Rattle.plan_model.specs.Asking.{Effect, disposes}
use Rattle.plan_model.specs.Frames.{Outgoing, Frame, outgoing, Stack, frames_of}
use Rattle.bridge_model.specs.Entries.{Entry, fed, ended, failed, asked, called, queried, made, dropped, applied, took, reaped, drained, disposed, full, no_memory, counts}
use Rattle.bridge_model.specs.Ends.{ends_by}
use Rattle.bridge_model.specs.Roots.{is_idle, root_calls, root_queries, root_asks}
use Rattle.bridge_model.specs.Settings.{Setting, root_tid}
use Rattle.bridge_model.specs.Histories.{Told, Leads}
use Rattle.bridge_model.specs.Sides.{Object, RootState, idle, waits_call, waits_query, answered, Side, Tables, stands, state_of}
use Rattle.bridge_laws.specs.Rooted.{waits}
use Rattle.bridge_laws.proofs.RootedLaws.{is_rooted}
use Rattle.bridge_laws.proofs.TellingLaws.{all_allowed}
use Rattle.world_model.specs.Worlds.{End}
use Rattle.bridge_model.specs.Stacks.{puts_frames}
use Rattle.bridge_model.specs.Steps.{Picked, picked, picked_in, is_picked, has_entries, is_root, may_begin, applies_effect, applies_picked, Turn, step, does, may}
use Rattle.bridge_laws.proofs.Replays.{of_step}
use Rattle.bridge_laws.proofs.StandingLaws.{no_more, stood, same_standing}
use Rattle.bridge_laws.proofs.ThreadStackLaws.{frames_stay}
use Rattle.bridge_laws.specs.Hearings.{Leaves, Hears, rests, breaks, hears}
use Rattle.world_laws.proofs.RootThreads.{RootStep, calmly, begun, root_calls_step, root_queries_step, root_asks_step, makes_calm, drops_calm, takes_calm, reaps_calm}
use Rattle.world_model.specs.Threads.{Signal, signal_if, signal_on}
use Rattle.std.specs.List.{AllByRecursion}
use Rattle.bridge_model.specs.Applying.{effect_at}
use Rattle.bridge_model.specs.Feeding.{feeds}
use Rattle.bridge_model.specs.Going.{drains}
use Rattle.bridge_model.specs.Objects.{lowest}
use Rattle.bridge_laws.specs.Grounded.{AreApart}
use Rattle.bridge_laws.proofs.MessageFates.{feeds_on}

-- frames that are put on another thread
put_other : (tid t : List ℕ) (fs : List Frame) (ss zs : List Stack) → (tid ≡ t → ⊥) → zs ≡ puts_frames t fs ss → frames_of tid zs ≡ frames_of tid ss
put_other tid t fs ss zs apart is = ap (frames_of tid) is ∙ frames_stay t tid fs ss apart

-- ---- messages

not_said : (tid t : List ℕ) (s : Signal) → signal_if (bytes_eq tid t) s ≡ [] → tid ≡ t → ⊥
unfolding signal_if
not_said tid t s none same = by_test (bytes_eq tid t) ((bytes_eq-Decides tid t).1 same) none
  where
    by_test : (b : Bool) → b ≡ true → signal_if b s ≡ [] → ⊥
    by_test true is none = cc
    by_test false is none = true≢false (sym is)

message_stays : (g : Setting) (tid : List ℕ) (t : Tables) (ss : List Stack) (m : Message) (os : List Object) (zs : List Stack) → signal_on tid m ≡ [] → Leaves g t ss m os zs → frames_of tid zs ≡ frames_of tid ss
unfolding signal_on
message_stays g tid t ss (release k oid face) os zs none is = ap (frames_of tid) is
message_stays g tid t ss (request k oid face function args) os zs none (inl (at_once, is)) = ap (frames_of tid) is
message_stays g tid t ss (request k oid face function args) os zs none (inr (begins, is)) = put_other tid k _ ss zs (not_said tid k _ none) is
message_stays g tid t ss (reply k face function a) os zs none (on, fs, left, is) = put_other tid k fs ss zs (not_said tid k _ none) is

-- each of these messages is of another thread
abbrev pub AreSilent : (tid : List ℕ) → List Message → Type 0
AreSilent tid ms = AllByRecursion (λ m. signal_on tid m ≡ []) ms

chain_stays : (g : Setting) (tid : List ℕ) (t : Tables) (ss : List Stack) (ms rs : List Message) (z : Side) → Hears g t ss ms rs z → stands z ≡ true → AreSilent tid ms → frames_of tid z.stacks ≡ frames_of tid ss
unfolding ends_by
chain_stays g tid t' ss' ms' rs' z' (rests z) up none = refl
chain_stays g tid t' ss' ms' rs' z' (breaks s why place) up none = absurd (cc)
chain_stays g tid t' ss' ms' rs' end' (hears t ss m z ms rs end got later) up none =
    chain_stays g tid z.tables z.stacks ms rs end later up none.1 ∙ message_stays g tid t ss m z.tables.objects z.stacks none.0 got.stacks

-- no message, or one
pub same_first : (m k : Message) (ms : List Message) → m ∷ ms ≡ k ∷ [] → (m ≡ k) × (ms ≡ [])
same_first m k ms is = (cc, cc)

pub chain_rests : (g : Setting) (t : Tables) (ss : List Stack) (ms rs : List Message) (z : Side) → Hears g t ss ms rs z → ms ≡ [] → stands z ≡ true → (z.tables ≡ t) × (z.stacks ≡ ss)
unfolding ends_by
chain_rests g t' ss' ms' rs' z' (rests z) none up = (refl, refl)
chain_rests g t' ss' ms' rs' z' (breaks s why place) none up = absurd (cc)
chain_rests g t' ss' ms' rs' end' (hears t ss m z ms rs end got later) none up = absurd (cc)

-- ---- entries

some_frames : {X : Type 0} (fs : List Frame) (o : Outgoing) (below : List Frame) → fs ≡ outgoing o ∷ below → fs ≡ [] → X
some_frames fs o below is none = let bad : [] ≡ outgoing o ∷ below = sym none ∙ is in absurd (cc)

none_there : (fs : List Frame) (o : Outgoing) (below : List Frame) → fs ≡ outgoing o ∷ below → is_picked (picked_in fs) ≡ true → ⊥
none_there fs o below is can = let bad : is_picked (picked_in (outgoing o ∷ below)) ≡ true = subst (λ gs. is_picked (picked_in gs) ≡ true) is can in absurd (cc)

-- an idle root has no stack
abbrev pub Rest : Setting → Side → Type 0
Rest g s = (n : ℕ) → is_root g n ≡ true → is_idle (state_of n s.tables.roots) ≡ true → frames_of (root_tid g n) s.stacks ≡ []

-- a root that may begin is idle, and has no stack
pub resting : (g : Setting) (s : Side) → Rest g s → (n : ℕ) (a b c : Bool) → (a && (b && (may_begin g n s && c))) ≡ true → frames_of (root_tid g n) s.stacks ≡ []
resting g s rest n a b c can =
    let begins = (and_parts (may_begin g n s) c (and_parts b (may_begin g n s && c) (and_parts a (b && (may_begin g n s && c)) can).1).1).0 in
    let both = and_parts (is_root g n) (is_idle (state_of n s.tables.roots)) begins in rest n both.0 both.1

pub resting_last : (g : Setting) (s : Side) → Rest g s → (n : ℕ) (a b : Bool) → (a && (b && may_begin g n s)) ≡ true → frames_of (root_tid g n) s.stacks ≡ []
resting_last g s rest n a b can =
    let begins = (and_parts b (may_begin g n s) (and_parts a (b && may_begin g n s) can).1).1 in
    let both = and_parts (is_root g n) (is_idle (state_of n s.tables.roots)) begins in rest n both.0 both.1

module _ (g : Setting) (tid : List ℕ) (s : Side) (o : Outgoing) (below : List Frame) (top : frames_of tid s.stacks ≡ outgoing o ∷ below) (rest : Rest g s) where
  root_stays : (n : ℕ) (z : Side) → frames_of (root_tid g n) s.stacks ≡ [] → RootStep (root_tid g n) s z → frames_of tid z.stacks ≡ frames_of tid s.stacks
  root_stays n z none (calmly calm) = ap (frames_of tid) calm.stacks
  root_stays n z none (begun u l starts stacks unsaid leaves) =
      put_other tid (root_tid g n) u.frames s.stacks z.stacks (λ same. some_frames (frames_of tid s.stacks) o below top (ap (λ k. frames_of k s.stacks) same ∙ none)) stacks

  effect_stays : (k : List ℕ) (p : Picked) (e : Effect) → (tid ≡ k → ⊥) → stands (applies_effect g k p e s) ≡ true → frames_of tid (applies_effect g k p e s).stacks ≡ frames_of tid s.stacks
  unfolding ends_by
  effect_stays k p disposes apart up = absurd (cc)
  effect_stays k p e apart up = frames_stay k tid _ s.stacks apart

  applied_stays : (k : List ℕ) (p : Option Picked) → (tid ≡ k → ⊥) → stands (applies_picked g k p s) ≡ true → frames_of tid (applies_picked g k p s).stacks ≡ frames_of tid s.stacks
  applied_stays k None apart up = refl
  applied_stays k (Some p) apart up = effect_stays k p (effect_at g k p.method p.below s.tables) apart up

  does_stays : (e : Entry) → AreApart s.stacks → may g s e ≡ true → stands (does g e s).side ≡ true → AreSilent tid (does g e s).got → frames_of tid (does g e s).side.stacks ≡ frames_of tid s.stacks
  unfolding may does ends_by picked drains
  does_stays (fed b) apart can up none = let h = feeds_on g b s apart in chain_stays g tid s.tables s.stacks (feeds g b s).got h.answers (feeds g b s).side h.chain up none
  does_stays ended apart can up none = absurd (cc)
  does_stays failed apart can up none = absurd (cc)
  does_stays (asked n name wanted) apart can up none = root_stays n (root_asks g n name wanted s) (resting_last g s rest n (stands s) (not (has_entries s)) can) (root_asks_step g n name wanted s)
  does_stays (called n oid face function args) apart can up none =
      root_stays n (root_calls g n oid face function args s) (resting g s rest n (stands s) (not (has_entries s)) _ can) (root_calls_step g n oid face function args s)
  does_stays (queried n oid face wanted) apart can up none =
      root_stays n (root_queries g n oid face wanted s) (resting g s rest n (stands s) (not (has_entries s)) _ can) (root_queries_step g n oid face wanted s)
  does_stays (made n behaviour wanted) apart can up none = ap (frames_of tid) (makes_calm g n behaviour wanted s).stacks
  does_stays (dropped n oid face) apart can up none = ap (frames_of tid) (drops_calm g n oid face s).stacks
  does_stays (applied k) apart can up none =
      applied_stays k (picked_in (frames_of k s.stacks))
      (λ same. none_there (frames_of k s.stacks) o below (ap (λ z. frames_of z s.stacks) (sym same) ∙ top) (and_parts (not (has_entries s)) (is_picked (picked_in (frames_of k s.stacks))) can).1) up
  does_stays (took n) apart can up none = ap (frames_of tid) (takes_calm n s).stacks
  does_stays (reaped object) apart can up none = ap (frames_of tid) (reaps_calm g (lowest g s.tables) s).stacks
  does_stays (drained b) apart can up none = refl
  does_stays disposed apart can up none = absurd (cc)
  does_stays full apart can up none = absurd (cc)
  does_stays no_memory apart can up none = absurd (no_more s.cause s up)

pub counted_stacks : (b : Bool) (s : Side) → (if b then record s { entries = suc s.entries } else s).stacks ≡ s.stacks
counted_stacks true s = refl
counted_stacks false s = refl

-- a step behind which the bridge stands leaves a thread on which a call waits, where no message of it comes
pub step_stays : (g : Setting) (tid : List ℕ) (s : Side) (e : Entry) (u : Turn) (o : Outgoing) (below : List Frame) → frames_of tid s.stacks ≡ outgoing o ∷ below → Rest g s → AreApart s.stacks
    → step g s e ≡ Some u → stands u.side ≡ true → AreSilent tid u.got → frames_of tid u.side.stacks ≡ frames_of tid s.stacks
step_stays g tid s e u o below top rest apart is =
    of_step g s e u (λ v. stands v.side ≡ true → AreSilent tid v.got → frames_of tid v.side.stacks ≡ frames_of tid s.stacks)
    (λ can up none. ap (frames_of tid) (counted_stacks (counts e) (does g e s).side) ∙ does_stays g tid s o below top rest e apart can (sym (same_standing g e s) ∙ up) none) is

-- ---- what an end knows of itself

idle_waits : (r : RootState) → is_idle r ≡ true → waits r ≡ false
idle_waits idle is = refl
idle_waits waits_call is = absurd (cc)
idle_waits (waits_query wanted) is = absurd (cc)
idle_waits (answered o) is = absurd (cc)

pub roots_rest : (g : Setting) (es : List Entry) (x : Told) → length g.plan.threads < 2 ^ 64 → Leads g es x → Rest g x.side
roots_rest g es x few leads n is quiet =
    let both = and_parts (nat_lt 0 n) (not (nat_lt (length g.plan.threads) n)) is in
    let least = ltb-true 0 n both.0 in
    let most = ltb-false (length g.plan.threads) n (not-true (nat_lt (length g.plan.threads) n) both.1) in
    let one : 1 ≤ n = omega arith in
    (is_rooted g es x n (record { roots = (all_allowed g es x leads).roots; few = few }) leads one most).quiet.0 (idle_waits (state_of n x.side.tables.roots) quiet)

pub stood_before : (g : Setting) (s : Side) (e : Entry) (u : Turn) → step g s e ≡ Some u → stands u.side ≡ true → stands s ≡ true
stood_before g s e u is = of_step g s e u (λ v. stands v.side ≡ true → stands s ≡ true) (λ can up. stood g e s can (sym (same_standing g e s) ∙ up)) is

abbrev pub IsCurrent : End → Type 0
IsCurrent e = stands e.now.side ≡ true → e.last ≡ e.now
