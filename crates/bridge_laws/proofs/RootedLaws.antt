-- Over every history whose roots are of the plan: a root waits exactly where its thread has a stack, which begins with the root, and no other thread of this end has one.
use Rattle.std.proofs.Common.{◌≡◌, refl, sym, ap, subst, ◌∙◌, ℕ, ◌^◌, ◌≤◌, ◌<◌, Bool, true, false, not, ◌&&◌, List, [], ◌∷◌, length, Option, None, Some}
use Rattle.std.specs.List.{AllByRecursion}
use Rattle.std.proofs.lemmas.Bool.{and_parts, true≢false, false≢true}
use Rattle.plan_model.specs.Frames.{Frame, base, body, outgoing, frames_of}
use Rattle.bridge_model.specs.Entries.{Entry, fed, ended, failed, asked, called, queried, made, dropped, applied, took, reaped, drained, disposed, full, no_memory}
use Rattle.bridge_model.specs.Going.{drains}
use Rattle.bridge_model.specs.Histories.{Told, nothing_told, told_more, told_by, tells, tells_all, replay, Leads}
use Rattle.bridge_model.specs.Objects.{lowest}
use Rattle.bridge_model.specs.Roots.{holds_pair, is_idle}
use Rattle.bridge_model.specs.Settings.{Setting, root_tid, is_own}
use Rattle.bridge_model.specs.Sides.{RootState, Side, stands, state_of}
use Rattle.bridge_model.specs.Steps.{Turn, has_entries, is_root, may_begin, may_give, may, does, turn, step}
use Rattle.bridge_model.specs.declared.cause.Cause.TheVariants as cause
use Rattle.bridge_laws.specs.OfPlan.{IsOfPlan, AreOfPlan}
use Rattle.bridge_laws.specs.Rooted.{bottom, waits, IsRooted, AreRoots}
use Rattle.bridge_laws.specs.Grounded.{is_live, root_in, began, Thread, nothing, of_root, of_peer, HasRoots}
use Rattle.bridge_laws.proofs.Replays.{of_step}
use Rattle.bridge_laws.proofs.RootEntryLaws.{calls_rooted, queries_rooted, root_asks_rooted, makes_rooted, drops_rooted, takes_rooted, reaps_rooted, opening_rooted}
use Rattle.bridge_laws.proofs.RootSideLaws.{ends_rooted, runs_out_rooted, picked_rooted, feeds_rooted}
use Rattle.bridge_laws.proofs.ThreadLaws.{root_own, root_named}

-- ---- histories of which each entry is of a kind

-- what is kept at each step of an entry of the kind
abbrev pub IsKeptWhere : Setting → (Entry → Type 0) → (Told → Type 0) → Type 0
IsKeptWhere g Q P = (x : Told) (e : Entry) → Q e → P x → may g x.side e ≡ true → P (told_more x e (turn e x.side (does g e x.side)))

tells_where : (g : Setting) (Q : Entry → Type 0) (P : Told → Type 0) → IsKeptWhere g Q P → (x : Told) (e : Entry) (o : Option Turn) → Q e → P x → o ≡ step g x.side e
    → (y : Told) → told_by x e o ≡ Some y → P y
tells_where g Q P keeps x e None kind fine is y to = absurd (cc)
tells_where g Q P keeps x e (Some u) kind fine is y to =
    subst P (cc) (of_step g x.side e u (λ v. P (told_more x e v)) (λ may_it. keeps x e kind fine may_it) (cc))

along_where : (g : Setting) (Q : Entry → Type 0) (P : Told → Type 0) → IsKeptWhere g Q P → (o : Option Told) → ((x : Told) → o ≡ Some x → P x) → (es : List Entry)
    → AllByRecursion Q es → (y : Told) → tells_all g o es ≡ Some y → P y
unfolding tells_all
along_where g Q P keeps None fine es kinds y to = absurd (cc)
along_where g Q P keeps (Some x) fine [] kinds y to = fine y to
along_where g Q P keeps (Some x) fine (e ∷ es) kinds y to =
    along_where g Q P keeps (tells g x e) (λ z is. tells_where g Q P keeps x e (step g x.side e) kinds.0 (fine x refl) refl z is) es kinds.1 y to

pub along_replay_where : (g : Setting) (Q : Entry → Type 0) (P : Told → Type 0) → P (nothing_told g) → IsKeptWhere g Q P → (es : List Entry) → AllByRecursion Q es
    → (y : Told) → replay g es ≡ Some y → P y
unfolding replay
along_replay_where g Q P first keeps es kinds y to = along_where g Q P keeps (Some (nothing_told g)) (λ x is. subst P (cc) first) es kinds y to

-- ---- each entry

idle_asked : (g : Setting) (s : Side) (root : ℕ) → (stands s && (not (has_entries s) && may_begin g root s)) ≡ true → is_idle (state_of root s.tables.roots) ≡ true
idle_asked g s root ok =
    let parts = and_parts (stands s) (not (has_entries s) && may_begin g root s) ok in
    (and_parts (is_root g root) (is_idle (state_of root s.tables.roots)) (and_parts (not (has_entries s)) (may_begin g root s) parts.1).1).1

idle_begins : (g : Setting) (s : Side) (root : ℕ) (rest : Bool) → (stands s && (not (has_entries s) && (may_begin g root s && rest))) ≡ true
    → is_idle (state_of root s.tables.roots) ≡ true
idle_begins g s root rest ok =
    let parts = and_parts (stands s) (not (has_entries s) && (may_begin g root s && rest)) ok in
    let more = and_parts (not (has_entries s)) (may_begin g root s && rest) parts.1 in
    (and_parts (is_root g root) (is_idle (state_of root s.tables.roots)) (and_parts (may_begin g root s) rest more.1).0).1

roots_kept : (g : Setting) → length g.plan.threads < 2 ^ 64 → IsKeptWhere g (IsOfPlan g) (λ x. HasRoots g x.side)
unfolding does may drains
roots_kept g few x (fed b) kind all ok = feeds_rooted g few b x.side all
roots_kept g few x ended kind all ok = ends_rooted g cause.Ended x.side all
roots_kept g few x failed kind all ok = ends_rooted g cause.Failed x.side all
roots_kept g few x (asked root name wanted) kind all ok = root_asks_rooted g root name wanted x.side kind (idle_asked g x.side root ok) all
roots_kept g few x (called root oid face function args) kind all ok =
    calls_rooted g root oid face function args x.side kind (idle_begins g x.side root (holds_pair root oid face x.side.tables && may_give g root args x.side) ok) all
roots_kept g few x (queried root oid face wanted) kind all ok =
    queries_rooted g root oid face wanted x.side kind (idle_begins g x.side root (holds_pair root oid face x.side.tables) ok) all
roots_kept g few x (made root behaviour wanted) kind all ok = makes_rooted g root behaviour wanted x.side all
roots_kept g few x (dropped root oid face) kind all ok = drops_rooted g root oid face x.side all
roots_kept g few x (applied tid) kind all ok = picked_rooted g tid x.side few all
roots_kept g few x (took root) kind all ok = takes_rooted g root x.side ok all
roots_kept g few x (reaped object) kind all ok = reaps_rooted g (lowest g x.side.tables) x.side all
roots_kept g few x (drained b) kind all ok = all
roots_kept g few x disposed kind all ok = ends_rooted g cause.Disposed x.side all
roots_kept g few x full kind all ok = ends_rooted g cause.Full x.side all
roots_kept g few x no_memory kind all ok = runs_out_rooted g x.side.cause x.side all

pub has_roots : (g : Setting) (es : List Entry) (x : Told) → AreOfPlan g es → Leads g es x → HasRoots g x.side
has_roots g es x plan leads = along_replay_where g (IsOfPlan g) (λ y. HasRoots g y.side) (opening_rooted g) (roots_kept g plan.few) es plan.roots x leads

-- ---- roots and their stacks

began_by : (root : ℕ) (fs : List Frame) → bottom fs ≡ Some (base root) → began fs ≡ Some root
began_by root [] is = absurd (cc)
began_by root (f ∷ []) is = let same : f ≡ base root = cc in ap root_in same
began_by root (f ∷ (h ∷ fs)) is = began_by root (h ∷ fs) is

bottom_is : (root : ℕ) (fs : List Frame) → began fs ≡ Some root → bottom fs ≡ Some (base root)
bottom_is root [] is = absurd (cc)
bottom_is root (base r ∷ []) is = cc
bottom_is root (body b ∷ []) is = absurd (cc)
bottom_is root (outgoing o ∷ []) is = absurd (cc)
bottom_is root (f ∷ (h ∷ fs)) is = bottom_is root (h ∷ fs) is

-- what a thread says of its root
module _ (g : Setting) (roots : List RootState) (root : ℕ) (fs : List Frame) (few : length g.plan.threads < 2 ^ 64) (least : 1 ≤ root) (most : root ≤ length g.plan.threads) where
  not_peer : is_own g (root_tid g root) ≡ false → ⊥
  not_peer theirs = false≢true (sym theirs ∙ root_own g root)

  waits_began : Thread g roots (root_tid g root) fs → waits (state_of root roots) ≡ true → began fs ≡ Some root
  waits_began (nothing none free) waiting = absurd (true≢false (sym waiting ∙ free root least most refl))
  waits_began (of_root r first last is waits_too live from) waiting = let same = root_named g root r few most last is in from ∙ ap (λ n. Some n) (sym same)
  waits_began (of_peer theirs live from) waiting = absurd (not_peer theirs)

  began_waits : Thread g roots (root_tid g root) fs → began fs ≡ Some root → waits (state_of root roots) ≡ true
  began_waits (nothing none free) from = let no_root : ◌≡◌ {A = Option ℕ} None (Some root) = sym (ap began none) ∙ from in absurd (cc)
  began_waits (of_root r first last is waits_too live began_from) from = let same = root_named g root r few most last is in ap (λ n. waits (state_of n roots)) same ∙ waits_too
  began_waits (of_peer theirs live none) from = absurd (not_peer theirs)

  quiet_none : Thread g roots (root_tid g root) fs → waits (state_of root roots) ≡ false → fs ≡ []
  quiet_none (nothing none free) quiet = none
  quiet_none (of_root r first last is waits_too live from) quiet =
      let same = root_named g root r few most last is in
      absurd (true≢false (sym waits_too ∙ (ap (λ n. waits (state_of n roots)) (sym same) ∙ quiet)))
  quiet_none (of_peer theirs live from) quiet = absurd (not_peer theirs)

  none_quiet : Thread g roots (root_tid g root) fs → fs ≡ [] → waits (state_of root roots) ≡ false
  none_quiet (nothing none free) is = free root least most refl
  none_quiet (of_root r first last named waits_too live from) is = absurd (false≢true (sym (ap is_live is) ∙ live))
  none_quiet (of_peer theirs live from) is = absurd (not_peer theirs)

pub is_rooted : (g : Setting) (es : List Entry) (x : Told) (root : ℕ) → AreOfPlan g es → Leads g es x → 1 ≤ root → root ≤ length g.plan.threads → IsRooted g x.side root
is_rooted g es x root plan leads least most =
    let roots = x.side.tables.roots in
    let fs = frames_of (root_tid g root) x.side.stacks in
    let here = (has_roots g es x plan leads).each (root_tid g root) in
    record {
      waiting = (
        λ w. bottom_is root fs (waits_began g roots root fs plan.few least most here w),
        λ b. began_waits g roots root fs plan.few least most here (began_by root fs b),
      );
      quiet = (quiet_none g roots root fs plan.few least most here, none_quiet g roots root fs plan.few least most here);
    }

own_root : (g : Setting) (roots : List RootState) (tid : List ℕ) (f : Frame) (fs : List Frame) → Thread g roots tid (f ∷ fs) → is_own g tid ≡ true
    → (root : ℕ) × (1 ≤ root) × (root ≤ length g.plan.threads) × (tid ≡ root_tid g root)
own_root g roots tid f fs (nothing none free) ours = absurd (cc)
own_root g roots tid f fs (of_root root least most is waiting live from) ours = (root, least, most, is)
own_root g roots tid f fs (of_peer theirs live from) ours = absurd (true≢false (sym ours ∙ theirs))

pub are_roots : (g : Setting) (es : List Entry) (x : Told) → AreOfPlan g es → Leads g es x → AreRoots g x.side
are_roots g es x plan leads tid ours f fs is =
    own_root g x.side.tables.roots tid f fs (subst (Thread g x.side.tables.roots tid) is ((has_roots g es x plan leads).each tid)) ours
