-- Interlock over every run of messages, of both ends as they last stood.
use Rattle.std.proofs.Common.{◌≡◌, refl, sym, ap, subst, ◌∙◌, ℕ, ◌<◌, ◌≤◌, ◌^◌, inl, inr, Bool, true, false, not, nat_lt, List, [], length, drop, Some, if◌then◌else◌, arith}
use Rattle.std.proofs.lemmas.Bool.{and_parts, ltb-true, ltb-false, not-true}
use Rattle.plan_model.specs.Frames.{frames_of}
use Rattle.bridge_model.specs.Entries.{Entry}
use Rattle.bridge_model.specs.Histories.{Told, told_more, Leads}
use Rattle.bridge_model.specs.Roots.{is_idle}
use Rattle.bridge_model.specs.Settings.{Setting, is_own, root_tid}
use Rattle.bridge_model.specs.Sides.{RootState, idle, waits_call, waits_query, answered, Side, stands, state_of}
use Rattle.bridge_model.specs.Steps.{Turn, step, opening}
use Rattle.bridge_laws.specs.OfPlan.{AreOfPlan}
use Rattle.bridge_laws.specs.Rooted.{waits}
use Rattle.bridge_laws.proofs.Replays.{of_step}
use Rattle.bridge_laws.proofs.RootedLaws.{has_roots, is_rooted}
use Rattle.bridge_laws.proofs.StandingLaws.{stood, same_standing}
use Rattle.bridge_laws.proofs.TellingLaws.{all_allowed}
use Rattle.bridge_laws.proofs.ThreadLaws.{root_own}
use Rattle.bridge_laws.specs.Grounded.{AreApart}
use Rattle.world_model.specs.Flights.{flight, Follows, IsNext}
use Rattle.world_model.specs.Meetings.{Moves, Meets, begins, a_moves, b_moves}
use Rattle.world_model.specs.Threads.{Thread, runs, asked, signals, View, turned, seen, Locks, Ours, view, Interlock}
use Rattle.world_model.specs.Threads as th
use Rattle.world_model.specs.Worlds.{Settings, of_a, of_b, AreJoined, End, moved, World, Event, entries_of}
use Rattle.world_model.specs.declared.side.Side.TheVariants.{A, B}
use Rattle.world_laws.proofs.EntryThreads.{RootsRest, step_locks}
use Rattle.world_laws.proofs.LastLaws.{both_last, last_linked, LastStood}
use Rattle.world_laws.proofs.RunLaws.{both_lead}
use Rattle.world_laws.proofs.WorldLaws.{other_apart}

-- ---- the other end's view

twice : (b : Bool) → not (not b) ≡ b
twice true = refl
twice false = refl

back_again : (v : View) → turned (turned v) ≡ v
back_again v = let same = twice v.own in λ i. record { own = same i; mine = v.mine; theirs = v.theirs; to_me = v.to_me; to_them = v.to_them }

pub turned_locks : (v : View) → Locks v → Locks (turned v)
turned_locks v (th, real, inl is) = (th, real, inr (ap turned is))
turned_locks v (th, real, inr is) = (th, real, inl (ap turned is ∙ back_again (seen th)))

-- what the other end gave a name, as far as this end knows
abbrev pub others : Ours → Ours
others ours tid = not (ours tid)

pub turned_interlock : (ours : Ours) (x y : Told) → Interlock ours x y → Interlock (others ours) y x
turned_interlock ours x y all tid = turned_locks (view ours tid x y) (all tid)

twice_interlock : (ours : Ours) (x y : Told) → Interlock (others (others ours)) x y → Interlock ours x y
twice_interlock ours x y all tid = subst Locks (let same = twice (ours tid) in λ i. record { own = same i; mine = (view ours tid x y).mine; theirs = (view ours tid x y).theirs; to_me = (view ours tid x y).to_me; to_them = (view ours tid x y).to_them }) (all tid)

-- ---- what an end knows of itself

idle_waits : (r : RootState) → is_idle r ≡ true → waits r ≡ false
idle_waits idle is = refl
idle_waits waits_call is = absurd (cc)
idle_waits (waits_query wanted) is = absurd (cc)
idle_waits (answered o) is = refl

few_roots : (g : Setting) (es : List Entry) (x : Told) → length g.plan.threads < 2 ^ 64 → Leads g es x → AreOfPlan g es
few_roots g es x few leads = record { roots = (all_allowed g es x leads).roots; few = few }

roots_rest : (g : Setting) (ours : Ours) (es : List Entry) (x : Told) → length g.plan.threads < 2 ^ 64 → Leads g es x → ((n : ℕ) → ours (root_tid g n) ≡ true) → RootsRest g ours x.side
roots_rest g ours es x few leads mine n is rests =
    let both = and_parts (nat_lt 0 n) (not (nat_lt (length g.plan.threads) n)) is in
    let least = ltb-true 0 n both.0 in
    let most = ltb-false (length g.plan.threads) n (not-true (nat_lt (length g.plan.threads) n) both.1) in
    let one : 1 ≤ n = omega arith in
    (mine n, (is_rooted g es x n (few_roots g es x few leads) leads one most).quiet.0 (idle_waits (state_of n x.side.tables.roots) rests))

pub apart_of : (g : Setting) (es : List Entry) (x : Told) → length g.plan.threads < 2 ^ 64 → Leads g es x → AreApart x.side.stacks
apart_of g es x few leads = (has_roots g es x (few_roots g es x few leads) leads).apart

-- ---- an end that stands is as it last stood

abbrev IsCurrent : End → Type 0
IsCurrent e = stands e.now.side ≡ true → e.last ≡ e.now

moved_current : (e : End) (x : Told) → IsCurrent (moved e x)
moved_current e x up = ap (λ b. if b then x else e.last) up

after_current : (g : Setting) (one other after : End) (e : Entry) → Moves g one other e after → IsCurrent after
after_current g one other after e m = subst IsCurrent (sym m.becomes) (moved_current one (told_more one.now e m.turn))

pub record BothCurrent (w : World) : Type 0 where
  pub a : stands w.a.now.side ≡ true → w.a.last ≡ w.a.now
  pub b : stands w.b.now.side ≡ true → w.b.last ≡ w.b.now

pub both_current : (g : Settings) (es : List Event) (w : World) → Meets g es w → BothCurrent w
both_current g es w begins = record { a = λ up. refl; b = λ up. refl }
both_current g es' w' (a_moves es w e after met m) = record { a = after_current (of_a g) w.a w.b after e m; b = (both_current g es w met).b }
both_current g es' w' (b_moves es w e after met m) = record { a = (both_current g es w met).a; b = after_current (of_b g) w.b w.a after e m }

-- ---- a move

stood_before : (g : Setting) (s : Side) (e : Entry) (u : Turn) → step g s e ≡ Some u → stands u.side ≡ true → stands s ≡ true
stood_before g s e u is = of_step g s e u (λ v. stands v.side ≡ true → stands s ≡ true) (λ can up. stood g e s can (sym (same_standing g e s) ∙ up)) is

move_by : (g : Setting) (ours : Ours) (es : List Entry) (one other : End) (e : Entry) (u : Turn) → length g.plan.threads < 2 ^ 64 → Leads g es one.now → ((n : ℕ) → ours (root_tid g n) ≡ true)
    → IsCurrent one → step g one.now.side e ≡ Some u → IsNext g.registry (flight other.last one.now) u.got → Follows g.registry one.last other.last → Interlock ours one.last other.last
    → (b : Bool) → stands u.side ≡ b → Interlock ours (if b then told_more one.now e u else one.last) other.last
move_by g ours es one other e u few leads mine current is next f all true up =
    let same = current (stood_before g one.now.side e u is up) in
    step_locks g ours one.now other.last (apart_of g es one.now few leads) (subst (λ z. Follows g.registry z other.last) same f) (roots_rest g ours es one.now few leads mine)
    (subst (λ z. Interlock ours z other.last) same all) e u is up next
move_by g ours es one other e u few leads mine current is next f all false up = all

moves_lock : (g : Setting) (ours : Ours) (es fs : List Entry) (h : Setting) (one other after : End) (e : Entry) → length g.plan.threads < 2 ^ 64 → Leads g es one.now → ((n : ℕ) → ours (root_tid g n) ≡ true)
    → IsCurrent one → LastStood h fs other → Moves g one other e after → Follows g.registry one.last other.last → Interlock ours one.last other.last → Interlock ours after.last other.last
unfolding flight
moves_lock g ours es fs h one other after e few leads mine current last m f all =
    subst (λ (z : End). Interlock ours z.last other.last) (sym m.becomes)
    (move_by g ours es one other e m.turn few leads mine current m.does
    (subst (λ ms. IsNext g.registry (drop (length one.now.got) ms) m.turn.got) last.said m.comes) f all (stands m.turn.side) refl)

-- ---- over every run

-- roots are so few that their names tell them apart
pub record AreFew (g : Settings) : Type 0 where
  pub a : length g.a.plan.threads < 2 ^ 64
  pub b : length g.b.plan.threads < 2 ^ 64

first_view : (b : Bool) → Locks (record { own = b; mine = []; theirs = []; to_me = []; to_them = [] })
unfolding seen
first_view true = (th.idle, tt, inl refl)
first_view false = (th.idle, tt, inr refl)

module _ (g : Settings) (few : AreFew g) (ours : Ours) (mine : (n : ℕ) → ours (root_tid (of_a g) n) ≡ true) (theirs : (n : ℕ) → others ours (root_tid (of_b g) n) ≡ true) where
  pub interlocked : (es : List Event) (w : World) → Meets g es w → Interlock ours w.a.last w.b.last
  unfolding flight signals frames_of opening
  interlocked es w begins = λ tid. first_view (ours tid)
  interlocked es' w' (a_moves es w e after met m) =
      let last = both_last g es w met in
      moves_lock (of_a g) ours (entries_of A es) (entries_of B es) (of_b g) w.a w.b after e few.a (both_lead g es w met).a mine (both_current g es w met).a last.b m
      (last_linked g es w met).there (interlocked es w met)
  interlocked es' w' (b_moves es w e after met m) =
      let last = both_last g es w met in
      twice_interlock ours w.a.last after.last
      (turned_interlock (others ours) after.last w.a.last
      (moves_lock (of_b g) (others ours) (entries_of B es) (entries_of A es) (of_a g) w.b w.a after e few.b (both_lead g es w met).b theirs (both_current g es w met).b last.a m
      (last_linked g es w met).back (turned_interlock ours w.a.last w.b.last (interlocked es w met))))

pub interlock : (g : Settings) → AreJoined (of_a g) (of_b g) → length g.a.plan.threads < 2 ^ 64 → length g.b.plan.threads < 2 ^ 64 → (es : List Event) (w : World) → Meets g es w
    → Interlock (is_own (of_a g)) w.a.last w.b.last
interlock g apart a b es w met =
    interlocked g (record { a = a; b = b }) (is_own (of_a g)) (root_own (of_a g))
    (λ n. ap not (other_apart (of_a g) (of_b g) apart (root_tid (of_b g) n) (root_own (of_b g) n))) es w met

-- by the names of the second end
pub interlock_second : (g : Settings) → AreJoined (of_a g) (of_b g) → length g.a.plan.threads < 2 ^ 64 → length g.b.plan.threads < 2 ^ 64 → (es : List Event) (w : World) → Meets g es w
    → Interlock (is_own (of_b g)) w.b.last w.a.last
interlock_second g apart a b es w met =
    let given = is_own (of_b g) in
    let mine : (n : ℕ) → others given (root_tid (of_a g) n) ≡ true = λ n. ap not (apart (root_tid (of_a g) n) (root_own (of_a g) n)) in
    let theirs : (n : ℕ) → others (others given) (root_tid (of_b g) n) ≡ true = λ n. twice (given (root_tid (of_b g) n)) ∙ root_own (of_b g) n in
    twice_interlock given w.b.last w.a.last (turned_interlock (others given) w.a.last w.b.last (interlocked g (record { a = a; b = b }) (others given) mine theirs es w met))

-- by the names of the first, from the second end
pub interlock_b : (g : Settings) → AreJoined (of_a g) (of_b g) → length g.a.plan.threads < 2 ^ 64 → length g.b.plan.threads < 2 ^ 64 → (es : List Event) (w : World) → Meets g es w
    → Interlock (others (is_own (of_a g))) w.b.last w.a.last
interlock_b g apart a b es w met = turned_interlock (is_own (of_a g)) w.a.last w.b.last (interlock g apart a b es w met)

pub apart_a : (g : Settings) → length g.a.plan.threads < 2 ^ 64 → (es : List Event) (w : World) → Meets g es w → AreApart w.a.last.side.stacks
apart_a g few es w met = let last = (both_last g es w met).a in apart_of (of_a g) last.before w.a.last few last.leads

pub apart_b : (g : Settings) → length g.b.plan.threads < 2 ^ 64 → (es : List Event) (w : World) → Meets g es w → AreApart w.b.last.side.stacks
apart_b g few es w met = let last = (both_last g es w met).b in apart_of (of_b g) last.before w.b.last few last.leads

pub others_b : (g : Settings) → AreJoined (of_a g) (of_b g) → (tid : List ℕ) → is_own (of_b g) tid ≡ true → others (is_own (of_a g)) tid ≡ true
others_b g apart tid mine = ap not (other_apart (of_a g) (of_b g) apart tid mine)
