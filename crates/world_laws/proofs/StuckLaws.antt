-- Where no move is left, no root waits: its thread would run at one of the two ends, or a message of it would be in flight.
use Rattle.std.proofs.Common.{◌≡◌, refl, sym, ap, subst, ◌∙◌, ℕ, zero, suc, ◌<◌, ◌^◌, inl, inr, Bool, true, false, not, ◌&&◌, List, [], ◌∷◌, ◌++◌, length, map, Some}
use Rattle.std.specs.List.{AllByRecursion}
use Rattle.std.proofs.lemmas.Bool.{true≢false}
use Rattle.message_model.specs.Messages.{Message}
use Rattle.message_model.specs.Said.{AreLight}
use Rattle.uno_model.specs.Sound.{IsSound}
use Rattle.plan_model.specs.Frames.{Body, Frame, base, body, outgoing, Stack, frames_of, ready}
use Rattle.plan_model.specs.Roots.{Run}
use Rattle.bridge_model.specs.Answers.{bytes_wait, is_some_piece, may_reap}
use Rattle.bridge_model.specs.Entries.{Entry}
use Rattle.bridge_model.specs.Histories.{Told, Leads}
use Rattle.bridge_model.specs.RootRuns.{Moved, waiting, finished, moved, root_moves}
use Rattle.bridge_model.specs.Settings.{Setting, is_own, root_tid}
use Rattle.bridge_model.specs.Sides.{stands, state_of}
use Rattle.bridge_model.specs.Sides as side
use Rattle.bridge_laws.specs.OfPlan.{IsRoot}
use Rattle.bridge_laws.specs.Rooted.{bottom, waits}
use Rattle.bridge_laws.proofs.RootedLaws.{is_rooted}
use Rattle.bridge_laws.proofs.StepLaws.{quiet_along}
use Rattle.bridge_laws.proofs.TellingLaws.{all_allowed}
use Rattle.world_model.specs.Moves.{drains, carries, closes, Progress, one_if, applying, does_move, stepping, reaping, may_carry, may_close, deeds, at, moves}
use Rattle.world_model.specs.Flights.{flight}
use Rattle.world_model.specs.Meetings.{Meets}
use Rattle.world_laws.specs.Ready.{AreReady, BothGiveWell}
use Rattle.world_model.specs.Readings.{IsSynced}
use Rattle.world_model.specs.Threads.{Crossing, Shape, root, local, serves, out, shape_of_body, shape, shapes, Signal, asks, answers, signals, Thread, runs, asked, answered, IsReal, locals, upper, View, turned, seen, Locks, Ours, view, Interlock}
use Rattle.world_model.specs.Threads as th
use Rattle.world_model.specs.Worlds.{Settings, of_a, of_b, AreJoined, End, World, Event, Runs, pipe, entries_of}
use Rattle.world_model.specs.declared.side.Side.TheVariants.{A, B}
use Rattle.world_laws.proofs.InterlockLaws.{interlock, interlock_b, others, both_current}
use Rattle.world_laws.proofs.JoinedLaws.{joined}
use Rattle.world_laws.proofs.SaidLaws.{given_a, given_b, stays_a, stays_b, light}
use Rattle.world_laws.proofs.CarriedLaws.{whole_met}
use Rattle.world_laws.proofs.RunLaws.{both_lead}
use Rattle.world_laws.proofs.ThreadLaws.{is_method}
use Rattle.world_laws.proofs.QuietLaws.{nothing_flies, top_ready}
use Rattle.world_laws.proofs.WaitingLaws.{run_waits}

-- ---- no move

no_cells : {X Y : Type 0} (f : X → Y) (xs : List X) → map f xs ≡ [] → xs ≡ []
no_cells f [] is = refl
no_cells f (x ∷ xs) is = absurd (cc)

both_empty : {X : Type 0} (xs ys : List X) → xs ++ ys ≡ [] → (xs ≡ []) × (ys ≡ [])
both_empty [] ys is = (refl, is)
both_empty (x ∷ xs) ys is = absurd (cc)

one_none : {X : Type 0} (b : Bool) (x : X) → one_if b x ≡ [] → b ≡ false
one_none true x is = absurd (cc)
one_none false x is = refl

pub record NoDeeds (g h : Setting) (x y : Told) (rs : List Run) : Type 0 where
  pub ready_none : ready x.side.stacks ≡ []
  pub steps : stepping g x.side 0 rs ≡ []
  pub drains_none : bytes_wait g x.side ≡ false
  pub carries_none : may_carry y x ≡ false
  pub closes_none : may_close h y x ≡ false

no_deeds : (g h : Setting) (x y : Told) (rs : List Run) → deeds g h x y rs ≡ [] → NoDeeds g h x y rs
unfolding deeds
no_deeds g h x y rs none =
    let a = both_empty (applying x.side) _ none in
    let b = both_empty (stepping g x.side 0 rs) _ a.1 in
    let c = both_empty (reaping (may_reap g x.side)) _ b.1 in
    let d = both_empty (one_if (bytes_wait g x.side) drains) _ c.1 in
    let e = both_empty (one_if (may_carry y x) carries) (one_if (may_close h y x) closes) d.1 in
    record { ready_none = no_cells _ (ready x.side.stacks) a.0; steps = b.0; drains_none = one_none _ drains d.0; carries_none = one_none _ carries e.0; closes_none = one_none _ closes e.1 }

none_moves : (g : Setting) (s : side.Side) (place : ℕ) (rs : List Run) → stepping g s place rs ≡ [] → AllByRecursion (λ r. does_move (root_moves g s r) ≡ false) rs
unfolding stepping
none_moves g s place [] none = tt
none_moves g s place (r ∷ rs) none =
    let both = both_empty (one_if (does_move (root_moves g s r)) _) (stepping g s (suc place) rs) none in (one_none (does_move (root_moves g s r)) _ both.0, none_moves g s (suc place) rs both.1)

is_finished : (m : Moved) → does_move m ≡ false → (m ≡ waiting → ⊥) → m ≡ finished
is_finished waiting none no_wait = absurd (no_wait refl)
is_finished finished none no_wait = refl
is_finished (moved next e) none no_wait = absurd (true≢false none)

-- ---- threads

-- no method is on top of these frames
abbrev NoMethod : List Shape → Type 0
NoMethod ss = (s : Shape) (rest : List Shape) → ss ≡ s ∷ rest → is_method s ≡ true → ⊥

locals_top : (n : ℕ) (s : Shape) (ss : List Shape) → is_method s ≡ true → (t : Shape) × (ts : List Shape) × (locals n (s ∷ ss) ≡ t ∷ ts) × (is_method t ≡ true)
unfolding locals
locals_top zero s ss method = (s, ss, refl, method)
locals_top (suc n) s ss method = (local, locals n (s ∷ ss), refl, refl)

upper_top : (n : ℕ) (cs : List Crossing) → IsReal (runs n cs) → (t : Shape) × (ts : List Shape) × (upper n cs ≡ t ∷ ts) × (is_method t ≡ true)
unfolding upper locals
upper_top zero [] real = absurd real
upper_top (suc n) [] real = (local, locals n (root ∷ []), refl, refl)
upper_top n (c ∷ cs) real = locals_top c.above (serves c.call.called) _ refl

some_cells : {X Y : Type 0} (xs : List X) (x : X) (ys : List X) → xs ≡ [] → xs ≡ x ∷ ys → Y
some_cells xs x ys none is = let bad : [] ≡ x ∷ ys = sym none ∙ is in absurd (cc)

no_lock : (v : View) → v.to_me ≡ [] → v.to_them ≡ [] → (v.mine ≡ [] → ⊥) → NoMethod v.mine → NoMethod v.theirs → Locks v → ⊥
unfolding seen
no_lock v here there some mine theirs (th.idle, real, inl is) = some (ap (λ (z : View). z.mine) is)
no_lock v here there some mine theirs (th.idle, real, inr is) = some (ap (λ (z : View). z.mine) is)
no_lock v here there some mine theirs (runs n cs, real, inl is) = let top = upper_top n cs real in mine top.0 top.1 (ap (λ (z : View). z.mine) is ∙ top.2) top.3
no_lock v here there some mine theirs (runs n cs, real, inr is) = let top = upper_top n cs real in theirs top.0 top.1 (ap (λ (z : View). z.theirs) is ∙ top.2) top.3
no_lock v here there some mine theirs (asked k n cs, real, inl is) = some_cells v.to_them (asks k) [] there (ap (λ (z : View). z.to_them) is)
no_lock v here there some mine theirs (asked k n cs, real, inr is) = some_cells v.to_me (asks k) [] here (ap (λ (z : View). z.to_me) is)
no_lock v here there some mine theirs (answered k n cs, real, inl is) = some_cells v.to_me (answers k.called) [] here (ap (λ (z : View). z.to_me) is)
no_lock v here there some mine theirs (answered k n cs, real, inr is) = some_cells v.to_them (answers k.called) [] there (ap (λ (z : View). z.to_them) is)

top_same : (f : Frame) (fs : List Frame) (s : Shape) (ss : List Shape) → shapes (f ∷ fs) ≡ s ∷ ss → s ≡ shape f
top_same f fs s ss is = cc

method_top : (fs : List Frame) (s : Shape) (ss : List Shape) → shapes fs ≡ s ∷ ss → is_method s ≡ true → (b : Body) × (gs : List Frame) × (fs ≡ body b ∷ gs)
method_top [] s ss is method = absurd (cc)
method_top (base n ∷ fs) s ss is method = absurd (true≢false (sym method ∙ ap is_method (top_same (base n) fs s ss is)))
method_top (body b ∷ fs) s ss is method = (b, fs, refl)
method_top (outgoing o ∷ fs) s ss is method = absurd (true≢false (sym method ∙ ap is_method (top_same (outgoing o) fs s ss is)))

none_on_top : (tid : List ℕ) (ss : List Stack) → ready ss ≡ [] → NoMethod (shapes (frames_of tid ss))
none_on_top tid ss none s rest is method = let top = method_top (frames_of tid ss) s rest is method in top_ready tid top.0 top.1 ss top.2 none

no_signals : (tid : List ℕ) (ms : List Message) → ms ≡ [] → signals tid ms ≡ []
unfolding signals
no_signals tid [] is = refl
no_signals tid (m ∷ ms) is = absurd (cc)

-- ---- one end

no_bottom : (n : ℕ) (fs : List Frame) → bottom fs ≡ Some (base n) → shapes fs ≡ [] → ⊥
no_bottom n [] is none = cc
no_bottom n (f ∷ fs) is none = cc

no_frames : (tid : List ℕ) (ss : List Stack) → ss ≡ [] → frames_of tid ss ≡ []
unfolding frames_of
no_frames tid [] is = refl
no_frames tid (s ∷ ss) is = absurd (cc)

last_false : (a b : Bool) → (a && b) ≡ false → b ≡ true → a ≡ false
last_false true b is up = absurd (true≢false (sym up ∙ is))
last_false false b is up = refl

closes_then : (up waits_out some there : Bool) → up ≡ false → waits_out ≡ false → some ≡ false → there ≡ true → (not up && (not waits_out && (not some && there))) ≡ true
closes_then up waits_out some there p q r s = rw (p, q, r, s) refl

-- what is known of two ends, from the first
pub record Both (g h : Setting) (ours : Ours) (es fs : List Entry) (x y : Told) (rs qs : List Run) : Type 0 where
  pub few : length g.plan.threads < 2 ^ 64
  pub leads : Leads g es x
  pub leads_other : Leads h fs y
  pub none : NoDeeds g h x y rs
  pub none_other : NoDeeds h g y x qs
  pub locks : stands x.side ≡ true → stands y.side ≡ true → Interlock ours x y
  pub there : IsSynced g.registry x y
  pub back : IsSynced h.registry y x
  pub light : AreLight x.said
  pub light_other : AreLight y.said

module _ (g h : Setting) (ours : Ours) (es fs : List Entry) (x y : Told) (rs qs : List Run) (k : Both g h ours es fs x y rs qs) where
  none_waits : (n : ℕ) → IsRoot g n → waits (state_of n x.side.tables.roots) ≡ true → ⊥
  none_waits n is waiting_now =
      let rooted = is_rooted g es x n (record { roots = (all_allowed g es x k.leads).roots; few = k.few }) k.leads is.0 is.1 in
      by_standing (stands x.side) refl (rooted.waiting.0 waiting_now)
    where
      tid : List ℕ
      tid = root_tid g n

      no_one : bottom (frames_of tid x.side.stacks) ≡ Some (base n) → shapes (frames_of tid x.side.stacks) ≡ [] → ⊥
      no_one is none = no_bottom n (frames_of tid x.side.stacks) is none

      both_stand : stands x.side ≡ true → stands y.side ≡ true → bottom (frames_of tid x.side.stacks) ≡ Some (base n) → ⊥
      both_stand up there at =
          let pipe_here = last_false (is_some_piece (pipe y x)) (stands x.side) k.none.carries_none up in
          let pipe_there = last_false (is_some_piece (pipe x y)) (stands y.side) k.none_other.carries_none there in
          let to_me = nothing_flies h fs y x k.leads_other there up k.none_other.drains_none pipe_here k.light_other k.back in
          let to_them = nothing_flies g es x y k.leads up there k.none.drains_none pipe_there k.light k.there in
          no_lock (view ours tid x y) (no_signals tid (flight y x) to_me) (no_signals tid (flight x y) to_them) (no_one at)
          (none_on_top tid x.side.stacks k.none.ready_none) (none_on_top tid y.side.stacks k.none_other.ready_none) (k.locks up there tid)

      by_other : (b : Bool) → stands y.side ≡ b → stands x.side ≡ true → bottom (frames_of tid x.side.stacks) ≡ Some (base n) → ⊥
      by_other true there up at = both_stand up there at
      by_other false there up at =
          let pipe_here = last_false (is_some_piece (pipe y x)) (stands x.side) k.none.carries_none up in
          true≢false (sym (closes_then (stands y.side) (bytes_wait h y.side) (is_some_piece (pipe y x)) (stands x.side) there k.none_other.drains_none pipe_here up) ∙ k.none.closes_none)

      by_standing : (b : Bool) → stands x.side ≡ b → bottom (frames_of tid x.side.stacks) ≡ Some (base n) → ⊥
      by_standing true up at = by_other (stands y.side) refl up at
      by_standing false up at = no_one at (ap shapes (no_frames tid x.side.stacks (quiet_along g es x k.leads up)))

  all_done : (zs : List Run) → AllByRecursion (λ r. does_move (root_moves g x.side r) ≡ false) zs → AllByRecursion (λ (r : Run). IsRoot g r.root) zs
      → AllByRecursion (λ (r : Run). root_moves g x.side r ≡ finished) zs
  all_done [] none roots = tt
  all_done (r ∷ zs) none roots =
      (is_finished (root_moves g x.side r) none.0 (λ now. none_waits r.root roots.0 (run_waits g x.side r now)), all_done zs none.1 roots.1)

  pub finished_all : AllByRecursion (λ (r : Run). IsRoot g r.root) rs → AllByRecursion (λ (r : Run). root_moves g x.side r ≡ finished) rs
  finished_all roots = all_done rs (none_moves g x.side 0 rs k.none.steps) roots

-- ---- the world

no_moves : (g : Settings) (w : World) (p : Progress) → moves g w p ≡ [] → NoDeeds (of_a g) (of_b g) w.a.now w.b.now p.a × NoDeeds (of_b g) (of_a g) w.b.now w.a.now p.b
unfolding moves
no_moves g w p none =
    let both = both_empty (map (at A) (deeds (of_a g) (of_b g) w.a.now w.b.now p.a)) _ none in
    (no_deeds (of_a g) (of_b g) w.a.now w.b.now p.a (no_cells (at A) _ both.0), no_deeds (of_b g) (of_a g) w.b.now w.a.now p.b (no_cells (at B) _ both.1))

lock_now : (ours : Ours) (one other : End) → Interlock ours one.last other.last → (stands one.now.side ≡ true → one.last ≡ one.now) → (stands other.now.side ≡ true → other.last ≡ other.now)
    → stands one.now.side ≡ true → stands other.now.side ≡ true → Interlock ours one.now other.now
lock_now ours one other locks here there up standing =
    subst (λ y. Interlock ours one.now y) (there standing) (subst (λ x. Interlock ours x other.last) (here up) locks)

pub stuck_a : (g : Settings) → AreReady g → (es : List Event) (w : World) (p : Progress) → BothGiveWell g es
    → Runs g es w → AllByRecursion (λ (r : Run). IsRoot (of_a g) r.root) p.a → moves g w p ≡ [] → AllByRecursion (λ (r : Run). root_moves (of_a g) w.a.now.side r ≡ finished) p.a
stuck_a g ready es w p well ran roots none =
    let a = (given_a g ready.up).roots in
    let b = (given_b g ready.up).roots in
    let is = whole_met g ready es well w ran in
    let apart = joined g ready.up in
    let lead = both_lead g es w is.met in
    let quiet = no_moves g w p none in
    let current = both_current g es w is.met in
    let light_a = light g ready.up es w is.met well.gives (of_a g) w.a.now.said (stays_a g ready.up es w is.met well.gives).said in
    let light_b = light g ready.up es w is.met well.gives (of_b g) w.b.now.said (stays_b g ready.up es w is.met well.gives).said in
    finished_all (of_a g) (of_b g) (is_own (of_a g)) (entries_of A es) (entries_of B es) w.a.now w.b.now p.a p.b
    (record {
      few = a;
      leads = lead.a;
      leads_other = lead.b;
      none = quiet.0;
      none_other = quiet.1;
      locks = lock_now (is_own (of_a g)) w.a w.b (interlock g apart a b es w is.met) current.a current.b;
      there = is.there;
      back = is.back;
      light = light_a;
      light_other = light_b;
    })
    roots

pub stuck_b : (g : Settings) → AreReady g → (es : List Event) (w : World) (p : Progress) → BothGiveWell g es
    → Runs g es w → AllByRecursion (λ (r : Run). IsRoot (of_b g) r.root) p.b → moves g w p ≡ [] → AllByRecursion (λ (r : Run). root_moves (of_b g) w.b.now.side r ≡ finished) p.b
stuck_b g ready es w p well ran roots none =
    let a = (given_a g ready.up).roots in
    let b = (given_b g ready.up).roots in
    let is = whole_met g ready es well w ran in
    let apart = joined g ready.up in
    let lead = both_lead g es w is.met in
    let quiet = no_moves g w p none in
    let current = both_current g es w is.met in
    let light_a = light g ready.up es w is.met well.gives (of_a g) w.a.now.said (stays_a g ready.up es w is.met well.gives).said in
    let light_b = light g ready.up es w is.met well.gives (of_b g) w.b.now.said (stays_b g ready.up es w is.met well.gives).said in
    finished_all (of_b g) (of_a g) (others (is_own (of_a g))) (entries_of B es) (entries_of A es) w.b.now w.a.now p.b p.a
    (record {
      few = b;
      leads = lead.b;
      leads_other = lead.a;
      none = quiet.1;
      none_other = quiet.0;
      locks = lock_now (others (is_own (of_a g))) w.b w.a (interlock_b g apart a b es w is.met) current.b current.a;
      there = is.back;
      back = is.there;
      light = light_b;
      light_other = light_a;
    })
    roots
