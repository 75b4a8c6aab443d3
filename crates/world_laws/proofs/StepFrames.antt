-- What a step of an end does to the frames of each thread: some end, or calls go out; or a request that came begins a method.
use Rattle.std.proofs.Common.{◌≡◌, refl, sym, ap, subst, ◌∙◌, ℕ, inl, inr, Bool, true, false, not, List, [], ◌∷◌, ◌++◌, Some, if◌then◌else◌}
use Rattle.std.specs.Str.{bytes_eq}
use Rattle.std.proofs.lemmas.Bool.{true≢false}
use Rattle.std.proofs.lemmas.List.{append-nil}
use Rattle.std.proofs.lemmas.Slice.Eq.{bytes_eq-Decides}
use Rattle.message_model.specs.Messages.{Message, Answer, returned, raised, request, release, reply}
use Rattle.message_model.specs.Sayable.{arrived}
use Rattle.uno_model.specs.Entities.{Entity}
use Rattle.uno_model.specs.Values.{Plain}
use Rattle.plan_model.specs.Asking.{Effect, disposes}
use Rattle.plan_model.specs.Frames.{Outgoing, Frame, base, body, outgoing, Stack, frames_of}
use Rattle.plan_model.specs.Holdings.{goes_on}
use Rattle.plan_model.specs.Leaving.{leaving_frame}
use Rattle.bridge_model.specs.Applying.{applies, effect_at}
use Rattle.bridge_model.specs.Calls.{first_body}
use Rattle.bridge_model.specs.Ends.{ends_by}
use Rattle.bridge_model.specs.Entries.{Entry, fed, ended, failed, asked, called, queried, made, dropped, applied, took, reaped, drained, disposed, full, no_memory, counts}
use Rattle.bridge_model.specs.Going.{drains}
use Rattle.bridge_model.specs.Histories.{Told, Leads}
use Rattle.bridge_model.specs.Objects.{lowest}
use Rattle.bridge_model.specs.References.{each_home, home_answer}
use Rattle.bridge_model.specs.Roots.{root_calls, root_queries, root_asks}
use Rattle.bridge_model.specs.Settings.{Setting, root_tid}
use Rattle.bridge_model.specs.Sides.{Object, Side, Tables, stands}
use Rattle.bridge_model.specs.Stacks.{puts_frames}
use Rattle.bridge_model.specs.Steps.{Picked, picked, picked_in, has_entries, applies_effect, applies_picked, Turn, step, does, may}
use Rattle.bridge_laws.proofs.Replays.{of_step}
use Rattle.bridge_laws.proofs.StandingLaws.{no_more, same_standing}
use Rattle.bridge_laws.proofs.ThreadStackLaws.{frames_put, frames_stay}
use Rattle.bridge_laws.specs.Grounded.{AreApart}
use Rattle.bridge_laws.specs.Hearings.{Leaves, Hears, rests, breaks, hears}
use Rattle.bridge_laws.specs.Outcomes.{Fate, nothing, for_peer, handed_down, FramesBy}
use Rattle.bridge_laws.proofs.ServingLaws.{piece_heard}
use Rattle.world_model.specs.Flights.{flight, IsNext}
use Rattle.world_model.specs.Threads.{Call, root, local, out, shape_of_body, shape, shapes, Ours, Interlock, Left}
use Rattle.world_laws.proofs.HandingShapes as shaped
use Rattle.world_laws.proofs.RootThreads.{Begins, here, there, RootStep, calmly, begun, root_calls_step, root_queries_step, root_asks_step, makes_calm, drops_calm, takes_calm, reaps_calm}
use Rattle.world_laws.proofs.CrossingFrames.{calls_in, begun_at, served_if, served_in, Shrinks, stays, Goes, shrinks, grows, goes_same, applies_go}
use Rattle.world_laws.proofs.CrossingLaws.{reply_flies}
use Rattle.world_laws.proofs.SomebodyLaws.{has_somebody, is_handed}
use Rattle.world_laws.proofs.StayLaws.{Rest, same_first, chain_rests, resting, resting_last, counted_stacks}

-- what a step does to the frames of a thread
pub data Passes (g : Setting) (tid : List ℕ) (s : Side) (u : Turn) : Entry → Type 0 where
  goes : (e : Entry) → Goes (frames_of tid s.stacks) (frames_of tid u.side.stacks) → Passes g tid s u e
  serving : (bytes oid face : List ℕ) → (function : ℕ) → (args : List Plain) → u.got ≡ request tid oid face function args ∷ []
      → frames_of tid u.side.stacks ≡ body (first_body g true oid face function (each_home g args) s.tables) ∷ frames_of tid s.stacks → Passes g tid s u (fed bytes)

same_frames : (fs gs : List Frame) → gs ≡ fs → Goes fs gs
same_frames fs gs is = subst (Goes fs) (sym is) (goes_same fs)

-- frames that are put on a thread, as each thread sees them
put_on : (tid k : List ℕ) (fs : List Frame) (ss zs : List Stack) → AreApart ss → zs ≡ puts_frames k fs ss → (tid ≡ k → Goes (frames_of tid ss) fs) → Goes (frames_of tid ss) (frames_of tid zs)
put_on tid k fs ss zs apart is on = by_test (bytes_eq tid k) refl
  where
    by_test : (b : Bool) → bytes_eq tid k ≡ b → Goes (frames_of tid ss) (frames_of tid zs)
    by_test true same =
        let one : tid ≡ k = (bytes_eq-Decides tid k).0 same in
        subst (Goes (frames_of tid ss)) (sym (ap (frames_of tid) is ∙ (ap (λ z. frames_of tid (puts_frames z fs ss)) (sym one) ∙ frames_put tid fs ss apart))) (on one)
    by_test false same = same_frames _ _ (ap (frames_of tid) is ∙ frames_stay k tid fs ss (λ one. true≢false (sym ((bytes_eq-Decides tid k).1 one) ∙ same)))

-- ---- a root begins

local_frame : (f : Frame) (fs : List Frame) → shape f ≡ local → (calls_in (f ∷ fs) ≡ calls_in fs) × (served_in (f ∷ fs) ≡ served_in fs)
unfolding calls_in served_in
local_frame (base n) fs is = absurd (cc)
local_frame (outgoing o) fs is = absurd (cc)
local_frame (body b) fs is = (refl, by_peer b.from_peer is)
  where
    by_peer : (p : Bool) → shape_of_body p b ≡ local → served_if p (begun_at b fs) (served_in fs) ≡ served_in fs
    by_peer true is = absurd (cc)
    by_peer false is = refl

root_frame : (f : Frame) (fs : List Frame) → shape f ≡ root → (calls_in (f ∷ fs) ≡ calls_in fs) × (served_in (f ∷ fs) ≡ served_in fs)
unfolding calls_in served_in
root_frame (base n) fs is = (refl, refl)
root_frame (outgoing o) fs is = absurd (cc)
root_frame (body b) fs is = by_peer b.from_peer is
  where
    by_peer : {X : Type 0} (p : Bool) → shape_of_body p b ≡ root → X
    by_peer true is = absurd (cc)
    by_peer false is = absurd (cc)

out_frame : (f : Frame) (fs : List Frame) → ((k : _) × (shape f ≡ out k)) → (calls_in (f ∷ fs) ≡ (f ∷ fs) ∷ calls_in fs) × (served_in (f ∷ fs) ≡ served_in fs)
unfolding calls_in served_in
out_frame (base n) fs (k, is) = absurd (cc)
out_frame (outgoing o) fs (k, is) = (refl, refl)
out_frame (body b) fs (k, is) = by_peer b.from_peer is
  where
    by_peer : {X : Type 0} (p : Bool) → shape_of_body p b ≡ out k → X
    by_peer true is = absurd (cc)
    by_peer false is = absurd (cc)

begun_here : (fs : List Frame) → shapes fs ≡ local ∷ (root ∷ []) → Goes [] fs
unfolding calls_in served_in
begun_here [] is = absurd (cc)
begun_here (f ∷ []) is = absurd (cc)
begun_here (f ∷ (h ∷ [])) is =
    let p : shape f ≡ local = cc in let q : shape h ≡ root = cc in
    let a = local_frame f (h ∷ []) p in let b = root_frame h [] q in
    shrinks (stays [] [] (f ∷ (h ∷ [])) (sym (a.0 ∙ b.0)) (sym (a.1 ∙ b.1)))
begun_here (f ∷ (h ∷ (j ∷ fs))) is = absurd (cc)

begun_there : (fs : List Frame) (k : Call) → shapes fs ≡ out k ∷ (root ∷ []) → Goes [] fs
unfolding calls_in served_in
begun_there [] k is = absurd (cc)
begun_there (f ∷ []) k is = absurd (cc)
begun_there (f ∷ (h ∷ [])) k is =
    let p : shape f ≡ out k = cc in let q : shape h ≡ root = cc in
    let a = out_frame f (h ∷ []) (k, p) in let b = root_frame h [] q in
    grows ((f ∷ (h ∷ [])) ∷ []) (a.0 ∙ ap (λ zs. (f ∷ (h ∷ [])) ∷ zs) b.0) (a.1 ∙ b.1)
begun_there (f ∷ (h ∷ (j ∷ fs))) k is = absurd (cc)

begun_goes : (fs : List Frame) (l : Left) → Begins l → shapes fs ≡ l.frames → Goes [] fs
begun_goes fs l here is = begun_here fs is
begun_goes fs l (there k) is = begun_there fs k is

-- ---- a message

fate_shrinks : (g : Setting) (os : List Object) (tid : List ℕ) (a : Answer) (fs gs : List Frame) → (handed_down g.registry tid a fs ≡ nothing → ⊥) → FramesBy g os (handed_down g.registry tid a fs) gs
    → Shrinks (calls_in fs) (served_in fs) gs
unfolding handed_down calls_in served_in goes_on
fate_shrinks g os tid a [] gs some left = absurd (some refl)
fate_shrinks g os tid a (base n ∷ fs) gs some left =
    subst (Shrinks (calls_in fs) (served_in fs)) (sym left) (record { answered = calls_in fs; ended = served_in fs; calls = sym (append-nil (calls_in fs)); served = sym (append-nil (served_in fs)) })
fate_shrinks g os tid a (outgoing o ∷ fs) gs some left = absurd (some refl)
fate_shrinks g os tid (returned x outs) (body b ∷ fs) gs some is = subst (Shrinks (calls_in (body b ∷ fs)) (served_in (body b ∷ fs))) (sym is) (stays _ _ _ refl refl)
fate_shrinks g os tid (raised k x) (body b ∷ fs) gs some left =
    by_peer b.from_peer (leaving_frame g.registry tid b (raised k x)) (handed_down g.registry tid (leaving_frame g.registry tid b (raised k x)) fs) some left
    (λ some left. fate_shrinks g os tid (leaving_frame g.registry tid b (raised k x)) fs gs some left)
  where
    by_peer : (p : Bool) (c : Answer) (h : Fate) → ((if p then for_peer b fs c else h) ≡ nothing → ⊥) → FramesBy g os (if p then for_peer b fs c else h) gs
        → ((h ≡ nothing → ⊥) → FramesBy g os h gs → Shrinks (calls_in fs) (served_in fs) gs) → Shrinks (calls_in fs) (served_if p (begun_at b fs) (served_in fs)) gs
    by_peer true c h some left later =
        record { answered = []; ended = begun_at b fs ∷ []; calls = ap calls_in (sym left); served = ap (λ zs. begun_at b fs ∷ served_in zs) (sym left) }
    by_peer false c h some left later = later some left

answered_goes : (g : Setting) (os : List Object) (tid : List ℕ) (a : Answer) (o : Outgoing) (below gs : List Frame) → has_somebody (shapes below) ≡ true → FramesBy g os (handed_down g.registry tid a below) gs → Goes (outgoing o ∷ below) gs
unfolding calls_in served_in
answered_goes g os tid a o below gs has left =
    let s = fate_shrinks g os tid a below gs (is_handed g.registry tid below has a) left in
    shrinks (record { answered = (outgoing o ∷ below) ∷ s.answered; ended = s.ended; calls = ap (λ zs. (outgoing o ∷ below) ∷ zs) s.calls; served = s.served })

-- what one message does to the frames of a thread
data Comes (g : Setting) (tid : List ℕ) (t : Tables) (ss zs : List Stack) (m : Message) : Type 0 where
  moves : Goes (frames_of tid ss) (frames_of tid zs) → Comes g tid t ss zs m
  begins : (oid face : List ℕ) → (function : ℕ) → (args : List Plain) → m ≡ request tid oid face function args
      → frames_of tid zs ≡ body (first_body g true oid face function (each_home g args) t) ∷ frames_of tid ss → Comes g tid t ss zs m

-- a reply of the thread is handed to somebody
abbrev pub IsForSomebody : (tid : List ℕ) → List Stack → Message → Type 0
IsForSomebody tid ss m = (face : List ℕ) (function : ℕ) (a : Answer) (o : Outgoing) (below : List Frame) → m ≡ reply tid face function a → frames_of tid ss ≡ outgoing o ∷ below → has_somebody (shapes below) ≡ true

request_begins : (g : Setting) (tid k oid face : List ℕ) (function : ℕ) (args : List Plain) (t : Tables) (ss zs : List Stack) → AreApart ss
    → zs ≡ puts_frames k (body (first_body g true oid face function (each_home g args) t) ∷ frames_of k ss) ss → (b : Bool) → bytes_eq tid k ≡ b → Comes g tid t ss zs (request k oid face function args)
request_begins g tid k oid face function args t ss zs apart is true same =
    let one : tid ≡ k = (bytes_eq-Decides tid k).0 same in
    begins oid face function args (ap (λ z. request z oid face function args) (sym one))
    (ap (frames_of tid) is ∙ (ap (λ z. frames_of tid (puts_frames z (body (first_body g true oid face function (each_home g args) t) ∷ frames_of z ss) ss)) (sym one) ∙ frames_put tid _ ss apart))
request_begins g tid k oid face function args t ss zs apart is false same =
    moves (same_frames _ _ (ap (frames_of tid) is ∙ frames_stay k tid _ ss (λ one. true≢false (sym ((bytes_eq-Decides tid k).1 one) ∙ same))))

message_comes : (g : Setting) (tid : List ℕ) (t : Tables) (ss : List Stack) (m : Message) (os : List Object) (zs : List Stack) → AreApart ss → IsForSomebody tid ss m → Leaves g t ss m os zs → Comes g tid t ss zs m
message_comes g tid t ss (release k oid face) os zs apart some is = moves (same_frames _ _ (ap (frames_of tid) is))
message_comes g tid t ss (request k oid face function args) os zs apart some (inl (at_once, is)) = moves (same_frames _ _ (ap (frames_of tid) is))
message_comes g tid t ss (request k oid face function args) os zs apart some (inr (later, is)) = request_begins g tid k oid face function args t ss zs apart is (bytes_eq tid k) refl
message_comes g tid t ss (reply k face function a) os zs apart some (on, fs, left, is) =
    moves (put_on tid k fs ss zs apart is
    (λ one. let top : frames_of tid ss ≡ outgoing on.call ∷ on.below = ap (λ z. frames_of z ss) one ∙ on.top in
    subst (λ gs. Goes gs fs) (sym top)
    (answered_goes g os k (home_answer g a) on.call on.below fs (some face function a on.call on.below (ap (λ z. reply z face function a) (sym one)) top) left)))

chain_leaves : (g : Setting) (t : Tables) (ss : List Stack) (ms rs : List Message) (z : Side) (m : Message) → Hears g t ss ms rs z → ms ≡ m ∷ [] → stands z ≡ true → Leaves g t ss m z.tables.objects z.stacks
chain_leaves g t' ss' ms' rs' z' m (rests z) one up = absurd (cc)
chain_leaves g t' ss' ms' rs' z' m (breaks s why place) one up = absurd (cc)
chain_leaves g t' ss' ms' rs' end' m (hears t ss k z ms rs end got later) one up =
    let both = same_first k m ms one in
    let rest = chain_rests g z.tables z.stacks ms rs end later both.1 up in
    let there = subst (λ (x : Tables). Leaves g t ss k x.objects z.stacks) (sym rest.0) got.stacks in
    subst (λ n. Leaves g t ss n end.tables.objects end.stacks) both.0 (subst (Leaves g t ss k end.tables.objects) (sym rest.1) there)

-- ---- a piece

module _ (reg : List Entity) (ours : Ours) (x y : Told) (tid : List ℕ) (locks : Interlock ours x y) where
  -- by Interlock a reply that comes finds its call on top, and somebody below it
  below_same : (o p : Outgoing) (fs gs : List Frame) → outgoing o ∷ fs ≡ outgoing p ∷ gs → fs ≡ gs
  below_same o p fs gs is = cc

  reply_found : (k f : List ℕ) (n : ℕ) (c : Answer) (ms : List Message) → flight y x ≡ reply k f n c ∷ ms → tid ≡ k → (o : Outgoing) (below : List Frame) → frames_of tid x.side.stacks ≡ outgoing o ∷ below
      → has_somebody (shapes below) ≡ true
  reply_found k f n c ms flies one o below top =
      let here : flight y x ≡ [] ++ reply tid f n c ∷ ms = flies ∙ ap (λ z. reply z f n c ∷ ms) (sym one) in
      let on = (reply_flies ours x y tid f n c [] ms locks here).top in
      subst (λ zs. has_somebody (shapes zs) ≡ true) (sym (below_same o on.call below on.below (sym top ∙ on.top))) on.has

  for_somebody : (m : Message) (ms : List Message) → flight y x ≡ m ∷ ms → IsForSomebody tid x.side.stacks (arrived reg m)
  unfolding arrived
  for_somebody (request k oid f n args) ms flies face function a o below is top = absurd (cc)
  for_somebody (release k oid f) ms flies face function a o below is top = absurd (cc)
  for_somebody (reply k f n c) ms flies face function a o below is top = let one : tid ≡ k = cc in reply_found k f n c ms flies one o below top

came_passes : (g : Setting) (tid : List ℕ) (s : Side) (u : Turn) (b : List ℕ) (m : Message) → u.got ≡ m ∷ [] → Comes g tid s.tables s.stacks u.side.stacks m → Passes g tid s u (fed b)
came_passes g tid s u b m one (moves go) = goes (fed b) go
came_passes g tid s u b m one (begins oid face function args is frames) = serving b oid face function args (one ∙ ap (λ z. z ∷ []) is) frames

piece_passes : (g : Setting) (ours : Ours) (es : List Entry) (x y : Told) (tid b : List ℕ) (u : Turn) → Leads g es x → AreApart x.side.stacks → Interlock ours x y → step g x.side (fed b) ≡ Some u → stands u.side ≡ true
    → IsNext g.registry (flight y x) u.got → Passes g tid x.side u (fed b)
piece_passes g ours es x y tid b u leads apart locks is up (inl none) =
    goes (fed b) (same_frames _ _ (ap (frames_of tid) (chain_rests g x.side.tables x.side.stacks u.got _ u.side (piece_heard g es x b u leads is) none up).1))
piece_passes g ours es x y tid b u leads apart locks is up (inr (m, ms, flies, one)) =
    came_passes g tid x.side u b (arrived g.registry m) one
    (message_comes g tid x.side.tables x.side.stacks (arrived g.registry m) u.side.tables.objects u.side.stacks apart (for_somebody g.registry ours x y tid locks m ms flies)
    (chain_leaves g x.side.tables x.side.stacks u.got _ u.side (arrived g.registry m) (piece_heard g es x b u leads is) one up))

-- ---- other entries

abbrev IsOther : Entry → Type 0
IsOther (fed b) = ⊥
IsOther e = Unit

module _ (g : Setting) (tid : List ℕ) (s : Side) (rest : Rest g s) (apart : AreApart s.stacks) where
  root_goes : (n : ℕ) (z : Side) → frames_of (root_tid g n) s.stacks ≡ [] → RootStep (root_tid g n) s z → Goes (frames_of tid s.stacks) (frames_of tid z.stacks)
  root_goes n z none (calmly calm) = same_frames _ _ (ap (frames_of tid) calm.stacks)
  root_goes n z none (begun u l starts stacks unsaid leaves) =
      put_on tid (root_tid g n) u.frames s.stacks z.stacks apart stacks
      (λ one. subst (λ fs. Goes fs u.frames) (sym (ap (λ k. frames_of k s.stacks) one ∙ none)) (begun_goes u.frames l starts (leaves tid).frames))

  put_effect : (k : List ℕ) (p : Picked) (e : Effect) → frames_of k s.stacks ≡ body p.method ∷ p.below
      → Goes (frames_of tid s.stacks) (frames_of tid (puts_frames k (applies g k p.method p.below e s.tables).frames s.stacks))
  put_effect k p e at =
      put_on tid k (applies g k p.method p.below e s.tables).frames s.stacks _ apart refl
      (λ one. subst (λ fs. Goes fs (applies g k p.method p.below e s.tables).frames) (sym (ap (λ z. frames_of z s.stacks) one ∙ at)) (applies_go g k p.method p.below e s.tables))

  effect_goes : (k : List ℕ) (p : Picked) (e : Effect) → frames_of k s.stacks ≡ body p.method ∷ p.below → stands (applies_effect g k p e s) ≡ true
      → Goes (frames_of tid s.stacks) (frames_of tid (applies_effect g k p e s).stacks)
  unfolding ends_by
  effect_goes k p disposes at up = absurd (cc)
  effect_goes k p e at up = put_effect k p e at

  applied_goes : (k : List ℕ) (fs : List Frame) → frames_of k s.stacks ≡ fs → stands (applies_picked g k (picked_in fs) s) ≡ true → Goes (frames_of tid s.stacks) (frames_of tid (applies_picked g k (picked_in fs) s).stacks)
  applied_goes k [] at up = same_frames _ _ refl
  applied_goes k (base n ∷ fs) at up = same_frames _ _ refl
  applied_goes k (outgoing o ∷ fs) at up = same_frames _ _ refl
  applied_goes k (body b ∷ fs) at up = let p : Picked = record { method = b; below = fs } in effect_goes k p (effect_at g k b fs s.tables) at up

  does_goes : (e : Entry) → IsOther e → may g s e ≡ true → stands (does g e s).side ≡ true → Goes (frames_of tid s.stacks) (frames_of tid (does g e s).side.stacks)
  unfolding may does ends_by picked drains
  does_goes (fed b) other can up = absurd other
  does_goes ended other can up = absurd (cc)
  does_goes failed other can up = absurd (cc)
  does_goes (asked n name wanted) other can up = root_goes n (root_asks g n name wanted s) (resting_last g s rest n (stands s) (not (has_entries s)) can) (root_asks_step g n name wanted s)
  does_goes (called n oid face function args) other can up =
      root_goes n (root_calls g n oid face function args s) (resting g s rest n (stands s) (not (has_entries s)) _ can) (root_calls_step g n oid face function args s)
  does_goes (queried n oid face wanted) other can up =
      root_goes n (root_queries g n oid face wanted s) (resting g s rest n (stands s) (not (has_entries s)) _ can) (root_queries_step g n oid face wanted s)
  does_goes (made n behaviour wanted) other can up = same_frames _ _ (ap (frames_of tid) (makes_calm g n behaviour wanted s).stacks)
  does_goes (dropped n oid face) other can up = same_frames _ _ (ap (frames_of tid) (drops_calm g n oid face s).stacks)
  does_goes (applied k) other can up = applied_goes k (frames_of k s.stacks) refl up
  does_goes (took n) other can up = same_frames _ _ (ap (frames_of tid) (takes_calm n s).stacks)
  does_goes (reaped object) other can up = same_frames _ _ (ap (frames_of tid) (reaps_calm g (lowest g s.tables) s).stacks)
  does_goes (drained b) other can up = same_frames _ _ refl
  does_goes disposed other can up = absurd (cc)
  does_goes full other can up = absurd (cc)
  does_goes no_memory other can up = absurd (no_more s.cause s up)

other_goes : (g : Setting) (tid : List ℕ) (s : Side) (e : Entry) (u : Turn) → Rest g s → AreApart s.stacks → IsOther e → step g s e ≡ Some u → stands u.side ≡ true
    → Goes (frames_of tid s.stacks) (frames_of tid u.side.stacks)
other_goes g tid s e u rest apart other is =
    of_step g s e u (λ v. stands v.side ≡ true → Goes (frames_of tid s.stacks) (frames_of tid v.side.stacks))
    (λ can up. subst (Goes (frames_of tid s.stacks)) (sym (ap (frames_of tid) (counted_stacks (counts e) (does g e s).side))) (does_goes g tid s rest apart e other can (sym (same_standing g e s) ∙ up))) is

-- ---- an entry

pub step_passes : (g : Setting) (ours : Ours) (es : List Entry) (x y : Told) (tid : List ℕ) (e : Entry) (u : Turn) → Leads g es x → Rest g x.side → AreApart x.side.stacks → Interlock ours x y → step g x.side e ≡ Some u
    → stands u.side ≡ true → IsNext g.registry (flight y x) u.got → Passes g tid x.side u e
step_passes g ours es x y tid (fed b) u leads rest apart locks is up next = piece_passes g ours es x y tid b u leads apart locks is up next
step_passes g ours es x y tid ended u leads rest apart locks is up next = goes ended (other_goes g tid x.side ended u rest apart tt is up)
step_passes g ours es x y tid failed u leads rest apart locks is up next = goes failed (other_goes g tid x.side failed u rest apart tt is up)
step_passes g ours es x y tid (asked n name wanted) u leads rest apart locks is up next = goes _ (other_goes g tid x.side (asked n name wanted) u rest apart tt is up)
step_passes g ours es x y tid (called n oid f k args) u leads rest apart locks is up next = goes _ (other_goes g tid x.side (called n oid f k args) u rest apart tt is up)
step_passes g ours es x y tid (queried n oid f wanted) u leads rest apart locks is up next = goes _ (other_goes g tid x.side (queried n oid f wanted) u rest apart tt is up)
step_passes g ours es x y tid (made n behaviour wanted) u leads rest apart locks is up next = goes _ (other_goes g tid x.side (made n behaviour wanted) u rest apart tt is up)
step_passes g ours es x y tid (dropped n oid f) u leads rest apart locks is up next = goes _ (other_goes g tid x.side (dropped n oid f) u rest apart tt is up)
step_passes g ours es x y tid (applied k) u leads rest apart locks is up next = goes _ (other_goes g tid x.side (applied k) u rest apart tt is up)
step_passes g ours es x y tid (took n) u leads rest apart locks is up next = goes _ (other_goes g tid x.side (took n) u rest apart tt is up)
step_passes g ours es x y tid (reaped n) u leads rest apart locks is up next = goes _ (other_goes g tid x.side (reaped n) u rest apart tt is up)
step_passes g ours es x y tid (drained b) u leads rest apart locks is up next = goes _ (other_goes g tid x.side (drained b) u rest apart tt is up)
step_passes g ours es x y tid disposed u leads rest apart locks is up next = goes _ (other_goes g tid x.side disposed u rest apart tt is up)
step_passes g ours es x y tid full u leads rest apart locks is up next = goes _ (other_goes g tid x.side full u rest apart tt is up)
step_passes g ours es x y tid no_memory u leads rest apart locks is up next = goes _ (other_goes g tid x.side no_memory u rest apart tt is up)
