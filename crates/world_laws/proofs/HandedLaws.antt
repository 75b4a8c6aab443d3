-- A reply that comes is handed to the frame below the call that it answers.
use Rattle.std.proofs.Common.{◌≡◌, refl, sym, ap, subst, ◌∙◌, ℕ, ◌<◌, ◌^◌, true, List, [], ◌∷◌, ◌++◌, length, drop, Some}
use Rattle.std.proofs.lemmas.List.{append-nil}
use Rattle.message_model.specs.Calls.{numbered}
use Rattle.message_model.specs.Messages.{Message, Answer, reply}
use Rattle.message_model.specs.Sayable.{arrived, answer_arrived}
use Rattle.plan_model.specs.Frames.{Outgoing, Frame, outgoing, Stack, frames_of}
use Rattle.bridge_model.specs.Entries.{Entry, fed}
use Rattle.bridge_model.specs.Histories.{Told, Leads}
use Rattle.bridge_model.specs.References.{home_answer}
use Rattle.bridge_model.specs.Settings.{Setting, is_own}
use Rattle.bridge_model.specs.Sides.{Tables, Side, stands}
use Rattle.bridge_model.specs.Stacks.{puts_frames}
use Rattle.bridge_model.specs.Steps.{Turn, step}
use Rattle.bridge_laws.proofs.StepLaws.{nothing_got}
use Rattle.bridge_laws.specs.Hearings.{IsOnTop, IsReceived, Hears, rests, breaks, hears}
use Rattle.bridge_laws.specs.Outcomes.{handed_down, fate_of_message, replies, replies_by, replies_of_message, roots_by, FramesBy}
use Rattle.bridge_laws.proofs.ServingLaws.{piece_heard}
use Rattle.bridge_model.specs.Entries.{ended, failed, asked, called, queried, made, dropped, applied, took, reaped, drained, disposed, full, no_memory}
use Rattle.bridge_model.specs.Receiving.{below_top}
use Rattle.bridge_model.specs.Steps.{does}
use Rattle.bridge_laws.proofs.Replays.{of_step}
use Rattle.bridge_laws.proofs.StandingLaws.{stood, same_standing}
use Rattle.world_model.specs.Flights.{flight}
use Rattle.world_model.specs.Meetings.{Moves, Meets}
use Rattle.world_model.specs.Threads.{shapes}
use Rattle.world_model.specs.Worlds.{Settings, of_a, of_b, AreJoined, End, World, Event, entries_of}
use Rattle.world_model.specs.declared.side.Side as which_side
use Rattle.world_model.specs.declared.side.Side.TheVariants.{A, B}
use Rattle.world_laws.proofs.InterlockLaws.{interlock, interlock_b, others, both_current}
use Rattle.world_laws.proofs.LastLaws.{both_last}
use Rattle.world_laws.proofs.RunLaws.{both_lead}
use Rattle.world_laws.specs.Calls.{IsAnswerOfCall, IsHanded}
use Rattle.world_laws.specs.Ends.{near, near_of}
use Rattle.world_laws.proofs.AnswerLaws.{chain_none}
use Rattle.world_laws.proofs.CrossingLaws.{OnTop, reply_flies}
use Rattle.world_laws.proofs.RunAnswers.{answer_a, answer_b}
use Rattle.world_laws.proofs.SomebodyLaws.{has_somebody, is_handed}
use Rattle.world_laws.proofs.StayLaws.{same_first, chain_rests}

-- what one reply does to tables and stacks
pub record IsTaken (g : Setting) (t : Tables) (ss : List Stack) (u : Side) (rs : List Message) (tid face : List ℕ) (function : ℕ) (a : Answer) : Type 0 where
  pub on : IsOnTop tid face function ss
  pub roots : u.tables.roots ≡ roots_by g (handed_down g.registry tid (home_answer g a) on.below) t.roots
  pub said : rs ≡ replies_by tid (handed_down g.registry tid (home_answer g a) on.below)
  pub frames : List Frame
  pub left : FramesBy g u.tables.objects (handed_down g.registry tid (home_answer g a) on.below) frames
  pub stacks : u.stacks ≡ puts_frames tid frames ss

reply_taken : (g : Setting) (t : Tables) (ss : List Stack) (z : Side) (tid face : List ℕ) (function : ℕ) (a : Answer) → IsReceived g t ss (reply tid face function a) z
    → IsTaken g t ss z (replies_of_message g t ss (reply tid face function a)) tid face function a
unfolding fate_of_message replies_of_message
reply_taken g t ss z tid face function a is = by_stacks is.stacks
  where
    by_stacks : (on : IsOnTop tid face function ss) × (fs : List Frame) × FramesBy g z.tables.objects (handed_down g.registry tid (home_answer g a) on.below) fs × (z.stacks ≡ puts_frames tid fs ss)
        → IsTaken g t ss z (replies_by tid (handed_down g.registry tid (home_answer g a) (below_top (frames_of tid ss)))) tid face function a
    by_stacks (on, fs, left, at) =
        let below : below_top (frames_of tid ss) ≡ on.below = ap below_top on.top in
        record {
          on = on;
          roots = is.roots ∙ ap (λ gs. roots_by g (handed_down g.registry tid (home_answer g a) gs) t.roots) below;
          said = ap (λ gs. replies_by tid (handed_down g.registry tid (home_answer g a) gs)) below;
          frames = fs;
          left = left;
          stacks = at;
        }

taken_on : (g : Setting) (t : Tables) (ss : List Stack) (z end : Side) (rs qs : List Message) (tid face : List ℕ) (function : ℕ) (a : Answer) → end.tables ≡ z.tables → end.stacks ≡ z.stacks → qs ≡ rs
    → IsTaken g t ss z rs tid face function a → IsTaken g t ss end qs tid face function a
taken_on g t ss z end rs qs tid face function a same at says k =
    record {
      on = k.on;
      roots = ap (λ (x : Tables). x.roots) same ∙ k.roots;
      said = says ∙ k.said;
      frames = k.frames;
      left = subst (λ (x : Tables). FramesBy g x.objects (handed_down g.registry tid (home_answer g a) k.on.below) k.frames) (sym same) k.left;
      stacks = at ∙ k.stacks;
    }

chain_taken : (g : Setting) (t : Tables) (ss : List Stack) (ms rs : List Message) (z : Side) (tid face : List ℕ) (function : ℕ) (a : Answer) → Hears g t ss ms rs z → ms ≡ reply tid face function a ∷ []
    → stands z ≡ true → IsTaken g t ss z rs tid face function a
chain_taken g t' ss' ms' rs' z' tid face function a (rests z) one up = absurd (cc)
chain_taken g t' ss' ms' rs' z' tid face function a (breaks s why place) one up = absurd (cc)
chain_taken g t' ss' ms' rs' end' tid face function a (hears t ss m z ms rs end got later) one up =
    let both = same_first m (reply tid face function a) ms one in
    let rest = chain_rests g z.tables z.stacks ms rs end later both.1 up in
    let none = chain_none g z.tables z.stacks ms rs end later both.1 in
    taken_on g t ss z end (replies_of_message g t ss (reply tid face function a)) (replies_of_message g t ss m ++ rs) tid face function a rest.0 rest.1
    (ap (λ xs. replies_of_message g t ss m ++ xs) none ∙ (append-nil (replies_of_message g t ss m) ∙ ap (replies_of_message g t ss) both.0))
    (reply_taken g t ss z tid face function a (subst (λ k. IsReceived g t ss k z) both.0 got))

-- ---- an entry

nothing_came : {X : Type 0} (got : List Message) (m : Message) → got ≡ [] → got ≡ m ∷ [] → X
nothing_came got m none one = let bad : [] ≡ m ∷ [] = sym none ∙ one in absurd (cc)

drained_nothing : (g : Setting) (s : Side) (b : List ℕ) (u : Turn) → step g s (drained b) ≡ Some u → u.got ≡ []
unfolding does
drained_nothing g s b u is = of_step g s (drained b) u (λ v. v.got ≡ []) (λ can. refl) is

pub reply_comes : (g : Setting) (es : List Entry) (x : Told) (e : Entry) (u : Turn) (tid face : List ℕ) (function : ℕ) (a : Answer) → Leads g es x → step g x.side e ≡ Some u → stands u.side ≡ true
    → u.got ≡ reply tid face function a ∷ [] → IsTaken g x.side.tables x.side.stacks u.side (replies u.said) tid face function a
reply_comes g es x (fed b) u tid face function a leads is up one =
    chain_taken g x.side.tables x.side.stacks u.got (replies u.said) u.side tid face function a (piece_heard g es x b u leads is) one up
reply_comes g es x (drained b) u tid face function a leads is up one = nothing_came u.got _ (drained_nothing g x.side b u is) one
reply_comes g es x ended u tid face function a leads is up one = nothing_came u.got _ (nothing_got g x.side ended u refl is) one
reply_comes g es x failed u tid face function a leads is up one = nothing_came u.got _ (nothing_got g x.side failed u refl is) one
reply_comes g es x (asked n name wanted) u tid face function a leads is up one = nothing_came u.got _ (nothing_got g x.side (asked n name wanted) u refl is) one
reply_comes g es x (called n oid f k args) u tid face function a leads is up one = nothing_came u.got _ (nothing_got g x.side (called n oid f k args) u refl is) one
reply_comes g es x (queried n oid f wanted) u tid face function a leads is up one = nothing_came u.got _ (nothing_got g x.side (queried n oid f wanted) u refl is) one
reply_comes g es x (made n behaviour wanted) u tid face function a leads is up one = nothing_came u.got _ (nothing_got g x.side (made n behaviour wanted) u refl is) one
reply_comes g es x (dropped n oid f) u tid face function a leads is up one = nothing_came u.got _ (nothing_got g x.side (dropped n oid f) u refl is) one
reply_comes g es x (applied k) u tid face function a leads is up one = nothing_came u.got _ (nothing_got g x.side (applied k) u refl is) one
reply_comes g es x (took n) u tid face function a leads is up one = nothing_came u.got _ (nothing_got g x.side (took n) u refl is) one
reply_comes g es x (reaped n) u tid face function a leads is up one = nothing_came u.got _ (nothing_got g x.side (reaped n) u refl is) one
reply_comes g es x disposed u tid face function a leads is up one = nothing_came u.got _ (nothing_got g x.side disposed u refl is) one
reply_comes g es x full u tid face function a leads is up one = nothing_came u.got _ (nothing_got g x.side full u refl is) one
reply_comes g es x no_memory u tid face function a leads is up one = nothing_came u.got _ (nothing_got g x.side no_memory u refl is) one

-- ---- a move

same_below : (c d : Outgoing) (fs gs : List Frame) → outgoing c ∷ fs ≡ outgoing d ∷ gs → fs ≡ gs
same_below c d fs gs is = cc

flies_last : (one away : End) (ms : List Message) → away.now.said ≡ away.last.said → one.last ≡ one.now → flight away.now one.now ≡ ms → flight away.last one.last ≡ ms
unfolding flight
flies_last one away ms said same flies = ap (λ (z : Told). drop (length z.got) away.last.said) same ∙ (ap (drop (length one.now.got)) (sym said) ∙ flies)

stood_before : (g : Setting) (s : Side) (e : Entry) (u : Turn) → step g s e ≡ Some u → stands u.side ≡ true → stands s ≡ true
stood_before g s e u is = of_step g s e u (λ v. stands v.side ≡ true → stands s ≡ true) (λ can up. stood g e s can (sym (same_standing g e s) ∙ up)) is

handed_by : (g : Settings) (s : which_side.Side) (es : List Event) (w : World) (u : Turn) (tid face : List ℕ) (function : ℕ) (a : Answer) → (near s w).last ≡ (near s w).now
    → OnTop (frames_of tid (near s w).last.side.stacks) (record { face = face; function = function }) → IsAnswerOfCall g s es w tid face function a
    → IsTaken (near_of s g) (near s w).now.side.tables (near s w).now.side.stacks u.side (replies u.said) tid face function (answer_arrived g.registry (numbered g.registry face function) a)
    → IsHanded g s es w u tid face function a
handed_by g s es w u tid face function a same on answer k =
    let b = answer_arrived g.registry (numbered g.registry face function) a in
    let top = ap (λ (x : Told). frames_of tid x.side.stacks) (sym same) ∙ answer.top in
    let below = same_below k.on.call answer.call k.on.below answer.below (sym k.on.top ∙ top) in
    let under = same_below on.call answer.call on.below answer.below (sym on.top ∙ answer.top) in
    record {
      answer = answer;
      fate = handed_down (near_of s g).registry tid (home_answer (near_of s g) b) k.on.below;
      down = ap (handed_down (near_of s g).registry tid (home_answer (near_of s g) b)) below;
      somebody = is_handed (near_of s g).registry tid k.on.below (subst (λ fs. has_somebody (shapes fs) ≡ true) (under ∙ sym below) on.has) (home_answer (near_of s g) b);
      roots = k.roots;
      said = k.said;
      frames = k.frames;
      left = k.left;
      stacks = k.stacks;
    }

pub handed_a : (g : Settings) → AreJoined (of_a g) (of_b g) → length g.a.plan.threads < 2 ^ 64 → length g.b.plan.threads < 2 ^ 64 → (es : List Event) (w : World) → Meets g es w
    → (e : Entry) (after : End) (m : Moves (of_a g) w.a w.b e after) → stands m.turn.side ≡ true → (tid face : List ℕ) (function : ℕ) (a : Answer) (ms : List Message)
    → flight w.b.now w.a.now ≡ reply tid face function a ∷ ms → m.turn.got ≡ arrived g.registry (reply tid face function a) ∷ [] → IsHanded g A es w m.turn tid face function a
unfolding arrived
handed_a g joined few_a few_b es w met e after m up tid face function a ms flies one =
    let same = (both_current g es w met).a (stood_before (of_a g) w.a.now.side e m.turn m.does up) in
    let flying = flies_last w.a w.b _ (both_last g es w met).b.said same flies in
    handed_by g A es w m.turn tid face function a same
    (reply_flies (is_own (of_a g)) w.a.last w.b.last tid face function a [] ms (interlock g joined few_a few_b es w met) flying).top
    (answer_a g joined few_a few_b es w met tid face function a [] ms flying)
    (reply_comes (of_a g) (entries_of A es) w.a.now e m.turn tid face function (answer_arrived g.registry (numbered g.registry face function) a) (both_lead g es w met).a m.does up one)

pub handed_b : (g : Settings) → AreJoined (of_a g) (of_b g) → length g.a.plan.threads < 2 ^ 64 → length g.b.plan.threads < 2 ^ 64 → (es : List Event) (w : World) → Meets g es w
    → (e : Entry) (after : End) (m : Moves (of_b g) w.b w.a e after) → stands m.turn.side ≡ true → (tid face : List ℕ) (function : ℕ) (a : Answer) (ms : List Message)
    → flight w.a.now w.b.now ≡ reply tid face function a ∷ ms → m.turn.got ≡ arrived g.registry (reply tid face function a) ∷ [] → IsHanded g B es w m.turn tid face function a
unfolding arrived
handed_b g joined few_a few_b es w met e after m up tid face function a ms flies one =
    let same = (both_current g es w met).b (stood_before (of_b g) w.b.now.side e m.turn m.does up) in
    let flying = flies_last w.b w.a _ (both_last g es w met).a.said same flies in
    handed_by g B es w m.turn tid face function a same
    (reply_flies (others (is_own (of_a g))) w.b.last w.a.last tid face function a [] ms (interlock_b g joined few_a few_b es w met) flying).top
    (answer_b g joined few_a few_b es w met tid face function a [] ms flying)
    (reply_comes (of_b g) (entries_of B es) w.b.now e m.turn tid face function (answer_arrived g.registry (numbered g.registry face function) a) (both_lead g es w met).b m.does up one)
