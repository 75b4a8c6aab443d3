-- In every run of messages each reply in flight was said where its call ended, while the call was on top at the end that made it.
use Rattle.std.proofs.Common.{◌≡◌, refl, sym, ap, subst, ◌∙◌, ℕ, ◌+◌, ◌<◌, ◌^◌, ◌⊎◌, inl, inr, Bool, true, false, List, [], ◌∷◌, ◌++◌, length, drop, Some, if◌then◌else◌}
use Rattle.std.proofs.lemmas.List.{append_assoc}
use Rattle.message_model.specs.Messages.{Message, Answer, reply}
use Rattle.message_model.specs.Sayable.{arrived}
use Rattle.plan_model.specs.Frames.{Outgoing, Frame, outgoing, frames_of}
use Rattle.bridge_model.specs.Entries.{Entry}
use Rattle.bridge_model.specs.Histories.{Told, told_more, Leads}
use Rattle.bridge_model.specs.Settings.{Setting, is_own}
use Rattle.bridge_model.specs.Sides.{Side, stands}
use Rattle.bridge_model.specs.Steps.{Turn, step}
use Rattle.bridge_laws.proofs.StandingLaws.{stood}
use Rattle.bridge_laws.proofs.HistoryLaws.{always_apart}
use Rattle.world_model.specs.Flights.{flight, Follows, IsNext}
use Rattle.world_model.specs.Meetings.{Moves, Meets, begins, a_moves, b_moves}
use Rattle.world_model.specs.Threads.{Ours, Interlock}
use Rattle.world_model.specs.Worlds.{Settings, of_a, of_b, AreJoined, End, World, Event, entries_of}
use Rattle.world_model.specs.declared.side.Side as which_side
use Rattle.world_model.specs.declared.side.Side.TheVariants.{A, B}
use Rattle.world_laws.proofs.InterlockLaws.{interlock, interlock_b, others, both_current}
use Rattle.world_laws.proofs.LastLaws.{both_last, last_linked}
use Rattle.world_laws.proofs.RunLaws.{both_lead}
use Rattle.world_laws.proofs.SideThreads.{flies_more}
use Rattle.world_laws.specs.Calls.{EndsSo, IsAnsweredThere, IsAnswerOfCall}
use Rattle.world_laws.specs.Ends.{near, far, other}
use Rattle.world_laws.specs.Serving.{IsItsOwn}
use Rattle.world_laws.proofs.AnswerLaws.{reply_ends}
use Rattle.world_laws.proofs.CrossingLaws.{reply_flies, arrives_so, flies_same, flies_less, in_append}
use Rattle.world_laws.proofs.AskedRuns.{asked_a, asked_b}
use Rattle.world_laws.proofs.OwnAnswers.{own_answer}
use Rattle.world_laws.proofs.ServedRuns.{Serve, serve_a, serve_b}
use Rattle.world_laws.proofs.StayLaws.{AreSilent, step_stays, roots_rest, stood_before, IsCurrent}

-- ---- a step of the end to which the reply flies

-- it flew before, and the thread is as it was
record NearOn (before after y : Told) (tid face : List ℕ) (function : ℕ) (a : Answer) (rest : List Message) : Type 0 where
  front : List Message
  flies : flight y before ≡ front ++ reply tid face function a ∷ rest
  same : frames_of tid after.side.stacks ≡ frames_of tid before.side.stacks

module _ (g : Setting) (ours : Ours) (es : List Entry) (x y : Told) (e : Entry) (u : Turn) (few : length g.plan.threads < 2 ^ 64) (leads : Leads g es x) (is : step g x.side e ≡ Some u) (up : stands u.side ≡ true)
    (locks : Interlock ours x y) (tid face : List ℕ) (function : ℕ) (a : Answer) (front rest : List Message) where
  stays_near : (before : List Message) → flight y x ≡ before ++ reply tid face function a ∷ rest → AreSilent tid u.got → NearOn x (told_more x e u) y tid face function a rest
  stays_near before flies silent =
      let on = (reply_flies ours x y tid face function a before rest locks flies).top in
      record { front = before; flies = flies; same = step_stays g tid x.side e u on.call on.below on.top (roots_rest g es x few leads) (always_apart g es x leads) is up silent }

  near_next : IsNext g.registry (flight y x) u.got → flight y (told_more x e u) ≡ front ++ reply tid face function a ∷ rest → NearOn x (told_more x e u) y tid face function a rest
  near_next (inl none) flies = stays_near front (sym (flies_same x y e u none) ∙ flies) (subst (AreSilent tid) (sym none) tt)
  near_next (inr (m, ms, was, one)) flies =
      let now = sym (flies_less x y e u m ms (arrived g.registry m) was one) ∙ flies in
      let whole : flight y x ≡ (m ∷ front) ++ reply tid face function a ∷ rest = was ∙ ap (λ zs. m ∷ zs) now in
      let silent = (reply_flies ours x y tid face function a (m ∷ front) rest locks whole).before in
      stays_near (m ∷ front) whole (subst (AreSilent tid) (sym one) (arrives_so g.registry tid m ∙ silent.0, tt))

near_by : (g : Setting) (ours : Ours) (es : List Entry) (one : End) (y : Told) (e : Entry) (u : Turn) → length g.plan.threads < 2 ^ 64 → Leads g es one.now → IsCurrent one → step g one.now.side e ≡ Some u
    → IsNext g.registry (flight y one.now) u.got → Interlock ours one.last y → (tid face : List ℕ) (function : ℕ) (a : Answer) (front rest : List Message) → (b : Bool) → stands u.side ≡ b
    → flight y (if b then told_more one.now e u else one.last) ≡ front ++ reply tid face function a ∷ rest → NearOn one.last (if b then told_more one.now e u else one.last) y tid face function a rest
near_by g ours es one y e u few leads current is next locks tid face function a front rest true up flies =
    let same = current (stood_before g one.now.side e u is up) in
    subst (λ z. NearOn z (told_more one.now e u) y tid face function a rest) (sym same)
    (near_next g ours es one.now y e u few leads is up (subst (λ z. Interlock ours z y) same locks) tid face function a front rest next flies)
near_by g ours es one y e u few leads current is next locks tid face function a front rest false up flies = record { front = front; flies = flies; same = refl }

near_on : (g : Setting) (ours : Ours) (es : List Entry) (one away after : End) (e : Entry) → length g.plan.threads < 2 ^ 64 → Leads g es one.now → IsCurrent one → Moves g one away e after
    → away.now.said ≡ away.last.said → Interlock ours one.last away.last → (tid face : List ℕ) (function : ℕ) (a : Answer) (front rest : List Message)
    → flight away.last after.last ≡ front ++ reply tid face function a ∷ rest → NearOn one.last after.last away.last tid face function a rest
unfolding flight
near_on g ours es one away after e few leads current m said locks tid face function a front rest flies =
    let last = ap (λ (z : End). z.last) m.becomes in
    subst (λ z. NearOn one.last z away.last tid face function a rest) (sym last)
    (near_by g ours es one away.last e m.turn few leads current m.does (subst (λ ms. IsNext g.registry (drop (length one.now.got) ms) m.turn.got) said m.comes) locks tid face function a front rest
    (stands m.turn.side) refl (ap (λ z. flight away.last z) (sym last) ∙ flies))

-- ---- a step of the end that says it

-- it flew before, or the entry says it
abbrev FarOn : (h : Setting) (before : Told) (now : Side) (x : Told) (e : Entry) (u : Turn) (tid face : List ℕ) (function : ℕ) (a : Answer) → Type 0
FarOn h before now x e u tid face function a =
    ((front : List Message) × (rest : List Message) × (flight before x ≡ front ++ reply tid face function a ∷ rest)) ⊎ ((stands now ≡ true) × EndsSo h now tid face function a e u)

far_by : (h : Setting) (fs : List Entry) (away : End) (x : Told) (e : Entry) (u : Turn) (flying : List Message) → Leads h fs away.now → IsCurrent away → step h away.now.side e ≡ Some u → IsNext h.registry flying u.got
    → Follows h.registry away.last x → (tid face : List ℕ) (function : ℕ) (a : Answer) (front rest : List Message) → (b : Bool) → stands u.side ≡ b
    → flight (if b then told_more away.now e u else away.last) x ≡ front ++ reply tid face function a ∷ rest → FarOn h away.last away.now.side x e u tid face function a
far_by h fs away x e u flying leads current is next follows tid face function a front rest true up flies =
    let same = current (stood_before h away.now.side e u is up) in
    let more = flies_more h.registry away.now x e u (subst (λ z. Follows h.registry z x) same follows) in
    by_part same (in_append (flight away.now x) u.said front rest (reply tid face function a) (sym more ∙ flies))
  where
    by_part : away.last ≡ away.now → ((behind : List Message) × (flight away.now x ≡ front ++ reply tid face function a ∷ behind)) ⊎ ((before : List Message) × (u.said ≡ before ++ reply tid face function a ∷ rest))
        → FarOn h away.last away.now.side x e u tid face function a
    by_part same (inl (behind, was)) = inl (front, behind, ap (λ z. flight z x) same ∙ was)
    by_part same (inr (before, says)) = inr (stood_before h away.now.side e u is up, reply_ends h h.registry fs away.now e tid face function a u flying before rest leads is up next says)
far_by h fs away x e u flying leads current is next follows tid face function a front rest false up flies = inl (front, rest, flies)

far_on : (h : Setting) (fs : List Entry) (one away after : End) (e : Entry) (m : Moves h away one e after) → Leads h fs away.now → IsCurrent away → Follows h.registry away.last one.last
    → (tid face : List ℕ) (function : ℕ) (a : Answer) (front rest : List Message) → flight after.last one.last ≡ front ++ reply tid face function a ∷ rest
    → FarOn h away.last away.now.side one.last e m.turn tid face function a
far_on h fs one away after e m leads current follows tid face function a front rest flies =
    let last = ap (λ (z : End). z.last) m.becomes in
    far_by h fs away one.last e m.turn (flight one.now away.now) leads current m.does m.comes follows tid face function a front rest (stands m.turn.side) refl
    (ap (λ z. flight z one.last) (sym last) ∙ flies)

-- ---- a run

-- it was answered there, by what is its own
abbrev There : Settings → which_side.Side → List Event → List Frame → (tid face : List ℕ) → (function : ℕ) → Answer → Type 0
There g s es fs tid face function a =
    (at : IsAnsweredThere g s es fs tid face function a) × ((call : Outgoing) (below : List Frame) → fs ≡ outgoing call ∷ below → IsItsOwn g s at.front at.before tid call below at.turn)

there_later : (g : Settings) (s : which_side.Side) (es : List Event) (e : Event) (fs gs : List Frame) (tid face : List ℕ) (function : ℕ) (a : Answer) → gs ≡ fs → There g s es fs tid face function a
    → There g s (es ++ e ∷ []) gs tid face function a
there_later g s es e fs gs tid face function a same (at, own) = (
  record {
    front = at.front;
    entry = at.entry;
    later = at.later ++ e ∷ [];
    run = ap (λ zs. zs ++ e ∷ []) at.run ∙ append_assoc at.front (record { side = other s; entry = at.entry } ∷ at.later) (e ∷ []);
    before = at.before;
    met = at.met;
    turn = at.turn;
    does = at.does;
    ends = at.ends;
    same = at.same ∙ sym same;
  },
  λ call below top. own call below (sym same ∙ top),
)

there_now : (g : Settings) (s : which_side.Side) (es : List Event) (fs gs : List Frame) (tid face : List ℕ) (function : ℕ) (a : Answer) → fs ≡ gs → There g s es fs tid face function a → There g s es gs tid face function a
there_now g s es fs gs tid face function a same (at, own) = (
  record {
    front = at.front;
    entry = at.entry;
    later = at.later;
    run = at.run;
    before = at.before;
    met = at.met;
    turn = at.turn;
    does = at.does;
    ends = at.ends;
    same = at.same ∙ same;
  },
  λ call below top. own call below (same ∙ top),
)

abbrev Holds : Settings → which_side.Side → List Event → World → Type 0
Holds g s es w = (tid face : List ℕ) (function : ℕ) (a : Answer) (front rest : List Message) → flight (far s w).last (near s w).last ≡ front ++ reply tid face function a ∷ rest
    → There g s es (frames_of tid (near s w).last.side.stacks) tid face function a

none_flies : {X : Type 0} (front rest : List Message) (m : Message) → [] ≡ front ++ m ∷ rest → X
none_flies [] rest m is = absurd (cc)
none_flies (k ∷ front) rest m is = absurd (cc)

module _ (g : Settings) (joined : AreJoined (of_a g) (of_b g)) (few_a : length g.a.plan.threads < 2 ^ 64) (few_b : length g.b.plan.threads < 2 ^ 64) where
  far_a : (es : List Event) (w : World) (e : Entry) (after : End) (met : Meets g es w) (m : Moves (of_b g) w.b w.a e after) → Holds g A es w → (tid face : List ℕ) (function : ℕ) (a : Answer)
      → FarOn (of_b g) w.b.last w.b.now.side w.a.last e m.turn tid face function a
      → There g A (es ++ record { side = B; entry = e } ∷ []) (frames_of tid w.a.last.side.stacks) tid face function a
  far_a es w e after met m holds tid face function a (inl (front, rest, was)) = there_later g A es _ _ _ tid face function a refl (holds tid face function a front rest was)
  far_a es w e after met m holds tid face function a (inr (up, ends)) =
      let stood = (both_current g es w met).b up in (
        record { front = es; entry = e; later = []; run = refl; before = w; met = met; turn = m.turn; does = m.does; ends = ends; same = refl },
        λ call below top.
            own_answer g A es w (others (is_own (of_a g))) tid call below (subst (λ z. Serve g A es w.a.last z tid) stood (serve_a g joined few_a few_b es w met tid)) (asked_a g joined few_a few_b es w met) stood
            (subst (λ z. Interlock (others (is_own (of_a g))) z w.a.last) stood (interlock_b g joined few_a few_b es w met)) (both_last g es w met).a.said top face function a e m.turn m.comes ends,
      )

  pub holds_a : (es : List Event) (w : World) → Meets g es w → Holds g A es w
  unfolding flight
  holds_a es w begins tid face function a front rest flies = none_flies front rest _ flies
  holds_a es' w' (a_moves es w e after met m) tid face function a front rest flies =
      let last = both_last g es w met in
      let on = near_on (of_a g) (is_own (of_a g)) (entries_of A es) w.a w.b after e few_a (both_lead g es w met).a (both_current g es w met).a m last.b.said (interlock g joined few_a few_b es w met)
      tid face function a front rest flies in
      there_later g A es _ _ _ tid face function a on.same (holds_a es w met tid face function a on.front rest on.flies)
  holds_a es' w' (b_moves es w e after met m) tid face function a front rest flies =
      far_a es w e after met m (holds_a es w met) tid face function a
      (far_on (of_b g) (entries_of B es) w.a w.b after e m (both_lead g es w met).b (both_current g es w met).b (last_linked g es w met).back tid face function a front rest flies)

  far_b : (es : List Event) (w : World) (e : Entry) (after : End) (met : Meets g es w) (m : Moves (of_a g) w.a w.b e after) → Holds g B es w → (tid face : List ℕ) (function : ℕ) (a : Answer)
      → FarOn (of_a g) w.a.last w.a.now.side w.b.last e m.turn tid face function a
      → There g B (es ++ record { side = A; entry = e } ∷ []) (frames_of tid w.b.last.side.stacks) tid face function a
  far_b es w e after met m holds tid face function a (inl (front, rest, was)) = there_later g B es _ _ _ tid face function a refl (holds tid face function a front rest was)
  far_b es w e after met m holds tid face function a (inr (up, ends)) =
      let stood = (both_current g es w met).a up in (
        record { front = es; entry = e; later = []; run = refl; before = w; met = met; turn = m.turn; does = m.does; ends = ends; same = refl },
        λ call below top.
            own_answer g B es w (is_own (of_a g)) tid call below (subst (λ z. Serve g B es w.b.last z tid) stood (serve_b g joined few_a few_b es w met tid)) (asked_b g joined few_a few_b es w met) stood
            (subst (λ z. Interlock (is_own (of_a g)) z w.b.last) stood (interlock g joined few_a few_b es w met)) (both_last g es w met).b.said top face function a e m.turn m.comes ends,
      )

  pub holds_b : (es : List Event) (w : World) → Meets g es w → Holds g B es w
  unfolding flight
  holds_b es w begins tid face function a front rest flies = none_flies front rest _ flies
  holds_b es' w' (b_moves es w e after met m) tid face function a front rest flies =
      let last = both_last g es w met in
      let on = near_on (of_b g) (others (is_own (of_a g))) (entries_of B es) w.b w.a after e few_b (both_lead g es w met).b (both_current g es w met).b m last.a.said (interlock_b g joined few_a few_b es w met)
      tid face function a front rest flies in
      there_later g B es _ _ _ tid face function a on.same (holds_b es w met tid face function a on.front rest on.flies)
  holds_b es' w' (a_moves es w e after met m) tid face function a front rest flies =
      far_b es w e after met m (holds_b es w met) tid face function a
      (far_on (of_a g) (entries_of A es) w.b w.a after e m (both_lead g es w met).a (both_current g es w met).a (last_linked g es w met).there tid face function a front rest flies)

pub answer_a : (g : Settings) → AreJoined (of_a g) (of_b g) → length g.a.plan.threads < 2 ^ 64 → length g.b.plan.threads < 2 ^ 64 → (es : List Event) (w : World) → Meets g es w
    → (tid face : List ℕ) (function : ℕ) (a : Answer) (front rest : List Message) → flight w.b.last w.a.last ≡ front ++ reply tid face function a ∷ rest → IsAnswerOfCall g A es w tid face function a
answer_a g joined few_a few_b es w met tid face function a front rest flies =
    let on = (reply_flies (is_own (of_a g)) w.a.last w.b.last tid face function a front rest (interlock g joined few_a few_b es w met) flies).top in
    let k = there_now g A es (frames_of tid w.a.last.side.stacks) (outgoing on.call ∷ on.below) tid face function a on.top (holds_a g joined few_a few_b es w met tid face function a front rest flies) in
    record {
      call = on.call;
      below = on.below;
      top = on.top;
      same_face = on.same_face;
      same_function = on.same_function;
      there = k.0;
      own = k.1 on.call on.below refl;
    }

pub answer_b : (g : Settings) → AreJoined (of_a g) (of_b g) → length g.a.plan.threads < 2 ^ 64 → length g.b.plan.threads < 2 ^ 64 → (es : List Event) (w : World) → Meets g es w
    → (tid face : List ℕ) (function : ℕ) (a : Answer) (front rest : List Message) → flight w.a.last w.b.last ≡ front ++ reply tid face function a ∷ rest → IsAnswerOfCall g B es w tid face function a
answer_b g joined few_a few_b es w met tid face function a front rest flies =
    let on = (reply_flies (others (is_own (of_a g))) w.b.last w.a.last tid face function a front rest (interlock_b g joined few_a few_b es w met) flies).top in
    let k = there_now g B es (frames_of tid w.b.last.side.stacks) (outgoing on.call ∷ on.below) tid face function a on.top (holds_b g joined few_a few_b es w met tid face function a front rest flies) in
    record {
      call = on.call;
      below = on.below;
      top = on.top;
      same_face = on.same_face;
      same_function = on.same_function;
      there = k.0;
      own = k.1 on.call on.below refl;
    }
