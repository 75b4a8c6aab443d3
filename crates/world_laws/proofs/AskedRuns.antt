-- In every run of messages each request in flight was said as its call was made, which waits on top of its thread since.
use Rattle.std.proofs.Common.{◌≡◌, refl, sym, ap, subst, ◌∙◌, ℕ, ◌<◌, ◌^◌, ◌⊎◌, inl, inr, Bool, true, false, List, [], ◌∷◌, ◌++◌, length, drop, Some, if◌then◌else◌}
use Rattle.std.proofs.lemmas.List.{append_assoc}
use Rattle.message_model.specs.Messages.{Message, request}
use Rattle.message_model.specs.Sayable.{arrived}
use Rattle.uno_model.specs.Entities.{Entity}
use Rattle.uno_model.specs.Values.{Plain}
use Rattle.plan_model.specs.Frames.{Outgoing, Frame, outgoing, frames_of}
use Rattle.bridge_model.specs.Entries.{Entry}
use Rattle.bridge_model.specs.Histories.{Told, told_more, Leads}
use Rattle.bridge_model.specs.Settings.{Setting, is_own}
use Rattle.bridge_model.specs.Sides.{stands}
use Rattle.bridge_model.specs.Steps.{Turn, step}
use Rattle.bridge_laws.proofs.HistoryLaws.{always_apart}
use Rattle.world_model.specs.Flights.{flight, Follows, IsNext}
use Rattle.world_model.specs.Meetings.{Meets, begins, a_moves, b_moves}
use Rattle.world_model.specs.Threads.{Called, Call, Shape, out, shape, shapes, Signal, asks, answers, signals, idle, runs, asked, answered, seen, View, Locks, Ours, view, Interlock, upper}
use Rattle.world_model.specs.Worlds.{Settings, of_a, of_b, AreJoined, End, World, Event, entries_of}
use Rattle.world_model.specs.declared.side.Side.{Side}
use Rattle.world_model.specs.declared.side.Side.TheVariants.{A, B}
use Rattle.world_laws.proofs.InterlockLaws.{interlock, interlock_b, others, both_current}
use Rattle.world_laws.proofs.LastLaws.{both_last, last_linked}
use Rattle.world_laws.proofs.RunLaws.{both_lead}
use Rattle.world_laws.proofs.SideThreads.{flies_more}
use Rattle.world_laws.proofs.SignalLaws.{signals_append}
use Rattle.world_laws.specs.Ends.{near, far, near_of}
use Rattle.world_laws.specs.Serving.{IsMade}
use Rattle.world_laws.proofs.CrossingLaws.{no_cell, alone, silent_all, arrives_so, request_signal, shape_out, flies_same, flies_less, in_append}
use Rattle.world_laws.proofs.StayLaws.{AreSilent, step_stays, roots_rest, stood_before, IsCurrent}

-- ---- a request in flight

-- its call waits, and nothing of the thread flies back
record IsWaiting (v : View) : Type 0 where
  call : Call
  below : List Shape
  mine : v.mine ≡ out call ∷ below
  none : v.to_me ≡ []

not_answered : {X : Type 0} (k : Call) (f : Called) (front rest : List Signal) → answers f ∷ [] ≡ front ++ asks k ∷ rest → X
not_answered k f front rest is = let one = (alone (answers f) (asks k) front rest is).1 in absurd (cc)

request_waits : (v : View) (k : Call) (front rest : List Signal) → v.to_them ≡ front ++ asks k ∷ rest → Locks v → IsWaiting v
unfolding seen
request_waits v k front rest goes (idle, real, inl is) = no_cell front (asks k) rest (sym (ap (λ (z : View). z.to_them) is) ∙ goes)
request_waits v k front rest goes (idle, real, inr is) = no_cell front (asks k) rest (sym (ap (λ (z : View). z.to_them) is) ∙ goes)
request_waits v k front rest goes (runs n cs, real, inl is) = no_cell front (asks k) rest (sym (ap (λ (z : View). z.to_them) is) ∙ goes)
request_waits v k front rest goes (runs n cs, real, inr is) = no_cell front (asks k) rest (sym (ap (λ (z : View). z.to_them) is) ∙ goes)
request_waits v k front rest goes (asked j n cs, real, inl is) = record { call = j; below = upper n cs; mine = ap (λ (z : View). z.mine) is; none = ap (λ (z : View). z.to_me) is }
request_waits v k front rest goes (asked j n cs, real, inr is) = no_cell front (asks k) rest (sym (ap (λ (z : View). z.to_them) is) ∙ goes)
request_waits v k front rest goes (answered j n cs, real, inl is) = no_cell front (asks k) rest (sym (ap (λ (z : View). z.to_them) is) ∙ goes)
request_waits v k front rest goes (answered j n cs, real, inr is) = not_answered k j.called front rest (sym (ap (λ (z : View). z.to_them) is) ∙ goes)

-- the call on top of its thread, and that no message to its end is of the thread
record IsCallOnTop (fs : List Frame) (tid : List ℕ) (coming : List Message) : Type 0 where
  call : Outgoing
  below : List Frame
  top : fs ≡ outgoing call ∷ below
  silent : AreSilent tid coming

first_out : (fs : List Frame) (k : Call) (ss : List Shape) → shapes fs ≡ out k ∷ ss → (o : Outgoing) × (below : List Frame) × (fs ≡ outgoing o ∷ below)
first_out [] k ss is = absurd (cc)
first_out (f ∷ fs) k ss is = let one : shape f ≡ out k = cc in let o = shape_out f k one in (o.0, fs, ap (λ z. z ∷ fs) o.1)

request_flies : (ours : Ours) (x y : Told) (tid oid face : List ℕ) (function : ℕ) (sent : List Plain) (front rest : List Message) → Interlock ours x y → flight x y ≡ front ++ request tid oid face function sent ∷ rest
    → IsCallOnTop (frames_of tid x.side.stacks) tid (flight y x)
unfolding signals
request_flies ours x y tid oid face function sent front rest locks flies =
    let k : Call = record { oid = oid; called = record { face = face; function = function } } in
    let goes : signals tid (flight x y) ≡ signals tid front ++ asks k ∷ signals tid rest =
    ap (signals tid) flies ∙ (signals_append tid front (request tid oid face function sent ∷ rest) ∙ ap (λ ss. signals tid front ++ (ss ++ signals tid rest)) (request_signal tid oid face function sent)) in
    let w = request_waits (view ours tid x y) k (signals tid front) (signals tid rest) goes (locks tid) in
    let o = first_out (frames_of tid x.side.stacks) w.call w.below w.mine in
    record { call = o.0; below = o.1; top = o.2; silent = silent_all tid (flight y x) w.none }

-- ---- the moment of a call

pub record IsMadeOn (g : Settings) (which : Side) (es : List Event) (fs : List Frame) (tid : List ℕ) (m : Message) : Type 0 where
  pub front : List Event
  pub entry : Entry
  pub later : List Event
  pub run : es ≡ front ++ record { side = which; entry = entry } ∷ later
  pub before : World
  pub met : Meets g front before
  pub turn : Turn
  pub does : step (near_of which g) (near which before).now.side entry ≡ Some turn
  pub earlier : List Message
  pub rest : List Message
  pub said : turn.said ≡ earlier ++ m ∷ rest
  pub same : frames_of tid turn.side.stacks ≡ fs

made_later : (g : Settings) (which : Side) (es : List Event) (e : Event) (fs gs : List Frame) (tid : List ℕ) (m : Message) → gs ≡ fs → IsMadeOn g which es fs tid m → IsMadeOn g which (es ++ e ∷ []) gs tid m
made_later g which es e fs gs tid m same k =
    record {
      front = k.front;
      entry = k.entry;
      later = k.later ++ e ∷ [];
      run = ap (λ zs. zs ++ e ∷ []) k.run ∙ append_assoc k.front (record { side = which; entry = k.entry } ∷ k.later) (e ∷ []);
      before = k.before;
      met = k.met;
      turn = k.turn;
      does = k.does;
      earlier = k.earlier;
      rest = k.rest;
      said = k.said;
      same = k.same ∙ sym same;
    }

-- each request in flight was made so
abbrev pub Asked : Settings → Side → List Event → World → Type 0
Asked g which es w =
    (tid oid face : List ℕ) (function : ℕ) (sent : List Plain) (front rest : List Message) → flight (near which w).last (far which w).last ≡ front ++ request tid oid face function sent ∷ rest
    → IsMadeOn g which es (frames_of tid (near which w).last.side.stacks) tid (request tid oid face function sent)

pub is_made : (g : Settings) (which : Side) (es : List Event) (w : World) → Asked g which es w → (tid : List ℕ) (call : Outgoing) (below : List Frame) (sent : List Plain) (ms : List Message)
    → frames_of tid (near which w).last.side.stacks ≡ outgoing call ∷ below → flight (near which w).last (far which w).last ≡ request tid call.oid call.face call.function sent ∷ ms → IsMade g which es tid call below sent
is_made g which es w all tid call below sent ms top flies =
    let k = all tid call.oid call.face call.function sent [] ms flies in
    record {
      front = k.front;
      entry = k.entry;
      later = k.later;
      run = k.run;
      before = k.before;
      met = k.met;
      turn = k.turn;
      does = k.does;
      earlier = k.earlier;
      rest = k.rest;
      said = k.said;
      top = k.same ∙ top;
    }

-- ---- a step of the end that calls

silent_next : (g : Setting) (x y : Told) (u : Turn) (tid : List ℕ) → IsNext g.registry (flight y x) u.got → AreSilent tid (flight y x) → AreSilent tid u.got
silent_next g x y u tid (inl none) silent = subst (AreSilent tid) (sym none) tt
silent_next g x y u tid (inr (m, ms, flies, one)) silent =
    let both = subst (AreSilent tid) flies silent in subst (AreSilent tid) (sym one) (arrives_so g.registry tid m ∙ both.0, tt)

near_asked : (g : Settings) (which : Side) (es : List Event) (w : World) (ours : Ours) (fs : List Entry) (e : Entry) (u : Turn) → Meets g es w → length (near_of which g).plan.threads < 2 ^ 64
    → Leads (near_of which g) fs (near which w).now → IsCurrent (near which w) → step (near_of which g) (near which w).now.side e ≡ Some u
    → IsNext (near_of which g).registry (flight (far which w).last (near which w).now) u.got → Interlock ours (near which w).last (far which w).last
    → Follows (near_of which g).registry (near which w).last (far which w).last → Asked g which es w → (b : Bool) → stands u.side ≡ b
    → (tid oid face : List ℕ) (function : ℕ) (sent : List Plain) (front rest : List Message)
    → flight (if b then told_more (near which w).now e u else (near which w).last) (far which w).last ≡ front ++ request tid oid face function sent ∷ rest
    → IsMadeOn g which (es ++ record { side = which; entry = e } ∷ []) (frames_of tid (if b then told_more (near which w).now e u else (near which w).last).side.stacks) tid (request tid oid face function sent)
near_asked g which es w ours fs e u met few leads current does next locks follows all true up tid oid face function sent front rest flies =
    let x = (near which w).now in
    let y = (far which w).last in
    let same = current (stood_before (near_of which g) x.side e u does up) in
    let more = flies_more (near_of which g).registry x y e u (subst (λ z. Follows (near_of which g).registry z y) same follows) in
    by_part same (in_append (flight x y) u.said front rest (request tid oid face function sent) (sym more ∙ flies))
  where
    by_part : (near which w).last ≡ (near which w).now
        → ((behind : List Message) × (flight (near which w).now (far which w).last ≡ front ++ request tid oid face function sent ∷ behind))
        ⊎ ((before : List Message) × (u.said ≡ before ++ request tid oid face function sent ∷ rest)) → IsMadeOn g which (es ++ record { side = which; entry = e } ∷ []) (frames_of tid u.side.stacks) tid (request tid oid face function sent)
    by_part same (inl (behind, was)) =
        let x = (near which w).now in
        let y = (far which w).last in
        let here = subst (λ z. Interlock ours z y) same locks in
        let on = request_flies ours x y tid oid face function sent front behind here was in
        let stay = step_stays (near_of which g) tid x.side e u on.call on.below on.top (roots_rest (near_of which g) fs x few leads) (always_apart (near_of which g) fs x leads) does up
        (silent_next (near_of which g) x y u tid next on.silent) in
        made_later g which es _ (frames_of tid (near which w).last.side.stacks) (frames_of tid u.side.stacks) tid _ (stay ∙ ap (λ (z : Told). frames_of tid z.side.stacks) (sym same))
        (all tid oid face function sent front behind (ap (λ z. flight z y) same ∙ was))
    by_part same (inr (before, says)) =
        record { front = es; entry = e; later = []; run = refl; before = w; met = met; turn = u; does = does; earlier = before; rest = rest; said = says; same = refl }
near_asked g which es w ours fs e u met few leads current does next locks follows all false up tid oid face function sent front rest flies =
    made_later g which es _ _ _ tid _ refl (all tid oid face function sent front rest flies)

-- ---- a step of the other end

-- it flew before too
flew : (reg : List Entity) (x y : Told) (e : Entry) (u : Turn) (m : Message) (front rest : List Message) → IsNext reg (flight x y) u.got → flight x (told_more y e u) ≡ front ++ m ∷ rest
    → (before : List Message) × (flight x y ≡ before ++ m ∷ rest)
flew reg x y e u m front rest (inl none) flies = (front, sym (flies_same y x e u none) ∙ flies)
flew reg x y e u m front rest (inr (k, ms, was, one)) flies = (k ∷ front, was ∙ ap (λ zs. k ∷ zs) (sym (flies_less y x e u k ms (arrived reg k) was one) ∙ flies))

far_asked : (g : Settings) (which : Side) (es : List Event) (w : World) (ev : Event) (e : Entry) (u : Turn) → IsCurrent (far which w) → (stands u.side ≡ true → stands (far which w).now.side ≡ true)
    → (near which w).now.said ≡ (near which w).last.said → IsNext g.registry (flight (near which w).now (far which w).now) u.got → Asked g which es w → (b : Bool) → stands u.side ≡ b
    → (tid oid face : List ℕ) (function : ℕ) (sent : List Plain) (front rest : List Message)
    → flight (near which w).last (if b then told_more (far which w).now e u else (far which w).last) ≡ front ++ request tid oid face function sent ∷ rest
    → IsMadeOn g which (es ++ ev ∷ []) (frames_of tid (near which w).last.side.stacks) tid (request tid oid face function sent)
unfolding flight
far_asked g which es w ev e u current stood said next all true up tid oid face function sent front rest flies =
    let same = current (stood up) in
    let comes = subst (λ zs. IsNext g.registry (drop (length (far which w).now.got) zs) u.got) said next in
    let k = flew g.registry (near which w).last (far which w).now e u (request tid oid face function sent) front rest comes flies in
    made_later g which es ev _ _ tid _ refl (all tid oid face function sent k.0 rest (ap (λ z. flight (near which w).last z) same ∙ k.1))
far_asked g which es w ev e u current stood said next all false up tid oid face function sent front rest flies = made_later g which es ev _ _ tid _ refl (all tid oid face function sent front rest flies)

-- ---- every run

module _ (g : Settings) (joined : AreJoined (of_a g) (of_b g)) (few_a : length g.a.plan.threads < 2 ^ 64) (few_b : length g.b.plan.threads < 2 ^ 64) where
  pub asked_a : (es : List Event) (w : World) → Meets g es w → Asked g A es w
  unfolding flight
  asked_a es w begins tid oid face function sent front rest flies = no_cell front _ rest flies
  asked_a es' w' (a_moves es w e after met m) tid oid face function sent front rest flies =
      let last = ap (λ (z : End). z.last) m.becomes in
      subst (λ z. IsMadeOn g A es' (frames_of tid z.side.stacks) tid (request tid oid face function sent)) (sym last)
      (near_asked g A es w (is_own (of_a g)) (entries_of A es) e m.turn met few_a (both_lead g es w met).a (both_current g es w met).a m.does
      (subst (λ zs. IsNext g.registry (drop (length w.a.now.got) zs) m.turn.got) (both_last g es w met).b.said m.comes) (interlock g joined few_a few_b es w met) (last_linked g es w met).there
      (asked_a es w met) (stands m.turn.side) refl tid oid face function sent front rest (ap (λ z. flight z w.b.last) (sym last) ∙ flies))
  asked_a es' w' (b_moves es w e after met m) tid oid face function sent front rest flies =
      let last = ap (λ (z : End). z.last) m.becomes in
      far_asked g A es w _ e m.turn (both_current g es w met).b (stood_before (of_b g) w.b.now.side e m.turn m.does) (both_last g es w met).a.said m.comes (asked_a es w met) (stands m.turn.side) refl
      tid oid face function sent front rest (ap (λ z. flight w.a.last z) (sym last) ∙ flies)

  pub asked_b : (es : List Event) (w : World) → Meets g es w → Asked g B es w
  unfolding flight
  asked_b es w begins tid oid face function sent front rest flies = no_cell front _ rest flies
  asked_b es' w' (b_moves es w e after met m) tid oid face function sent front rest flies =
      let last = ap (λ (z : End). z.last) m.becomes in
      subst (λ z. IsMadeOn g B es' (frames_of tid z.side.stacks) tid (request tid oid face function sent)) (sym last)
      (near_asked g B es w (others (is_own (of_a g))) (entries_of B es) e m.turn met few_b (both_lead g es w met).b (both_current g es w met).b m.does
      (subst (λ zs. IsNext g.registry (drop (length w.b.now.got) zs) m.turn.got) (both_last g es w met).a.said m.comes) (interlock_b g joined few_a few_b es w met) (last_linked g es w met).back
      (asked_b es w met) (stands m.turn.side) refl tid oid face function sent front rest (ap (λ z. flight z w.a.last) (sym last) ∙ flies))
  asked_b es' w' (a_moves es w e after met m) tid oid face function sent front rest flies =
      let last = ap (λ (z : End). z.last) m.becomes in
      far_asked g B es w _ e m.turn (both_current g es w met).a (stood_before (of_a g) w.a.now.side e m.turn m.does) (both_last g es w met).b.said m.comes (asked_b es w met) (stands m.turn.side) refl
      tid oid face function sent front rest (ap (λ z. flight w.b.last z) (sym last) ∙ flies)
