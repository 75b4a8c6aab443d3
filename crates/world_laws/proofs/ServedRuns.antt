-- In every run of messages each method that serves the other end began with the request of a call that waits there still, which stands as deep in the thread.
use Rattle.std.proofs.Common.{◌≡◌, refl, sym, ap, subst, ◌∙◌, ℕ, ◌<◌, ◌≤◌, ◌^◌, inl, inr, Bool, true, false, List, [], ◌∷◌, ◌++◌, length, drop, Some, if◌then◌else◌}
use Rattle.std.proofs.lemmas.List.{append_assoc}
use Rattle.message_model.specs.Messages.{Message, request, release, reply}
use Rattle.message_model.specs.Sayable.{arrived}
use Rattle.uno_model.specs.Entities.{Entity}
use Rattle.uno_model.specs.Values.{Plain}
use Rattle.plan_model.specs.Frames.{Body, Outgoing, Frame, base, body, outgoing, frames_of}
use Rattle.bridge_model.specs.Calls.{first_body}
use Rattle.bridge_model.specs.Entries.{Entry, fed}
use Rattle.bridge_model.specs.Histories.{Told, told_more, Leads}
use Rattle.bridge_model.specs.References.{each_home}
use Rattle.bridge_model.specs.Settings.{Setting, is_own}
use Rattle.bridge_model.specs.Sides as side
use Rattle.bridge_model.specs.Sides.{stands}
use Rattle.bridge_model.specs.Steps.{Picked, Turn, step, opening}
use Rattle.bridge_laws.proofs.HistoryLaws.{always_apart}
use Rattle.world_model.specs.Flights.{flight, IsNext}
use Rattle.world_model.specs.Meetings.{Moves, Meets, begins, a_moves, b_moves}
use Rattle.world_model.specs.Threads.{Call, Shape, out, shape, shapes, asks, signals, seen, View, Ours, view, Interlock, upper}
use Rattle.world_model.specs.Worlds.{Settings, of_a, of_b, AreJoined, End, World, Event, entries_of}
use Rattle.world_model.specs.declared.side.Side.{Side}
use Rattle.world_model.specs.declared.side.Side.TheVariants.{A, B}
use Rattle.world_laws.proofs.InterlockLaws.{interlock, interlock_b, others, both_current}
use Rattle.world_laws.proofs.LastLaws.{both_last}
use Rattle.world_laws.proofs.RunLaws.{both_lead}
use Rattle.world_laws.proofs.ThreadLaws.{request_comes}
use Rattle.world_laws.specs.Ends.{near, far, other, far_of}
use Rattle.world_laws.specs.Serving.{at_start, BeganWithRequest, ServesItsCall, EachServesItsCall}
use Rattle.world_laws.proofs.AskedRuns.{Asked, is_made, asked_a, asked_b}
use Rattle.world_laws.proofs.CrossingFrames.{calls_in, begun_at, served_if, served_in, shrinks, grows}
use Rattle.world_laws.proofs.CrossingLaws.{shape_out, request_signal}
use Rattle.world_laws.proofs.PairedLaws.{Paired, none_paired, calls_answered, calls_made, methods_ended, method_begun, found, paired_also, outs, servings, calls_counted, methods_counted, calls_out_are, served_among_are, calls_above, within}
use Rattle.world_laws.proofs.StayLaws.{roots_rest, stood_before, IsCurrent}
use Rattle.world_laws.proofs.StepFrames.{Passes, goes, serving, step_passes}

-- ---- a call and its method

-- the frames from a call down, and the method that its request began
abbrev pub BeganAt : Settings → Side → List Event → (tid : List ℕ) → List Frame → Picked → Type 0
BeganAt g which es tid w p = (call : Outgoing) × (below : List Frame) × (w ≡ outgoing call ∷ below) × BeganWithRequest g which es tid call below p.method p.below

began_later : (g : Settings) (which : Side) (es : List Event) (e : Event) (tid : List ℕ) (call : Outgoing) (below : List Frame) (b : Body) (under : List Frame) → BeganWithRequest g which es tid call below b under
    → BeganWithRequest g which (es ++ e ∷ []) tid call below b under
began_later g which es e tid call below b under k =
    record {
      front = k.front;
      bytes = k.bytes;
      later = k.later ++ e ∷ [];
      run = ap (λ zs. zs ++ e ∷ []) k.run ∙ append_assoc k.front (record { side = other which; entry = fed k.bytes } ∷ k.later) (e ∷ []);
      before = k.before;
      met = k.met;
      turn = k.turn;
      does = k.does;
      called = k.called;
      sent = k.sent;
      made = k.made;
      behind = k.behind;
      flies = k.flies;
      args = k.args;
      arrive = k.arrive;
      got = k.got;
      first = k.first;
      is = k.is;
      begins = k.begins;
      same = k.same;
    }

-- of the method however far it has come
pub began_so : (g : Settings) (which : Side) (es : List Event) (tid : List ℕ) (call : Outgoing) (below : List Frame) (b : Body) (under : List Frame) → BeganWithRequest g which es tid call below (at_start b) under
    → BeganWithRequest g which es tid call below b under
began_so g which es tid call below b under k =
    record {
      front = k.front;
      bytes = k.bytes;
      later = k.later;
      run = k.run;
      before = k.before;
      met = k.met;
      turn = k.turn;
      does = k.does;
      called = k.called;
      sent = k.sent;
      made = k.made;
      behind = k.behind;
      flies = k.flies;
      args = k.args;
      arrive = k.arrive;
      got = k.got;
      first = k.first;
      is = k.is;
      begins = k.begins;
      same = k.same;
    }

abbrev pub Serve : Settings → Side → List Event → (x y : Told) → (tid : List ℕ) → Type 0
Serve g which es x y tid = Paired (BeganAt g which es tid) (calls_in (frames_of tid x.side.stacks)) (served_in (frames_of tid y.side.stacks))

serve_later : (g : Settings) (which : Side) (es : List Event) (e : Event) (x y : Told) (tid : List ℕ) → Serve g which es x y tid → Serve g which (es ++ e ∷ []) x y tid
serve_later g which es e x y tid k =
    paired_also (BeganAt g which es tid) (BeganAt g which (es ++ e ∷ []) tid) (λ w p r. (r.0, r.1, r.2, began_later g which es e tid r.0 r.1 p.method p.below r.3)) _ _ k

-- ---- a step of the end that calls

enough : (ours : Ours) (x y : Told) (tid : List ℕ) → Interlock ours x y → length (served_in (frames_of tid y.side.stacks)) ≤ length (calls_in (frames_of tid x.side.stacks))
enough ours x y tid locks =
    let p = within (view ours tid x y) (locks tid) in
    subst (λ n. length (served_in (frames_of tid y.side.stacks)) ≤ n) (sym (calls_counted (frames_of tid x.side.stacks)))
    (subst (λ n. n ≤ outs (shapes (frames_of tid x.side.stacks))) (sym (methods_counted (frames_of tid y.side.stacks))) p)

near_passes : (R : List Frame → Picked → Type 0) (g : Setting) (tid : List ℕ) (s : side.Side) (u : Turn) (e : Entry) (ps : List Picked) → Passes g tid s u e → length ps ≤ length (calls_in (frames_of tid u.side.stacks))
    → Paired R (calls_in (frames_of tid s.stacks)) ps → Paired R (calls_in (frames_of tid u.side.stacks)) ps
unfolding calls_in
near_passes R g tid s u e ps (goes f (shrinks z)) least k = calls_answered R _ z.answered _ ps z.calls least k
near_passes R g tid s u e ps (goes f (grows new more same)) least k = calls_made R _ new _ ps more k
near_passes R g tid s u e ps (serving b oid face function args got frames) least k = subst (λ fs. Paired R (calls_in fs) ps) (sym frames) k

near_by : (h : Settings) (which : Side) (all : List Event) (g : Setting) (ours : Ours) (es : List Entry) (one : End) (y : Told) (e : Entry) (u : Turn) (tid : List ℕ) → length g.plan.threads < 2 ^ 64 → Leads g es one.now → IsCurrent one
    → step g one.now.side e ≡ Some u → IsNext g.registry (flight y one.now) u.got → Interlock ours one.last y → (b : Bool) → stands u.side ≡ b → Interlock ours (if b then told_more one.now e u else one.last) y
    → Serve h which all one.last y tid → Serve h which all (if b then told_more one.now e u else one.last) y tid
near_by h which all g ours es one y e u tid few leads current is next locks true up after k =
    let same = current (stood_before g one.now.side e u is up) in
    let p = step_passes g ours es one.now y tid e u leads (roots_rest g es one.now few leads) (always_apart g es one.now leads) (subst (λ z. Interlock ours z y) same locks) is up next in
    near_passes (BeganAt h which all tid) g tid one.now.side u e _ p (enough ours (told_more one.now e u) y tid after) (subst (λ z. Serve h which all z y tid) same k)
near_by h which all g ours es one y e u tid few leads current is next locks false up after k = k

near_on : (h : Settings) (which : Side) (all : List Event) (g : Setting) (ours : Ours) (es : List Entry) (one away after : End) (e : Entry) (tid : List ℕ) → length g.plan.threads < 2 ^ 64 → Leads g es one.now → IsCurrent one
    → Moves g one away e after → away.now.said ≡ away.last.said → Interlock ours one.last away.last → Interlock ours after.last away.last → Serve h which all one.last away.last tid → Serve h which all after.last away.last tid
unfolding flight
near_on h which all g ours es one away after e tid few leads current m said locks behind k =
    let last = ap (λ (z : End). z.last) m.becomes in
    subst (λ z. Serve h which all z away.last tid) (sym last)
    (near_by h which all g ours es one away.last e m.turn tid few leads current m.does (subst (λ ms. IsNext g.registry (drop (length one.now.got) ms) m.turn.got) said m.comes) locks (stands m.turn.side) refl
    (subst (λ z. Interlock ours z away.last) last behind) k)

-- ---- a request that comes

-- the call of it is on top, and each call below that is served
pub record IsCalled (reg : List Entity) (fs gs : List Frame) (tid : List ℕ) (m : Message) : Type 0 where
  pub call : Outgoing
  pub below : List Frame
  pub top : fs ≡ outgoing call ∷ below
  pub sent : List Plain
  pub is : m ≡ request tid call.oid call.face call.function sent
  pub matched : length (calls_in below) ≡ length (served_in gs)

first_shape : (f : Frame) (fs : List Frame) (s : Shape) (ss : List Shape) → shapes (f ∷ fs) ≡ s ∷ ss → (shape f ≡ s) × (shapes fs ≡ ss)
first_shape f fs s ss is = (cc, cc)

called_top : (reg : List Entity) (fs gs : List Frame) (tid oid face : List ℕ) (function : ℕ) (sent : List Plain) (ss : List Shape) → shapes fs ≡ out (record { oid = oid; called = record { face = face; function = function } }) ∷ ss
    → outs ss ≡ length (served_in gs) → IsCalled reg fs gs tid (request tid oid face function sent)
called_top reg [] gs tid oid face function sent ss is many = absurd (cc)
called_top reg (f ∷ fs) gs tid oid face function sent ss is many =
    let both = first_shape f fs _ ss is in
    let o = shape_out f _ both.0 in
    record {
      call = o.0;
      below = fs;
      top = ap (λ z. z ∷ fs) o.1;
      sent = sent;
      is = ap (λ (c : Call). request tid c.oid c.called.face c.called.function sent) o.2;
      matched = calls_counted fs ∙ (ap outs both.1 ∙ many);
    }

pub request_called : (reg : List Entity) (ours : Ours) (x y : Told) (tid oid face : List ℕ) (function : ℕ) (sent : List Plain) (ms : List Message) → Interlock ours x y → flight y x ≡ request tid oid face function sent ∷ ms
    → IsCalled reg (frames_of tid y.side.stacks) (frames_of tid x.side.stacks) tid (request tid oid face function sent)
unfolding signals seen
request_called reg ours x y tid oid face function sent ms locks flies =
    let k : Call = record { oid = oid; called = record { face = face; function = function } } in
    let comes : signals tid (flight y x) ≡ asks k ∷ signals tid ms = ap (signals tid) flies ∙ ap (λ ss. ss ++ signals tid ms) (request_signal tid oid face function sent) in
    let v = view ours tid x y in
    let at = request_comes v k (signals tid ms) comes (locks tid) in
    called_top reg (frames_of tid y.side.stacks) (frames_of tid x.side.stacks) tid oid face function sent (upper at.here at.crossed) (ap (λ (z : View). z.theirs) at.is)
    (calls_above at.here at.crossed ∙ (sym (ap (λ (z : View). servings z.mine) at.is) ∙ sym (methods_counted (frames_of tid x.side.stacks))))

same_request : (k tid oid oid' face face' : List ℕ) (function function' : ℕ) (args args' : List Plain) → request k oid face function args ≡ request tid oid' face' function' args' → k ≡ tid
same_request k tid oid oid' face face' function function' args args' is = cc

-- the message in flight that arrives as a request
pub arriving_called : (reg : List Entity) (ours : Ours) (x y : Told) (tid oid face : List ℕ) (function : ℕ) (args : List Plain) (m : Message) (ms : List Message) → Interlock ours x y → flight y x ≡ m ∷ ms
    → arrived reg m ≡ request tid oid face function args → IsCalled reg (frames_of tid y.side.stacks) (frames_of tid x.side.stacks) tid m
unfolding arrived
arriving_called reg ours x y tid oid face function args (release k o f) ms locks flies is = absurd (cc)
arriving_called reg ours x y tid oid face function args (reply k f n a) ms locks flies is = absurd (cc)
arriving_called reg ours x y tid oid face function args (request k o f n sent) ms locks flies is =
    let one = same_request k tid o oid f face n function _ args is in
    subst (λ z. IsCalled reg (frames_of tid y.side.stacks) (frames_of tid x.side.stacks) tid (request z o f n sent)) (sym one)
    (request_called reg ours x y tid o f n sent ms locks (flies ∙ ap (λ z. request z o f n sent ∷ ms) one))

-- ---- a step of the end that serves

same_args : (k k' o o' f f' : List ℕ) (n n' : ℕ) (xs ys : List Plain) → request k o f n xs ≡ request k' o' f' n' ys → (o ≡ o') × (f ≡ f') × (n ≡ n') × (xs ≡ ys)
same_args k k' o o' f f' n n' xs ys is = (cc, cc, cc, cc)

-- its request came, and began a method, while it waits at the other end
far_begins : (h : Settings) (which : Side) (es : List Event) (w : World) (tid b oid face : List ℕ) (function : ℕ) (args : List Plain) (u : Turn) (m : Message) (ms : List Message) → Meets h es w
    → step (far_of which h) (far which w).now.side (fed b) ≡ Some u → flight (near which w).now (far which w).now ≡ m ∷ ms → u.got ≡ arrived h.registry m ∷ [] → arrived h.registry m ≡ request tid oid face function args
    → Asked h which es w → (near which w).now.said ≡ (near which w).last.said → (far which w).last ≡ (far which w).now
    → (k : IsCalled h.registry (frames_of tid (near which w).last.side.stacks) (frames_of tid (far which w).now.side.stacks) tid m)
    → frames_of tid u.side.stacks ≡ body (first_body (far_of which h) true oid face function (each_home (far_of which h) args) (far which w).now.side.tables) ∷ frames_of tid (far which w).now.side.stacks
    → BeganAt h which (es ++ record { side = other which; entry = fed b } ∷ []) tid (outgoing k.call ∷ k.below)
    (begun_at (first_body (far_of which h) true oid face function (each_home (far_of which h) args) (far which w).now.side.tables) (frames_of tid (far which w).now.side.stacks))
unfolding arrived flight
far_begins h which es w tid b oid face function args u m ms met does flies got is asked said current k frames =
    let came : arrived h.registry (request tid k.call.oid k.call.face k.call.function k.sent) ≡ request tid oid face function args = sym (ap (arrived h.registry) k.is) ∙ is in
    let same = same_args tid tid k.call.oid oid k.call.face face k.call.function function _ args came in (
      k.call,
      k.below,
      refl,
      record {
        front = es;
        bytes = b;
        later = [];
        run = refl;
        before = w;
        met = met;
        turn = u;
        does = does;
        called = k.top;
        sent = k.sent;
        made = is_made h which es w asked tid k.call k.below k.sent ms k.top
            (ap (λ (z : Told). drop (length z.got) (near which w).last.said) current ∙ (ap (drop (length (far which w).now.got)) (sym said) ∙ (flies ∙ ap (λ z. z ∷ ms) k.is)));
        behind = ms;
        flies = flies ∙ ap (λ z. z ∷ ms) k.is;
        args = args;
        arrive = sym same.3;
        got = got ∙ ap (λ z. z ∷ []) (is ∙ (λ i. request tid (sym same.0 i) (sym same.1 i) (sym same.2 i) args));
        first = first_body (far_of which h) true oid face function (each_home (far_of which h) args) (far which w).now.side.tables;
        is = λ i. first_body (far_of which h) true (sym same.0 i) (sym same.1 i) (sym same.2 i) (each_home (far_of which h) args) (far which w).now.side.tables;
        begins = frames;
        same = refl;
      },
    )

pub some_came : {X : Type 0} (got : List Message) (m : Message) → got ≡ [] → got ≡ m ∷ [] → X
some_came got m none one = let bad : [] ≡ m ∷ [] = sym none ∙ one in absurd (cc)

pub same_one : (m k : Message) → m ∷ [] ≡ k ∷ [] → m ≡ k
same_one m k is = cc

far_serves : (h : Settings) (which : Side) (es : List Event) (w : World) (ours : Ours) (tid b oid face : List ℕ) (function : ℕ) (args : List Plain) (u : Turn) → Meets h es w
    → step (far_of which h) (far which w).now.side (fed b) ≡ Some u → Asked h which es w → (far which w).last ≡ (far which w).now → Interlock ours (far which w).now (near which w).last
    → (near which w).now.said ≡ (near which w).last.said → IsNext h.registry (flight (near which w).now (far which w).now) u.got → u.got ≡ request tid oid face function args ∷ []
    → frames_of tid u.side.stacks ≡ body (first_body (far_of which h) true oid face function (each_home (far_of which h) args) (far which w).now.side.tables) ∷ frames_of tid (far which w).now.side.stacks
    → Serve h which (es ++ record { side = other which; entry = fed b } ∷ []) (near which w).last (far which w).now tid
    → Paired (BeganAt h which (es ++ record { side = other which; entry = fed b } ∷ []) tid) (calls_in (frames_of tid (near which w).last.side.stacks)) (served_in (frames_of tid u.side.stacks))
unfolding flight calls_in served_in
far_serves h which es w ours tid b oid face function args u met does asked current locks said (inl none) got frames k = some_came u.got _ none got
far_serves h which es w ours tid b oid face function args u met does asked current locks said (inr (m, ms, flies, one)) got frames k =
    let is = same_one _ _ (sym one ∙ got) in
    let c = arriving_called h.registry ours (far which w).now (near which w).last tid oid face function args m ms locks (ap (drop (length (far which w).now.got)) (sym said) ∙ flies) is in
    let R = BeganAt h which (es ++ record { side = other which; entry = fed b } ∷ []) tid in
    let fs = frames_of tid (far which w).now.side.stacks in
    let first = first_body (far_of which h) true oid face function (each_home (far_of which h) args) (far which w).now.side.tables in
    let begun = far_begins h which es w tid b oid face function args u m ms met does flies one is asked said current c frames in
    let before : Paired R ((outgoing c.call ∷ c.below) ∷ calls_in c.below) (served_in fs) = subst (λ zs. Paired R (calls_in zs) (served_in fs)) c.top k in
    let paired : Paired R ((outgoing c.call ∷ c.below) ∷ calls_in c.below) (begun_at first fs ∷ served_in fs) =
    method_begun R (outgoing c.call ∷ c.below) (calls_in c.below) (begun_at first fs) (served_in fs) c.matched begun before in
    subst (λ zs. Paired R (calls_in zs) (served_in (frames_of tid u.side.stacks))) (sym c.top)
    (subst (λ zs. Paired R ((outgoing c.call ∷ c.below) ∷ calls_in c.below) (served_in zs)) (sym frames) paired)

far_passes : (h : Settings) (which : Side) (es : List Event) (w : World) (ours : Ours) (tid : List ℕ) (e : Entry) (u : Turn) → Meets h es w → step (far_of which h) (far which w).now.side e ≡ Some u
    → Asked h which es w → (far which w).last ≡ (far which w).now → Interlock ours (far which w).now (near which w).last → (near which w).now.said ≡ (near which w).last.said
    → IsNext h.registry (flight (near which w).now (far which w).now) u.got → Passes (far_of which h) tid (far which w).now.side u e → Serve h which (es ++ record { side = other which; entry = e } ∷ []) (near which w).last (far which w).now tid
    → Paired (BeganAt h which (es ++ record { side = other which; entry = e } ∷ []) tid) (calls_in (frames_of tid (near which w).last.side.stacks)) (served_in (frames_of tid u.side.stacks))
far_passes h which es w ours tid e' u met does asked current locks said next (goes e (shrinks z)) k = methods_ended _ _ _ z.ended _ z.served k
far_passes h which es w ours tid e' u met does asked current locks said next (goes e (grows new more same)) k =
    subst (λ ps. Paired (BeganAt h which (es ++ record { side = other which; entry = e } ∷ []) tid) (calls_in (frames_of tid (near which w).last.side.stacks)) ps) (sym same) k
far_passes h which es w ours tid e' u met does asked current locks said next (serving b oid face function args got frames) k = far_serves h which es w ours tid b oid face function args u met does asked current locks said next got frames k

far_by : (h : Settings) (which : Side) (es : List Event) (w : World) (ours : Ours) (fs : List Entry) (tid : List ℕ) (e : Entry) (u : Turn) → Meets h es w → length (far_of which h).plan.threads < 2 ^ 64
    → Leads (far_of which h) fs (far which w).now → IsCurrent (far which w) → step (far_of which h) (far which w).now.side e ≡ Some u → Asked h which es w → (near which w).now.said ≡ (near which w).last.said
    → IsNext h.registry (flight (near which w).now (far which w).now) u.got → (far_of which h).registry ≡ h.registry → Interlock ours (far which w).last (near which w).last → (b : Bool) → stands u.side ≡ b
    → Serve h which es (near which w).last (far which w).last tid
    → Serve h which (es ++ record { side = other which; entry = e } ∷ []) (near which w).last (if b then told_more (far which w).now e u else (far which w).last) tid
unfolding flight
far_by h which es w ours fs tid e u met few leads current does asked said next reg locks true up k =
    let same = current (stood_before (far_of which h) (far which w).now.side e u does up) in
    let there = subst (λ z. Interlock ours z (near which w).last) same locks in
    let comes = subst (λ r. IsNext r (drop (length (far which w).now.got) (near which w).last.said) u.got) (sym reg) (subst (λ zs. IsNext h.registry (drop (length (far which w).now.got) zs) u.got) said next) in
    let p = step_passes (far_of which h) ours fs (far which w).now (near which w).last tid e u leads (roots_rest (far_of which h) fs (far which w).now few leads) (always_apart (far_of which h) fs (far which w).now leads)
    there does up comes in
    far_passes h which es w ours tid e u met does asked same there said next p
    (serve_later h which es _ (near which w).last (far which w).now tid (subst (λ z. Serve h which es (near which w).last z tid) same k))
far_by h which es w ours fs tid e u met few leads current does asked said next reg locks false up k = serve_later h which es _ (near which w).last (far which w).last tid k

-- ---- every run

first_serve : (g : Settings) (which : Side) (x y : Setting) (tid : List ℕ) → Paired (BeganAt g which [] tid) (calls_in (frames_of tid (opening x).stacks)) (served_in (frames_of tid (opening y).stacks))
unfolding opening frames_of calls_in served_in
first_serve g which x y tid = none_paired (BeganAt g which [] tid)

module _ (g : Settings) (joined : AreJoined (of_a g) (of_b g)) (few_a : length g.a.plan.threads < 2 ^ 64) (few_b : length g.b.plan.threads < 2 ^ 64) where
  pub serve_a : (es : List Event) (w : World) → Meets g es w → (tid : List ℕ) → Serve g A es w.a.last w.b.last tid
  serve_a es w begins tid = first_serve g A (of_a g) (of_b g) tid
  serve_a es' w' (a_moves es w e after met m) tid =
      serve_later g A es _ after.last w.b.last tid
      (near_on g A es (of_a g) (is_own (of_a g)) (entries_of A es) w.a w.b after e tid few_a (both_lead g es w met).a (both_current g es w met).a m (both_last g es w met).b.said
      (interlock g joined few_a few_b es w met) (interlock g joined few_a few_b es' w' (a_moves es w e after met m)) (serve_a es w met tid))
  serve_a es' w' (b_moves es w e after met m) tid =
      subst (λ (z : End). Serve g A es' w.a.last z.last tid) (sym m.becomes)
      (far_by g A es w (others (is_own (of_a g))) (entries_of B es) tid e m.turn met few_b (both_lead g es w met).b (both_current g es w met).b m.does (asked_a g joined few_a few_b es w met) (both_last g es w met).a.said m.comes refl
      (interlock_b g joined few_a few_b es w met) (stands m.turn.side) refl (serve_a es w met tid))

  pub serve_b : (es : List Event) (w : World) → Meets g es w → (tid : List ℕ) → Serve g B es w.b.last w.a.last tid
  serve_b es w begins tid = first_serve g B (of_b g) (of_a g) tid
  serve_b es' w' (b_moves es w e after met m) tid =
      serve_later g B es _ after.last w.a.last tid
      (near_on g B es (of_b g) (others (is_own (of_a g))) (entries_of B es) w.b w.a after e tid few_b (both_lead g es w met).b (both_current g es w met).b m (both_last g es w met).a.said
      (interlock_b g joined few_a few_b es w met) (interlock_b g joined few_a few_b es' w' (b_moves es w e after met m)) (serve_b es w met tid))
  serve_b es' w' (a_moves es w e after met m) tid =
      subst (λ (z : End). Serve g B es' w.b.last z.last tid) (sym m.becomes)
      (far_by g B es w (is_own (of_a g)) (entries_of A es) tid e m.turn met few_a (both_lead g es w met).a (both_current g es w met).a m.does (asked_b g joined few_a few_b es w met) (both_last g es w met).b.said m.comes refl
      (interlock g joined few_a few_b es w met) (stands m.turn.side) refl (serve_b es w met tid))

-- ---- each method that serves

served_apart : (b : Body) (fs : List Frame) → b.from_peer ≡ true → served_in (body b ∷ fs) ≡ begun_at b fs ∷ served_in fs
unfolding served_in
served_apart b fs is = ap (λ p. served_if p (begun_at b fs) (served_in fs)) is

served_behind : (p : Bool) (q : Picked) (ps front behind : List Picked) → ps ≡ front ++ behind → (more : List Picked) × (served_if p q ps ≡ more ++ behind)
served_behind true q ps front behind is = (q ∷ front, ap (λ zs. q ∷ zs) is)
served_behind false q ps front behind is = (front, is)

served_split : (above : List Frame) (b : Body) (under : List Frame) → b.from_peer ≡ true → (front : List Picked) × (served_in (above ++ body b ∷ under) ≡ front ++ begun_at b under ∷ served_in under)
unfolding served_in
served_split [] b under is = ([], served_apart b under is)
served_split (base n ∷ above) b under is = served_split above b under is
served_split (outgoing o ∷ above) b under is = served_split above b under is
served_split (body c ∷ above) b under is = let k = served_split above b under is in served_behind c.from_peer (begun_at c (above ++ body b ∷ under)) _ k.0 _ k.1

-- a call among frames
record IsCallAmong (fs : List Frame) (w : List Frame) (rest : List (List Frame)) : Type 0 where
  above : List Frame
  call : Outgoing
  below : List Frame
  from : w ≡ outgoing call ∷ below
  are : fs ≡ above ++ outgoing call ∷ below
  behind : rest ≡ calls_in below

no_call : {X : Type 0} (over rest : List (List Frame)) (w : List Frame) → [] ≡ over ++ w ∷ rest → X
no_call [] rest w is = absurd (cc)
no_call (x ∷ over) rest w is = absurd (cc)

first_call : (w z : List Frame) (ws zs : List (List Frame)) → w ∷ ws ≡ z ∷ zs → (w ≡ z) × (ws ≡ zs)
first_call w z ws zs is = (cc, cc)

deeper : (f : Frame) (fs : List Frame) (w : List Frame) (rest : List (List Frame)) → IsCallAmong fs w rest → IsCallAmong (f ∷ fs) w rest
deeper f fs w rest k = record { above = f ∷ k.above; call = k.call; below = k.below; from = k.from; are = ap (λ zs. f ∷ zs) k.are; behind = k.behind }

call_among : (fs : List Frame) (over rest : List (List Frame)) (w : List Frame) → calls_in fs ≡ over ++ w ∷ rest → IsCallAmong fs w rest
unfolding calls_in
call_among [] over rest w is = no_call over rest w is
call_among (base n ∷ fs) over rest w is = deeper (base n) fs w rest (call_among fs over rest w is)
call_among (body b ∷ fs) over rest w is = deeper (body b) fs w rest (call_among fs over rest w is)
call_among (outgoing o ∷ fs) [] rest w is = let both = first_call _ w _ rest is in record { above = []; call = o; below = fs; from = sym both.0; are = refl; behind = sym both.1 }
call_among (outgoing o ∷ fs) (x ∷ over) rest w is = let both = first_call _ x _ (over ++ w ∷ rest) is in deeper (outgoing o) fs w rest (call_among fs over rest w both.1)

pub same_call : (o p : Outgoing) (fs gs : List Frame) → outgoing o ∷ fs ≡ outgoing p ∷ gs → (o ≡ p) × (fs ≡ gs)
same_call o p fs gs is = (cc, cc)

serves_call : (g : Settings) (which : Side) (es : List Event) (w : World) (tid : List ℕ) (above : List Frame) (b : Body) (under : List Frame) → Serve g which es (near which w).last (far which w).last tid → b.from_peer ≡ true
    → frames_of tid (far which w).last.side.stacks ≡ above ++ body b ∷ under → ServesItsCall g which es w tid b under
serves_call g which es w tid above b under k theirs is =
    let R = BeganAt g which es tid in
    let split = served_split above b under theirs in
    let f = found R _ (served_in (frames_of tid (far which w).last.side.stacks)) split.0 (begun_at b under) (served_in under) (ap served_in is ∙ split.1) k in
    let c = call_among (frames_of tid (near which w).last.side.stacks) f.over f.under f.call f.are in
    let began = f.is in
    let same = same_call began.0 c.call began.1 c.below (sym began.2 ∙ c.from) in
    record {
      call = c.call;
      above = c.above;
      below = c.below;
      waits = c.are;
      matched = calls_out_are c.below ∙ (ap length (sym c.behind) ∙ (f.matched ∙ sym (served_among_are under)));
      began = subst (λ o. BeganWithRequest g which es tid o c.below b under) same.0
          (subst (λ fs. BeganWithRequest g which es tid began.0 fs b under) same.1 (began_so g which es tid began.0 began.1 b under began.3));
    }

module _ (g : Settings) (joined : AreJoined (of_a g) (of_b g)) (few_a : length g.a.plan.threads < 2 ^ 64) (few_b : length g.b.plan.threads < 2 ^ 64) where
  pub each_serves_a : (es : List Event) (w : World) → Meets g es w → EachServesItsCall g A es w
  each_serves_a es w met tid above served under is theirs = serves_call g A es w tid above served under (serve_a g joined few_a few_b es w met tid) theirs is

  pub each_serves_b : (es : List Event) (w : World) → Meets g es w → EachServesItsCall g B es w
  each_serves_b es w met tid above served under is theirs = serves_call g B es w tid above served under (serve_b g joined few_a few_b es w met tid) theirs is
