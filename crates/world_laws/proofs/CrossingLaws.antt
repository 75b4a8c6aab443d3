-- A reply in flight: the call that it answers is on top at the one end, and nothing else of its thread is in flight to that end.
use Rattle.std.proofs.Common.{◌≡◌, refl, sym, ap, ◌∙◌, subst, ℕ, ◌+◌, ◌⊎◌, inl, inr, Bool, true, false, List, [], ◌∷◌, ◌++◌, length, drop}
use Rattle.std.proofs.lemmas.List.{append-nil, drop-drop, length-append}
use Rattle.std.proofs.lemmas.Slice.Eq.{bytes_eq-Decides}
use Rattle.message_model.specs.Messages.{Message, Answer, request, release, reply}
use Rattle.message_model.specs.Sayable.{arrived}
use Rattle.uno_model.specs.Entities.{Entity}
use Rattle.plan_model.specs.Frames.{Outgoing, Frame, base, body, outgoing, frames_of}
use Rattle.bridge_model.specs.Histories.{Told, told_more}
use Rattle.bridge_model.specs.Entries.{Entry}
use Rattle.bridge_model.specs.Steps.{Turn}
use Rattle.uno_model.specs.Values.{Plain}
use Rattle.world_model.specs.Flights.{flight}
use Rattle.world_model.specs.Threads.{Called, Call, Shape, out, shape_of_body, shape, shapes, Signal, asks, answers, signal_if, signal_on, signals, runs, asked, answered, View, seen, Locks, Ours, view, Interlock}
use Rattle.world_model.specs.Threads as th
use Rattle.world_laws.proofs.SignalLaws.{signals_append}
use Rattle.world_laws.proofs.SomebodyLaws.{has_somebody, upper_has}
use Rattle.world_laws.proofs.StayLaws.{AreSilent}

-- ---- lists

pub no_cell : {X Y : Type 0} (front : List X) (x : X) (rest : List X) → [] ≡ front ++ x ∷ rest → Y
no_cell [] x rest is = absurd (cc)
no_cell (y ∷ front) x rest is = absurd (cc)

pub alone : {X : Type 0} (y x : X) (front rest : List X) → y ∷ [] ≡ front ++ x ∷ rest → (front ≡ []) × (y ≡ x) × (rest ≡ [])
alone y x [] rest is = (refl, cc, cc)
alone y x (z ∷ front) rest is = let later : [] ≡ front ++ x ∷ rest = cc in no_cell front x rest later

both_none : {X : Type 0} (xs ys : List X) → xs ++ ys ≡ [] → (xs ≡ []) × (ys ≡ [])
both_none [] ys is = (refl, is)
both_none (x ∷ xs) ys is = absurd (cc)

pub in_append : {X : Type 0} (xs ys front rest : List X) (r : X) → xs ++ ys ≡ front ++ r ∷ rest → ((behind : List X) × (xs ≡ front ++ r ∷ behind)) ⊎ ((before : List X) × (ys ≡ before ++ r ∷ rest))
in_append [] ys front rest r is = inr (front, is)
in_append (x ∷ xs) ys [] rest r is = let heads : x ≡ r = cc in inl (xs, ap (λ z. z ∷ xs) heads)
in_append (x ∷ xs) ys (f ∷ front) rest r is =
    let heads : x ≡ f = cc in let tails : xs ++ ys ≡ front ++ r ∷ rest = cc in joins x f heads xs front (in_append xs ys front rest r tails)
  where
    joins : {X : Type 0} {ys rest : List X} {r : X} (x f : X) → x ≡ f → (xs front : List X) → ((behind : List X) × (xs ≡ front ++ r ∷ behind)) ⊎ ((before : List X) × (ys ≡ before ++ r ∷ rest))
        → ((behind : List X) × (x ∷ xs ≡ (f ∷ front) ++ r ∷ behind)) ⊎ ((before : List X) × (ys ≡ before ++ r ∷ rest))
    joins x f same xs front (inl (behind, is)) = inl (behind, λ i. same i ∷ is i)
    joins x f same xs front (inr later) = inr later

-- ---- the thread

-- the call that waits, and that the reply is alone
pub record Waits (v : View) (f : Called) (front rest : List Signal) : Type 0 where
  pub call : Call
  pub below : List Shape
  pub mine : v.mine ≡ out call ∷ below
  pub same : call.called ≡ f
  pub has : has_somebody below ≡ true
  pub none_before : front ≡ []
  pub none_behind : rest ≡ []

not_asked : {X : Type 0} (k : Call) (f : Called) → asks k ≡ answers f → X
not_asked k f is = absurd (cc)

same_called : (e f : Called) → answers e ≡ answers f → e ≡ f
same_called e f is = cc

pub reply_waits : (v : View) (f : Called) (front rest : List Signal) → v.to_me ≡ front ++ answers f ∷ rest → Locks v → Waits v f front rest
unfolding seen
reply_waits v f front rest comes (th.idle, real, inl is) = no_cell front (answers f) rest (sym (ap (λ (z : View). z.to_me) is) ∙ comes)
reply_waits v f front rest comes (th.idle, real, inr is) = no_cell front (answers f) rest (sym (ap (λ (z : View). z.to_me) is) ∙ comes)
reply_waits v f front rest comes (runs n cs, real, inl is) = no_cell front (answers f) rest (sym (ap (λ (z : View). z.to_me) is) ∙ comes)
reply_waits v f front rest comes (runs n cs, real, inr is) = no_cell front (answers f) rest (sym (ap (λ (z : View). z.to_me) is) ∙ comes)
reply_waits v f front rest comes (asked k n cs, real, inl is) = no_cell front (answers f) rest (sym (ap (λ (z : View). z.to_me) is) ∙ comes)
reply_waits v f front rest comes (asked k n cs, real, inr is) =
    let one = alone (asks k) (answers f) front rest (sym (ap (λ (z : View). z.to_me) is) ∙ comes) in not_asked k f one.1
reply_waits v f front rest comes (answered k n cs, real, inl is) =
    let one = alone (answers k.called) (answers f) front rest (sym (ap (λ (z : View). z.to_me) is) ∙ comes) in
    record { call = k; below = th.upper n cs; mine = ap (λ (z : View). z.mine) is; same = same_called k.called f one.1; has = upper_has n cs; none_before = one.0; none_behind = one.2 }
reply_waits v f front rest comes (answered k n cs, real, inr is) = no_cell front (answers f) rest (sym (ap (λ (z : View). z.to_me) is) ∙ comes)

-- ---- messages

reply_signal : (tid face : List ℕ) (function : ℕ) (a : Answer) → signal_on tid (reply tid face function a) ≡ answers (record { face = face; function = function }) ∷ []
unfolding signal_on signal_if
reply_signal tid face function a = ap (λ b. signal_if b (answers (record { face = face; function = function }))) ((bytes_eq-Decides tid tid).1 refl)

pub request_signal : (tid oid face : List ℕ) (function : ℕ) (args : List Plain) → signal_on tid (request tid oid face function args) ≡ asks (record { oid = oid; called = record { face = face; function = function } }) ∷ []
unfolding signal_on signal_if
request_signal tid oid face function args = ap (λ b. signal_if b (asks (record { oid = oid; called = record { face = face; function = function } }))) ((bytes_eq-Decides tid tid).1 refl)

pub reply_among : (tid face : List ℕ) (function : ℕ) (a : Answer) (front rest : List Message)
    → signals tid (front ++ reply tid face function a ∷ rest) ≡ signals tid front ++ answers (record { face = face; function = function }) ∷ signals tid rest
unfolding signals
reply_among tid face function a front rest =
    signals_append tid front (reply tid face function a ∷ rest) ∙ ap (λ ss. signals tid front ++ (ss ++ signals tid rest)) (reply_signal tid face function a)

pub silent_all : (tid : List ℕ) (ms : List Message) → signals tid ms ≡ [] → AreSilent tid ms
unfolding signals
silent_all tid [] none = tt
silent_all tid (m ∷ ms) none = let both = both_none (signal_on tid m) (signals tid ms) none in (both.0, silent_all tid ms both.1)

pub arrives_so : (reg : List Entity) (tid : List ℕ) (m : Message) → signal_on tid (arrived reg m) ≡ signal_on tid m
unfolding arrived signal_on
arrives_so reg tid (request t oid face function args) = refl
arrives_so reg tid (release t oid face) = refl
arrives_so reg tid (reply t face function a) = refl

-- ---- flights

pub flies_same : (x y : Told) (e : Entry) (u : Turn) → u.got ≡ [] → flight y (told_more x e u) ≡ flight y x
unfolding flight
flies_same x y e u none = ap (λ ms. drop (length ms) y.said) (ap (λ ms. x.got ++ ms) none ∙ append-nil x.got)

pub flies_less : (x y : Told) (e : Entry) (u : Turn) (m : Message) (ms : List Message) (got : Message) → flight y x ≡ m ∷ ms → u.got ≡ got ∷ [] → flight y (told_more x e u) ≡ ms
unfolding flight
flies_less x y e u m ms got flies one =
    let more : length (x.got ++ u.got) ≡ length x.got + 1 = ap (λ zs. length (x.got ++ zs)) one ∙ length-append x.got (got ∷ []) in
    ap (λ n. drop n y.said) more ∙ (sym (drop-drop 1 (length x.got) y.said) ∙ ap (drop 1) flies)

-- ---- frames

pub shape_out : (f : Frame) (k : Call) → shape f ≡ out k → (o : Outgoing) × (f ≡ outgoing o) × (k ≡ record { oid = o.oid; called = record { face = o.face; function = o.function } })
shape_out (base n) k is = absurd (cc)
shape_out (outgoing o) k is = (o, refl, cc)
shape_out (body b) k is = no_body b.from_peer is
  where
    no_body : {X : Type 0} (p : Bool) → shape_of_body p b ≡ out k → X
    no_body true same = absurd (cc)
    no_body false same = absurd (cc)

first_shape : (f : Frame) (fs : List Frame) (s : Shape) (ss : List Shape) → shapes (f ∷ fs) ≡ s ∷ ss → shape f ≡ s
first_shape f fs s ss is = cc

-- the call on top of a thread
pub record OnTop (fs : List Frame) (f : Called) : Type 0 where
  pub call : Outgoing
  pub below : List Frame
  pub top : fs ≡ outgoing call ∷ below
  pub same_face : call.face ≡ f.face
  pub same_function : call.function ≡ f.function
  pub has : has_somebody (shapes below) ≡ true

rest_shapes : (f : Frame) (fs : List Frame) (s : Shape) (ss : List Shape) → shapes (f ∷ fs) ≡ s ∷ ss → shapes fs ≡ ss
rest_shapes f fs s ss is = cc

pub on_top : (fs : List Frame) (k : Call) (ss : List Shape) (f : Called) → shapes fs ≡ out k ∷ ss → k.called ≡ f → has_somebody ss ≡ true → OnTop fs f
on_top [] k ss f is same has = absurd (cc)
on_top (z ∷ fs) k ss f is same has =
    let o = shape_out z k (first_shape z fs (out k) ss is) in
    record {
      call = o.0;
      below = fs;
      top = ap (λ y. y ∷ fs) o.1;
      same_face = ap (λ (c : Call). c.called.face) (sym o.2) ∙ ap (λ (c : Called). c.face) same;
      same_function = ap (λ (c : Call). c.called.function) (sym o.2) ∙ ap (λ (c : Called). c.function) same;
      has = subst (λ zs. has_somebody zs ≡ true) (sym (rest_shapes z fs (out k) ss is)) has;
    }

-- what Interlock says of a reply in flight
pub record Flies (fs : List Frame) (tid face : List ℕ) (function : ℕ) (front rest : List Message) : Type 0 where
  pub top : OnTop fs (record { face = face; function = function })
  pub before : AreSilent tid front

pub reply_flies : (ours : Ours) (x y : Told) (tid face : List ℕ) (function : ℕ) (a : Answer) (front rest : List Message) → Interlock ours x y → flight y x ≡ front ++ reply tid face function a ∷ rest
    → Flies (frames_of tid x.side.stacks) tid face function front rest
reply_flies ours x y tid face function a front rest locks flies =
    let w = reply_waits (view ours tid x y) (record { face = face; function = function }) (signals tid front) (signals tid rest) (ap (signals tid) flies ∙ reply_among tid face function a front rest) (locks tid) in
    record { top = on_top (frames_of tid x.side.stacks) w.call w.below (record { face = face; function = function }) w.mine w.same w.has; before = silent_all tid front w.none_before }
