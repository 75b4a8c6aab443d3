-- Where an end answers a call, the method that ends with the answer began with the request of that call, or its request is what is answered at once.
use Rattle.std.proofs.Common.{◌≡◌, refl, sym, ap, subst, ◌∙◌, ℕ, inl, inr, Bool, true, false, ◌==◌, eqb-true, List, [], ◌∷◌, length, drop, Some, if◌then◌else◌}
use Rattle.message_model.specs.Messages.{Message, Answer, request, release, reply}
use Rattle.message_model.specs.Sayable.{arrived}
use Rattle.uno_model.specs.Values.{Plain}
use Rattle.plan_model.specs.Frames.{Body, Outgoing, Frame, base, body, outgoing, frames_of}
use Rattle.bridge_model.specs.Applying.{effect_at}
use Rattle.bridge_model.specs.Entries.{Entry}
use Rattle.bridge_model.specs.Histories.{Told}
use Rattle.bridge_model.specs.Receiving.{below_top}
use Rattle.bridge_model.specs.Sides as side
use Rattle.bridge_model.specs.Steps.{Picked, picked, picked_in, Turn}
use Rattle.bridge_laws.specs.Outcomes.{Fate, nothing, for_root, for_method, for_peer, handed_down, fate_of, replies_by, replies_of_message, serving_in}
use Rattle.bridge_laws.proofs.ServingLaws.{serves_innermost, fate_serves}
use Rattle.world_model.specs.Flights.{flight, IsNext}
use Rattle.world_model.specs.Threads.{shape_of_body, shape, shapes, signals, seen, View, Ours, view, Interlock}
use Rattle.world_model.specs.Worlds.{Settings, World, Event}
use Rattle.world_model.specs.declared.side.Side.{Side}
use Rattle.world_laws.proofs.ThreadLaws.{is_method, running, reply_comes}
use Rattle.world_laws.specs.Calls.{EndsSo, by_statement, by_message}
use Rattle.world_laws.specs.Ends.{near, far, far_of}
use Rattle.world_laws.specs.Serving.{BeganWithRequest, IsItsOwn, by_its_method, by_its_request}
use Rattle.world_laws.proofs.AskedRuns.{Asked, is_made}
use Rattle.world_laws.proofs.CrossingFrames.{calls_in, begun_at, served_if, served_in}
use Rattle.world_laws.proofs.CrossingLaws.{reply_among, reply_flies}
use Rattle.world_laws.proofs.PairedLaws.{Each, all_served, outs, servings, calls_counted, methods_counted, calls_below}
use Rattle.world_laws.proofs.ServedRuns.{BeganAt, Serve, began_so, same_call, some_came, same_one, request_called}

-- ---- the innermost method that serves

same_picked : (p q : Picked) → Some p ≡ Some q → p ≡ q
same_picked p q is = cc

serving_first : (fs : List Frame) (b : Body) (under : List Frame) → serving_in fs ≡ Some (record { method = b; below = under }) → served_in fs ≡ begun_at b under ∷ served_in under
unfolding serving_in served_in
serving_first [] b under is = absurd (cc)
serving_first (base n ∷ fs) b under is = serving_first fs b under is
serving_first (outgoing o ∷ fs) b under is = serving_first fs b under is
serving_first (body c ∷ fs) b under is = by_peer c.from_peer is (λ later. serving_first fs b under later)
  where
    by_peer : (p : Bool) → (if p then Some (record { method = c; below = fs }) else serving_in fs) ≡ Some (record { method = b; below = under })
        → (serving_in fs ≡ Some (record { method = b; below = under }) → served_in fs ≡ begun_at b under ∷ served_in under) → served_if p (begun_at c fs) (served_in fs) ≡ begun_at b under ∷ served_in under
    by_peer true is later = let same = same_picked (record { method = c; below = fs }) (record { method = b; below = under }) is in ap (λ (q : Picked). begun_at q.method q.below ∷ served_in q.below) same
    by_peer false is later = later is

top_served : (R : List Frame → Picked → Type 0) (w : List Frame) (ws : List (List Frame)) (p : Picked) (ps : List Picked) → Each R (w ∷ ws) (p ∷ ps) → R w p
top_served R w ws p ps each = each.0

own_method : (g : Settings) (which : Side) (es : List Event) (x y : Told) (tid : List ℕ) (call : Outgoing) (below : List Frame) (served : Body) (under : List Frame) → Serve g which es x y tid
    → length (calls_in (frames_of tid x.side.stacks)) ≡ length (served_in (frames_of tid y.side.stacks)) → frames_of tid x.side.stacks ≡ outgoing call ∷ below
    → serving_in (frames_of tid y.side.stacks) ≡ Some (record { method = served; below = under }) → BeganWithRequest g which es tid call below served under
unfolding calls_in
own_method g which es x y tid call below served under k many top serving =
    let R = BeganAt g which es tid in
    let each = all_served R (calls_in (frames_of tid x.side.stacks)) (served_in (frames_of tid y.side.stacks)) many k in
    let began = top_served R (outgoing call ∷ below) (calls_in below) (begun_at served under) (served_in under)
    (subst (λ ps. Each R ((outgoing call ∷ below) ∷ calls_in below) ps) (serving_first (frames_of tid y.side.stacks) served under serving)
    (subst (λ fs. Each R (calls_in fs) (served_in (frames_of tid y.side.stacks))) top each)) in
    let same = same_call call began.0 below began.1 began.2 in
    subst (λ o. BeganWithRequest g which es tid o below served under) (sym same.0)
    (subst (λ fs. BeganWithRequest g which es tid began.0 fs served under) (sym same.1) (began_so g which es tid began.0 began.1 served under began.3))

-- ---- as many calls wait as methods serve

method_shape : (b : Body) (p : Bool) → is_method (shape_of_body p b) ≡ true
method_shape b true = refl
method_shape b false = refl

as_many : (ours : Ours) (x y : Told) (tid : List ℕ) → outs (shapes (frames_of tid x.side.stacks)) ≡ servings (shapes (frames_of tid y.side.stacks))
    → length (calls_in (frames_of tid x.side.stacks)) ≡ length (served_in (frames_of tid y.side.stacks))
as_many ours x y tid is = calls_counted (frames_of tid x.side.stacks) ∙ (is ∙ sym (methods_counted (frames_of tid y.side.stacks)))

running_many : (ours : Ours) (x y : Told) (tid : List ℕ) (b : Body) (fs : List Frame) → Interlock ours y x → frames_of tid y.side.stacks ≡ body b ∷ fs
    → length (calls_in (frames_of tid x.side.stacks)) ≡ length (served_in (frames_of tid y.side.stacks))
unfolding seen
running_many ours x y tid b fs locks at =
    let r = running (view ours tid y x) (shape (body b)) (shapes fs) (ap shapes at) (method_shape b b.from_peer) (locks tid) in
    as_many ours x y tid (ap (λ (v : View). outs v.theirs) r.is ∙ (calls_below r.here r.crossed ∙ sym (ap (λ (v : View). servings v.mine) r.is)))

answered_many : (ours : Ours) (x y : Told) (tid face : List ℕ) (function : ℕ) (a : Answer) (ms : List Message) → Interlock ours y x → flight x y ≡ reply tid face function a ∷ ms
    → length (calls_in (frames_of tid x.side.stacks)) ≡ length (served_in (frames_of tid y.side.stacks))
unfolding seen signals servings
answered_many ours x y tid face function a ms locks flies =
    let r = reply_comes (view ours tid y x) (record { face = face; function = function }) (signals tid ms) (ap (signals tid) flies ∙ reply_among tid face function a [] ms) (locks tid) in
    as_many ours x y tid (ap (λ (v : View). outs v.theirs) r.is ∙ (calls_below r.here r.crossed ∙ sym (ap (λ (v : View). servings v.mine) r.is)))

-- ---- an answer

picked_frames : (fs : List Frame) (p : Picked) → picked_in fs ≡ Some p → fs ≡ body p.method ∷ p.below
picked_frames [] p is = absurd (cc)
picked_frames (base n ∷ fs) p is = absurd (cc)
picked_frames (outgoing o ∷ fs) p is = absurd (cc)
picked_frames (body b ∷ fs) p is = ap (λ (q : Picked). body q.method ∷ q.below) (same_picked (record { method = b; below = fs }) p is)

module _ (g : Settings) (which : Side) (es : List Event) (w : World) (ours : Ours) (tid : List ℕ) (call : Outgoing) (below : List Frame) (serve : Serve g which es (near which w).last (far which w).now tid) (made : Asked g which es w) (current : (far which w).last ≡ (far which w).now)
    (locks : Interlock ours (far which w).now (near which w).last) (said : (near which w).now.said ≡ (near which w).last.said) (top : frames_of tid (near which w).last.side.stacks ≡ outgoing call ∷ below) where
  by_method : (u : Turn) (served : Body) (under : List Frame) → length (calls_in (frames_of tid (near which w).last.side.stacks)) ≡ length (served_in (frames_of tid (far which w).now.side.stacks))
      → serving_in (frames_of tid (far which w).now.side.stacks) ≡ Some (record { method = served; below = under }) → IsItsOwn g which es w tid call below u
  by_method u served under many serving = by_its_method served under serving (own_method g which es (near which w).last (far which w).now tid call below served under serve many top serving)

  statement_own : (u : Turn) (p : Picked) (served : Body) (under : List Frame) (a : Answer) → picked tid (far which w).now.side ≡ Some p
      → fate_of (far_of which g) tid p.method p.below (effect_at (far_of which g) tid p.method p.below (far which w).now.side.tables) (far which w).now.side.tables ≡ for_peer served under a
      → IsItsOwn g which es w tid call below u
  unfolding picked
  statement_own u p served under a at fate =
      let frames = picked_frames (frames_of tid (far which w).now.side.stacks) p at in
      by_method u served under (running_many ours (near which w).last (far which w).now tid p.method p.below locks frames)
      (ap serving_in frames ∙ fate_serves (far_of which g) tid p.method served p.below under _ (far which w).now.side.tables a fate)

  flies_last : (m : Message) (ms : List Message) → flight (near which w).now (far which w).now ≡ m ∷ ms → flight (near which w).last (far which w).now ≡ m ∷ ms
  unfolding flight
  flies_last m ms flies = ap (drop (length (far which w).now.got)) (sym said) ∙ flies

  flies_then : (m : Message) (ms : List Message) → flight (near which w).now (far which w).now ≡ m ∷ ms → flight (near which w).last (far which w).last ≡ m ∷ ms
  flies_then m ms flies = ap (flight (near which w).last) current ∙ flies_last m ms flies

  serving_below : (fs : List Frame) (o : Outgoing) (rest : List Frame) (p : Picked) → fs ≡ outgoing o ∷ rest → serving_in (below_top fs) ≡ Some p → serving_in fs ≡ Some p
  unfolding serving_in
  serving_below fs o rest p is serving = ap serving_in is ∙ (sym (ap (λ gs. serving_in (below_top gs)) is) ∙ serving)

  raised_own : (u : Turn) (f face : List ℕ) (n function : ℕ) (c d a : Answer) (ms : List Message) → flight (near which w).now (far which w).now ≡ reply tid f n c ∷ ms
      → (h : Fate) → handed_down (far_of which g).registry tid d (below_top (frames_of tid (far which w).now.side.stacks)) ≡ h → replies_by tid h ≡ reply tid face function a ∷ [] → IsItsOwn g which es w tid call below u
  raised_own u f face n function c d a ms flies nothing is says = absurd (cc)
  raised_own u f face n function c d a ms flies (for_root r e) is says = absurd (cc)
  raised_own u f face n function c d a ms flies (for_method b fs x xs) is says = absurd (cc)
  raised_own u f face n function c d a ms flies (for_peer served under e) is says =
      let last = flies_last _ ms flies in
      let on = (reply_flies ours (far which w).now (near which w).last tid f n c [] ms locks last).top in
      by_method u served under (answered_many ours (near which w).last (far which w).now tid f n c ms locks last)
      (serving_below (frames_of tid (far which w).now.side.stacks) on.call on.below _ on.top (serves_innermost (far_of which g).registry tid d e _ under served is))

  request_own : (u : Turn) (oid face : List ℕ) (function : ℕ) (sent : List Plain) (ms : List Message) → flight (near which w).now (far which w).now ≡ request tid oid face function sent ∷ ms
      → u.got ≡ arrived g.registry (request tid oid face function sent) ∷ [] → function ≡ 0 → IsItsOwn g which es w tid call below u
  request_own u oid face function sent ms flies got zero =
      let c = request_called g.registry ours (far which w).now (near which w).last tid oid face function sent ms locks (flies_last _ ms flies) in
      let same = same_call c.call call c.below below (sym c.top ∙ top) in
      let none : call.function ≡ 0 = sym (ap (λ (o : Outgoing). o.function) same.0) ∙ (same_function c.call c.sent c.is ∙ zero) in
      let is : request tid oid face function sent ≡ request tid call.oid call.face 0 c.sent =
      c.is ∙ (ap (λ (o : Outgoing). request tid o.oid o.face o.function c.sent) same.0 ∙ ap (λ n. request tid call.oid call.face n c.sent) none) in
      by_its_request c.sent ms none (is_made g which es w made tid call below c.sent ms top (flies_then _ ms flies ∙ (ap (λ m. m ∷ ms) c.is ∙ ap (λ (o : Outgoing). request tid o.oid o.face o.function c.sent ∷ ms) same.0))) (flies ∙ ap (λ m. m ∷ ms) is) (got ∙ ap (λ m. arrived g.registry m ∷ []) is)
    where
      same_function : (o : Outgoing) (xs : List Plain) → request tid oid face function sent ≡ request tid o.oid o.face o.function xs → o.function ≡ function
      same_function o xs is = cc

  at_once_own : (u : Turn) (k oid f face : List ℕ) (n function : ℕ) (sent : List Plain) (c a : Answer) (ms : List Message) → flight (near which w).now (far which w).now ≡ request k oid f n sent ∷ ms
      → u.got ≡ arrived g.registry (request k oid f n sent) ∷ [] → (b : Bool) → (n == 0) ≡ b → (if b then reply k f 0 c ∷ [] else []) ≡ reply tid face function a ∷ [] → IsItsOwn g which es w tid call below u
  at_once_own u k oid f face n function sent c a ms flies got true is says =
      let one : k ≡ tid = cc in
      request_own u oid f n sent ms (flies ∙ ap (λ z. request z oid f n sent ∷ ms) one) (got ∙ ap (λ z. arrived g.registry (request z oid f n sent) ∷ []) one) (eqb-true n 0 is)
  at_once_own u k oid f face n function sent c a ms flies got false is says = absurd (cc)

  said_thread : (k face : List ℕ) (function : ℕ) (h : Fate) (a : Answer) → replies_by k h ≡ reply tid face function a ∷ [] → k ≡ tid
  said_thread k face function nothing a says = absurd (cc)
  said_thread k face function (for_root r e) a says = absurd (cc)
  said_thread k face function (for_method b fs x xs) a says = absurd (cc)
  said_thread k face function (for_peer b fs e) a says = cc

  handed_own : (u : Turn) (k f face : List ℕ) (n function : ℕ) (c d a : Answer) (ms : List Message) → flight (near which w).now (far which w).now ≡ reply k f n c ∷ ms → k ≡ tid
      → replies_by k (handed_down (far_of which g).registry k d (below_top (frames_of k (far which w).now.side.stacks))) ≡ reply tid face function a ∷ [] → IsItsOwn g which es w tid call below u
  handed_own u k f face n function c d a ms flies one says =
      raised_own u f face n function c d a ms (flies ∙ ap (λ z. reply z f n c ∷ ms) one) _ refl
      (sym (ap (λ z. replies_by z (handed_down (far_of which g).registry z d (below_top (frames_of z (far which w).now.side.stacks)))) one) ∙ says)

  message_own : (u : Turn) (face : List ℕ) (function : ℕ) (a : Answer) (m : Message) (ms : List Message) → flight (near which w).now (far which w).now ≡ m ∷ ms → u.got ≡ arrived g.registry m ∷ []
      → replies_of_message (far_of which g) (far which w).now.side.tables (far which w).now.side.stacks (arrived g.registry m) ≡ reply tid face function a ∷ [] → IsItsOwn g which es w tid call below u
  unfolding arrived replies_of_message
  message_own u face function a (release k oid f) ms flies got says = absurd (cc)
  message_own u face function a (request k oid f n sent) ms flies got says = at_once_own u k oid f face n function sent _ a ms flies got (n == 0) refl says
  message_own u face function a (reply k f n c) ms flies got says = handed_own u k f face n function c _ a ms flies (said_thread k face function _ a says) says

  pub own_answer : (face : List ℕ) (function : ℕ) (a : Answer) (e : Entry) (u : Turn) → IsNext g.registry (flight (near which w).now (far which w).now) u.got
      → EndsSo (far_of which g) (far which w).now.side tid face function a e u → IsItsOwn g which es w tid call below u
  own_answer face function a e u next (by_statement v p at served under fate same alike) = statement_own u p served under a at fate
  own_answer face function a e u (inl none) (by_message bytes v m one says) = some_came u.got m none one
  own_answer face function a e u (inr (k, ms, flies, got)) (by_message bytes v m one says) =
      message_own u face function a k ms flies got
      (subst (λ z. replies_of_message (far_of which g) (far which w).now.side.tables (far which w).now.side.stacks z ≡ reply tid face function a ∷ []) (same_one m (arrived g.registry k) (sym one ∙ got)) says)
