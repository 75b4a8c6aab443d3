-- What a root has is held while answers are handed down, to it and to others, and frames end.
use Rattle.std.proofs.Common.{◌≡◌, refl, ap, subst, ◌∙◌, ℕ, ◌+◌, ◌≤◌, Bool, true, false, ◌==◌, eqb-true, if◌then◌else◌, List, [], ◌∷◌, ◌++◌, Option, None, Some, arith}
use Rattle.message_model.specs.Messages.{Answer, returned, raised, reply}
use Rattle.uno_model.specs.Values.{Ref, Plain, refs}
use Rattle.uno_model.specs.Values as v
use Rattle.table_model.specs.Holdings.{Hold}
use Rattle.table_model.specs.declared.holder.Holder.{Holder}
use Rattle.table_model.specs.declared.holder.Holder.TheVariants as holder
use Rattle.plan_model.specs.Frames.{Body, Frame, base, body, outgoing}
use Rattle.plan_model.specs.Holdings.{let_go_at_end, is_taken, reference_of, takes_reference}
use Rattle.plan_model.specs.Leaving.{leaving_frame}
use Rattle.uno_model.specs.Entities.{Entity}
use Rattle.bridge_model.specs.Calls.{Unwound, unwound}
use Rattle.bridge_model.specs.Handing.{statement_at, taken_by, goes_on_with, root_gets, lets_go_frame, answers_peer, holder_of, gains_below, takes_with, takes_below, hands_over, hands, hands_down, ends_frame, hands_from_peer}
use Rattle.bridge_model.specs.References.{says, refs_of_answer}
use Rattle.bridge_model.specs.Settings.{Setting, own_oid}
use Rattle.bridge_model.specs.Sides.{RootState, idle, waits_call, waits_query, answered, answer, Tables, state_of, with_root}
use Rattle.bridge_laws.specs.Counting.{total}
use Rattle.bridge_laws.proofs.FrameLaws.{root_answered, stay_gains_below}
use Rattle.bridge_laws.proofs.HandingLaws.{top_owes, returned_owes, root_gets_covers, gains_below_covers, takes_below_covers, hands_covers}
use Rattle.bridge_laws.proofs.OccurrenceLaws.{ref_owes, refs_owe, Covers}
use Rattle.bridge_laws.proofs.RootStateLaws.{Stay, state_other, stay_takes_all, stay_lets_go_all}
use Rattle.bridge_laws.proofs.VariableLaws.{with_variable_owes, takes_reference_owes, under_none, values_none}
use Rattle.bridge_laws.proofs.StateLaws.{state_counts, owed_in, Rooted, answered_counts, set_counts, not_same, moved_to, unwound_in, lets_go_rooted, frame_owes, frames_owe_none}

-- ---- a root gets an answer

-- the answer to a query is taken or let go, and no more than it had
pub reference_parts : (f : Ref → ℕ) (reg : List Entity) (wanted : List ℕ) (x : Plain)
    → total f (refs (v.ref (reference_of reg wanted x))) + total f (if is_taken reg wanted x then [] else refs x) ≤ total f (refs x)
unfolding takes_reference
reference_parts f reg wanted x =
    let more = with_variable_owes f [] (v.ref (reference_of reg wanted x)) [] in
    let parts = takes_reference_owes f reg wanted [] x [] in
    let none = under_none f in omega arith

answered_in : (h : Hold) (k n : ℕ) (a : Answer) (t : Tables) → Covers h (n + refs_owe h (holder.Root k) (refs_of_answer a)) t → Rooted h k n (with_root k (answered (answer a)) t)
answered_in h k n a t fine = let most = set_counts (ref_owes h (holder.Root k)) k (answered (answer a)) t.roots in let is = answered_counts (ref_owes h (holder.Root k)) a in omega arith

reference_in : (g : Setting) (h : Hold) (k n : ℕ) (wanted : List ℕ) (x : Plain) (outs : List Plain) (t : Tables)
    → Covers h (n + refs_owe h (holder.Root k) (refs_of_answer (returned x outs))) t
    → Rooted h k (n + refs_owe h (holder.Root k) (if is_taken g.registry wanted x then [] else refs x)) (with_root k (answered (answer (returned (v.ref (reference_of g.registry wanted x)) []))) t)
reference_in g h k n wanted x outs t fine =
    let parts = reference_parts (ref_owes h (holder.Root k)) g.registry wanted x in
    let whole = returned_owes (ref_owes h (holder.Root k)) x outs in
    let kept = returned_owes (ref_owes h (holder.Root k)) (v.ref (reference_of g.registry wanted x)) [] in
    let none = values_none (ref_owes h (holder.Root k)) in
    answered_in h k (n + refs_owe h (holder.Root k) (if is_taken g.registry wanted x then [] else refs x)) (returned (v.ref (reference_of g.registry wanted x)) []) t (omega arith)

gets_own : (g : Setting) (h : Hold) (k : ℕ) (s : RootState) (a : Answer) (n : ℕ) (t : Tables) → Covers h (n + refs_owe h (holder.Root k) (refs_of_answer a)) t
    → Rooted h k n (root_gets g k s a t)
unfolding root_gets
gets_own g h k (waits_query wanted) (returned x outs) n t fine =
    lets_go_rooted g h k (holder.Root k) (if is_taken g.registry wanted x then [] else refs x) n
    (with_root k (answered (answer (returned (v.ref (reference_of g.registry wanted x)) []))) t)
    (reference_in g h k n wanted x outs t fine)
gets_own g h k (waits_query wanted) (raised j x) n t fine = answered_in h k n (raised j x) t fine
gets_own g h k idle a n t fine = answered_in h k n a t fine
gets_own g h k waits_call a n t fine = answered_in h k n a t fine
gets_own g h k (answered o) a n t fine = answered_in h k n a t fine

gets_by : (g : Setting) (h : Hold) (k root : ℕ) (s : RootState) (a : Answer) (n : ℕ) (t : Tables) (b : Bool) → (k == root) ≡ b
    → Rooted h k (n + refs_owe h (holder.Root root) (refs_of_answer a)) t → Rooted h k n (root_gets g root s a t)
gets_by g h k root s a n t true is fine =
    subst (λ r. Rooted h k (n + refs_owe h (holder.Root r) (refs_of_answer a)) t → Rooted h k n (root_gets g r s a t)) (eqb-true k root is)
    (λ own. gets_own g h k s a n t (omega arith)) fine
gets_by g h k root s a n t false is fine =
    let got = root_answered g root s a t in
    let same : owed_in h k (root_gets g root s a t).roots ≡ owed_in h k t.roots =
    ap (owed_in h k) got.1 ∙ ap (state_counts (ref_owes h (holder.Root k))) (state_other root k (answered got.0) t.roots (not_same k root is)) in
    let kept = root_gets_covers g root s a h (n + owed_in h k t.roots) t (omega arith) in omega arith

-- what an answer brings to a root becomes its outcome, or is let go
pub gets_rooted : (g : Setting) (h : Hold) (k root : ℕ) (s : RootState) (a : Answer) (n : ℕ) (t : Tables)
    → Rooted h k (n + refs_owe h (holder.Root root) (refs_of_answer a)) t → Rooted h k n (root_gets g root s a t)
gets_rooted g h k root s a n t fine = gets_by g h k root s a n t (k == root) refl fine

-- ---- what others hold

pub gains_below_rooted : (h : Hold) (k : ℕ) (fs : List Frame) (a : Answer) (n : ℕ) (t : Tables) → Rooted h k n t → Rooted h k (n + top_owes h fs (refs_of_answer a)) (gains_below fs a t)
gains_below_rooted h k fs a n t fine =
    moved_to h k n (top_owes h fs (refs_of_answer a)) t (gains_below fs a t) (stay_gains_below fs a t) (gains_below_covers fs a h (n + owed_in h k t.roots) t fine)

stay_takes_with : (g : Setting) (who : Option Holder) (rs : List Ref) (t : Tables) → Stay t (takes_with g who rs t)
stay_takes_with g None rs t = refl
stay_takes_with g (Some who) rs t = stay_takes_all g who rs t

pub stay_takes_below : (g : Setting) (fs : List Frame) (a : Answer) (t : Tables) → Stay t (takes_below g fs a t)
stay_takes_below g [] a t = refl
stay_takes_below g (f ∷ fs) a t = stay_takes_with g (holder_of f) (refs_of_answer a) t

takes_below_rooted : (g : Setting) (h : Hold) (k : ℕ) (fs : List Frame) (a : Answer) (n : ℕ) (t : Tables) → Rooted h k n t
    → Rooted h k (n + top_owes h fs (refs_of_answer a)) (takes_below g fs a t)
takes_below_rooted g h k fs a n t fine =
    moved_to h k n (top_owes h fs (refs_of_answer a)) t (takes_below g fs a t) (stay_takes_below g fs a t) (takes_below_covers g fs a h (n + owed_in h k t.roots) t fine)

-- a method that goes on leaves roots as they are
pub went_on : (g : Setting) (tid : List ℕ) (x : Plain) (outs : List Plain) (b : Body) (fs : List Frame) (t : Tables) → Stay t (hands g tid (returned x outs) (body b ∷ fs) t).tables
unfolding hands goes_on_with
went_on g tid x outs b fs t =
    let taken = taken_by g (statement_at g t.objects b) x outs b.variables in stay_lets_go_all g (holder.Frame b.number) taken.let_go t

module _ (g : Setting) (h : Hold) (k : ℕ) (of_root : h.holder ≡ holder.Root k) where
  frame_gone : (b : Body) (extra : List Ref) (n : ℕ) (t : Tables) → Rooted h k n t → Rooted h k n (lets_go_frame g b extra t)
  frame_gone b extra n t fine =
      let none = frame_owes h k of_root b.number (extra ++ let_go_at_end (own_oid g b.object) b) in
      lets_go_rooted g h k (holder.Frame b.number) (extra ++ let_go_at_end (own_oid g b.object) b) n t (omega arith)

  peer_answered : (tid : List ℕ) (b : Body) (extra : List Ref) (a : Answer) (n : ℕ) (t : Tables) → Rooted h k n t → Rooted h k n (answers_peer g tid b extra a t)
  unfolding says
  peer_answered tid b extra a n t fine = frame_gone b extra n (says g (reply tid b.face b.function a) t) fine

  handed_over : (b : Body) (extra : List Ref) (a : Answer) (fs : List Frame) (n : ℕ) (t : Tables) → Rooted h k n t → Rooted h k (n + top_owes h fs (refs_of_answer a)) (hands_over g b extra a fs t)
  handed_over b extra a fs n t fine = frame_gone b extra (n + top_owes h fs (refs_of_answer a)) (gains_below fs a t) (gains_below_rooted h k fs a n t fine)

  -- ---- handing

  either_rooted : (n : ℕ) (b : Bool) (u v : Unwound) → Rooted h k n u.tables → Rooted h k n v.tables → Rooted h k n (if b then u else v).tables
  either_rooted n true u v one two = one
  either_rooted n false u v one two = two

  pub hands_rooted : (tid : List ℕ) (a : Answer) (fs : List Frame) (n : ℕ) (t : Tables) → Rooted h k (n + top_owes h fs (refs_of_answer a)) t → Rooted h k n (hands g tid a fs t).tables
  unfolding hands
  hands_rooted tid a [] n t fine = omega arith
  hands_rooted tid a (base root ∷ fs) n t fine = gets_rooted g h k root (state_of root t.roots) a n t fine
  hands_rooted tid a (outgoing o ∷ fs) n t fine = omega arith
  hands_rooted tid (returned x outs) (body b ∷ fs) n t fine =
      let none = frames_owe_none g h k of_root (body b ∷ fs) in
      unwound_in g h k n t (hands g tid (returned x outs) (body b ∷ fs) t) (went_on g tid x outs b fs t)
      (hands_covers g tid (returned x outs) (body b ∷ fs) h (n + owed_in h k t.roots) t (omega arith))
  hands_rooted tid (raised j x) (body b ∷ fs) n t fine =
      let left = leaving_frame g.registry tid b (raised j x) in
      let still : Rooted h k n t = omega arith in
      either_rooted n b.from_peer
      (unwound fs (answers_peer g tid b (refs x) (leaving_frame g.registry tid b (raised j x)) t))
      (hands g tid (leaving_frame g.registry tid b (raised j x)) fs (hands_over g b (refs x) (leaving_frame g.registry tid b (raised j x)) fs t))
      (peer_answered tid b (refs x) (leaving_frame g.registry tid b (raised j x)) n t still)
      (hands_rooted tid (leaving_frame g.registry tid b (raised j x)) fs n (hands_over g b (refs x) (leaving_frame g.registry tid b (raised j x)) fs t)
      (handed_over b (refs x) (leaving_frame g.registry tid b (raised j x)) fs n t still))

  handed_down : (tid : List ℕ) (b : Body) (a : Answer) (fs : List Frame) (n : ℕ) (t : Tables) → Rooted h k n t → Rooted h k n (hands_down g tid b a fs t).tables
  handed_down tid b (returned x outs) fs n t fine =
      frame_gone b [] n (hands g tid (returned x outs) fs (gains_below fs (returned x outs) t)).tables
      (hands_rooted tid (returned x outs) fs n (gains_below fs (returned x outs) t) (gains_below_rooted h k fs (returned x outs) n t fine))
  handed_down tid b (raised j x) fs n t fine =
      hands_rooted tid (raised j x) fs n (hands_over g b [] (raised j x) fs t) (handed_over b [] (raised j x) fs n t fine)

  pub ends_frame_rooted : (tid : List ℕ) (b : Body) (a : Answer) (fs : List Frame) (n : ℕ) (t : Tables) → Rooted h k n t → Rooted h k n (ends_frame g tid b a fs t).tables
  unfolding ends_frame
  ends_frame_rooted tid b a fs n t fine =
      either_rooted n b.from_peer (unwound fs (answers_peer g tid b [] a t)) (hands_down g tid b a fs t) (peer_answered tid b [] a n t fine) (handed_down tid b a fs n t fine)

  pub from_peer_rooted : (tid : List ℕ) (a : Answer) (fs : List Frame) (n : ℕ) (t : Tables) → Rooted h k n t → Rooted h k n (hands_from_peer g tid a fs t).tables
  unfolding hands_from_peer
  from_peer_rooted tid a fs n t fine = hands_rooted tid a fs n (takes_below g fs a t) (takes_below_rooted g h k fs a n t fine)
