-- What stands behind messages while answers are handed down and frames end: a reply refers to what its frame has, which is let go behind it.
use Rattle.std.proofs.Common.{◌≡◌, ℕ, ◌+◌, Bool, true, false, if◌then◌else◌, List, [], ◌∷◌, ◌++◌, Option, None, Some, refl, arith}
use Rattle.message_model.specs.Messages.{Answer, returned, raised, reply}
use Rattle.uno_model.specs.Values.{Ref, own, Plain, refs}
use Rattle.uno_model.specs.Values as v
use Rattle.table_model.specs.Holdings.{Hold, holders}
use Rattle.table_model.specs.Pair.{Pair}
use Rattle.table_model.specs.declared.holder.Holder.{Holder}
use Rattle.table_model.specs.declared.holder.Holder.TheVariants as holder
use Rattle.plan_model.specs.Frames.{Body, Frame, base, body, outgoing}
use Rattle.plan_model.specs.Holdings.{let_go_at_end, refs_under, reference_of, is_taken}
use Rattle.plan_model.specs.Leaving.{leaving_frame}
use Rattle.bridge_model.specs.Calls.{Unwound, unwound}
use Rattle.bridge_model.specs.Handing.{statement_at, taken_by, goes_on_with, root_gets, lets_go_frame, answers_peer, holder_of, gains_with, gains_below, takes_with, takes_below, hands_over, hands, hands_down, ends_frame, hands_from_peer}
use Rattle.bridge_model.specs.References.{says, refs_of_answer}
use Rattle.bridge_model.specs.Settings.{Setting, is_own, own_oid}
use Rattle.bridge_model.specs.Sides.{RootState, idle, waits_call, waits_query, answered, answer, Tables, state_of, with_root}
use Rattle.bridge_laws.specs.Counting.{total}
use Rattle.bridge_laws.specs.Standing.{uses}
use Rattle.bridge_laws.proofs.BackingLaws.{own_told}
use Rattle.bridge_laws.proofs.EffectLaws.{leaving_frame_counts}
use Rattle.bridge_laws.proofs.FrameCountLaws.{frames_count, body_counts}
use Rattle.bridge_laws.proofs.HandingLaws.{frames_have, body_has, method_more, taken_by_owes, returned_owes, raised_owes, Handed, gains_below_covers, takes_below_covers, hands_over_covers}
use Rattle.bridge_laws.proofs.OccurrenceLaws.{ref_owes, Covers}
use Rattle.bridge_laws.proofs.PaidHandingLaws.{leaving_backed, handed_backed}
use Rattle.bridge_laws.proofs.PayingLaws.{peers, stray, strays, Backed}
use Rattle.bridge_laws.proofs.StandingTableLaws.{Upholds, upheld_on, upholds_same, used_held, upholds_says, upholds_gains_all, upholds_takes_all, upholds_lets_go_all}
use Rattle.bridge_laws.proofs.Sums.{total_append, total_push}
use Rattle.bridge_laws.proofs.VariableLaws.{untaken_owes}

-- either way
pub unwound_upholds : (p : Pair) (b : Bool) (t : Tables) (u w : Unwound) → Upholds p t u.tables → Upholds p t w.tables → Upholds p t (if b then u else w).tables
unwound_upholds p true t u w x y = x
unwound_upholds p false t u w x y = y

reply_uses : (p : Pair) (tid face : List ℕ) (function : ℕ) (a : Answer) → uses p (reply tid face function a) ≡ total (peers p) (refs_of_answer a)
unfolding uses peers
reply_uses p tid face function a = refl

-- a reply whose references are backed
pub upholds_reply : (p : Pair) (g : Setting) (tid face : List ℕ) (function : ℕ) (a : Answer) (t : Tables) → Backed p (refs_of_answer a) t
    → Upholds p t (says g (reply tid face function a) t)
upholds_reply p g tid face function a t back =
    let same = reply_uses p tid face function a in
    upholds_says p g (reply tid face function a) t (λ used. used_held (holders p t.holdings) (total (peers p) (refs_of_answer a)) back (omega arith))

-- ---- holding for the frame below

gains_with_upholds : (p : Pair) (who : Option Holder) (rs : List Ref) (t : Tables) → Upholds p t (gains_with who rs t)
gains_with_upholds p None rs t = upholds_same p t
gains_with_upholds p (Some who) rs t = upholds_gains_all p who rs t

pub gains_below_upholds : (p : Pair) (fs : List Frame) (a : Answer) (t : Tables) → Upholds p t (gains_below fs a t)
gains_below_upholds p [] a t = upholds_same p t
gains_below_upholds p (f ∷ fs) a t = gains_with_upholds p (holder_of f) (refs_of_answer a) t

takes_with_upholds : (p : Pair) (g : Setting) (who : Option Holder) (rs : List Ref) (t : Tables) → Upholds p t (takes_with g who rs t)
takes_with_upholds p g None rs t = upholds_same p t
takes_with_upholds p g (Some who) rs t = upholds_takes_all p g who rs t

takes_below_upholds : (p : Pair) (g : Setting) (fs : List Frame) (a : Answer) (t : Tables) → Upholds p t (takes_below g fs a t)
takes_below_upholds p g [] a t = upholds_same p t
takes_below_upholds p g (f ∷ fs) a t = takes_with_upholds p g (holder_of f) (refs_of_answer a) t

module _ (g : Setting) (p : Pair) (foreign : is_own g p.oid ≡ false) where
  -- ---- going on with an answer

  goes_on_with_upholds : (b : Body) (x : Plain) (outs : List Plain) (fs : List Frame) (t : Tables)
      → strays g (refs_under b.variables) ≡ 0 → strays g (refs_of_answer (returned x outs)) ≡ 0 → Upholds p t (goes_on_with g b x outs fs t).tables
  unfolding goes_on_with
  goes_on_with_upholds b x outs fs t variables told =
      let parts = returned_owes (stray g) x outs in
      let enough = taken_by_owes (stray g) g (statement_at g t.objects b) x outs b.variables in
      upholds_lets_go_all g p foreign (holder.Frame b.number) (taken_by g (statement_at g t.objects b) x outs b.variables).let_go t (omega arith)

  pub root_gets_upholds : (root : ℕ) (s : RootState) (a : Answer) (t : Tables) → strays g (refs_of_answer a) ≡ 0 → Upholds p t (root_gets g root s a t)
  unfolding root_gets
  root_gets_upholds root (waits_query wanted) (returned x outs) t told =
      let parts = returned_owes (stray g) x outs in
      let untaken = untaken_owes (stray g) g.registry wanted x in
      upholds_lets_go_all g p foreign (holder.Root root) (if is_taken g.registry wanted x then [] else refs x)
      (with_root root (answered (answer (returned (v.ref (reference_of g.registry wanted x)) []))) t) (omega arith)
  root_gets_upholds root (waits_query wanted) (raised k x) t told = upholds_same p t
  root_gets_upholds root idle a t told = upholds_same p t
  root_gets_upholds root waits_call a t told = upholds_same p t
  root_gets_upholds root (answered o) a t told = upholds_same p t

  -- ---- frames that end

  lets_go_frame_upholds : (b : Body) (extra : List Ref) (t : Tables) → strays g (refs_under b.variables) ≡ 0 → strays g extra ≡ 0 → Upholds p t (lets_go_frame g b extra t)
  unfolding let_go_at_end
  lets_go_frame_upholds b extra t variables told =
      let parts = total_append (stray g) extra (let_go_at_end (own_oid g b.object) b) in
      let last = total_push (stray g) (refs_under b.variables) (own (own_oid g b.object) b.face) in
      let itself = own_told g b.object b.face in
      upholds_lets_go_all g p foreign (holder.Frame b.number) (extra ++ let_go_at_end (own_oid g b.object) b) t (omega arith)

  -- the reply is said first
  answers_peer_upholds : (tid : List ℕ) (b : Body) (extra : List Ref) (a : Answer) (t : Tables) → strays g (refs_under b.variables) ≡ 0 → strays g extra ≡ 0
      → Backed p (refs_of_answer a) t → Upholds p t (answers_peer g tid b extra a t)
  answers_peer_upholds tid b extra a t variables told back =
      upheld_on (upholds_reply p g tid b.face b.function a t back) (lets_go_frame_upholds b extra (says g (reply tid b.face b.function a) t) variables told)

  hands_over_upholds : (b : Body) (extra : List Ref) (a : Answer) (fs : List Frame) (t : Tables) → strays g (refs_under b.variables) ≡ 0 → strays g extra ≡ 0
      → Upholds p t (hands_over g b extra a fs t)
  hands_over_upholds b extra a fs t variables told = upheld_on (gains_below_upholds p fs a t) (lets_go_frame_upholds b extra (gains_below fs a t) variables told)

  -- ---- handing

  pub hands_upholds : (tid : List ℕ) (a : Answer) (fs : List Frame) (n : Hold → ℕ) (t : Tables) → strays g (refs_of_answer a) ≡ 0 → frames_count (stray g) fs ≡ 0
      → ((h : Hold) → Handed g h (n h) fs a t) → Upholds p t (hands g tid a fs t).tables
  unfolding hands
  hands_upholds tid a [] n t told frames fine = upholds_same p t
  hands_upholds tid a (base root ∷ fs) n t told frames fine = root_gets_upholds root (state_of root t.roots) a t told
  hands_upholds tid a (outgoing o ∷ fs) n t told frames fine = upholds_same p t
  hands_upholds tid (returned x outs) (body b ∷ fs) n t told frames fine =
      let all = body_counts (stray g) b fs in
      goes_on_with_upholds b x outs fs t (omega arith) told
  hands_upholds tid (raised k x) (body b ∷ fs) n t told frames fine =
      let all = body_counts (stray g) b fs in
      let parts = raised_owes (stray g) k x in
      let left = leaving_frame_counts (stray g) g.registry tid b (raised k x) in
      unwound_upholds p b.from_peer t
      (unwound fs (answers_peer g tid b (refs x) (leaving_frame g.registry tid b (raised k x)) t))
      (hands g tid (leaving_frame g.registry tid b (raised k x)) fs (hands_over g b (refs x) (leaving_frame g.registry tid b (raised k x)) fs t))
      (answers_peer_upholds tid b (refs x) (leaving_frame g.registry tid b (raised k x)) t (omega arith) (omega arith)
      (leaving_backed p g tid b (raised k x) t (handed_backed g p b fs (raised k x) n t fine)))
      (upheld_on
      (hands_over_upholds b (refs x) (leaving_frame g.registry tid b (raised k x)) fs t (omega arith) (omega arith))
      (hands_upholds tid (leaving_frame g.registry tid b (raised k x)) fs n (hands_over g b (refs x) (leaving_frame g.registry tid b (raised k x)) fs t) (omega arith) (omega arith)
      (λ h.
      let here = fine h in
      let more = method_more g h b fs in
      let holds = raised_owes (ref_owes h (holder.Frame b.number)) k x in
      let over = hands_over_covers g b (refs x) (leaving_frame g.registry tid b (raised k x)) fs h (n h + frames_have g h fs) t (omega arith) in omega arith)))

  -- ---- the end of a frame

  hands_down_upholds : (tid : List ℕ) (b : Body) (a : Answer) (fs : List Frame) (n : Hold → ℕ) (t : Tables) → strays g (refs_of_answer a) ≡ 0 → frames_count (stray g) (body b ∷ fs) ≡ 0
      → ((h : Hold) → Covers h (n h + frames_have g h (body b ∷ fs)) t) → Upholds p t (hands_down g tid b a fs t).tables
  unfolding total
  hands_down_upholds tid b (returned x outs) fs n t told frames fine =
      let all = body_counts (stray g) b fs in
      upheld_on (gains_below_upholds p fs (returned x outs) t)
      (upheld_on
      (hands_upholds tid (returned x outs) fs (λ h. n h + body_has g h b) (gains_below fs (returned x outs) t) told (omega arith)
      (λ h.
      let here = fine h in
      let more = method_more g h b fs in
      let gained = gains_below_covers fs (returned x outs) h (n h + frames_have g h (body b ∷ fs)) t (fine h) in omega arith))
      (lets_go_frame_upholds b [] (hands g tid (returned x outs) fs (gains_below fs (returned x outs) t)).tables (omega arith) refl))
  hands_down_upholds tid b (raised k x) fs n t told frames fine =
      let all = body_counts (stray g) b fs in
      upheld_on (hands_over_upholds b [] (raised k x) fs t (omega arith) refl)
      (hands_upholds tid (raised k x) fs n (hands_over g b [] (raised k x) fs t) told (omega arith)
      (λ h.
      let here = fine h in
      let more = method_more g h b fs in
      let over = hands_over_covers g b [] (raised k x) fs h (n h + frames_have g h fs) t (omega arith) in omega arith))

  pub ends_frame_upholds : (tid : List ℕ) (b : Body) (a : Answer) (fs : List Frame) (n : Hold → ℕ) (t : Tables) → strays g (refs_of_answer a) ≡ 0 → frames_count (stray g) (body b ∷ fs) ≡ 0
      → Backed p (refs_of_answer a) t → ((h : Hold) → Covers h (n h + frames_have g h (body b ∷ fs)) t) → Upholds p t (ends_frame g tid b a fs t).tables
  unfolding ends_frame total
  ends_frame_upholds tid b a fs n t told frames back fine =
      let all = body_counts (stray g) b fs in
      unwound_upholds p b.from_peer t (unwound fs (answers_peer g tid b [] a t)) (hands_down g tid b a fs t)
      (answers_peer_upholds tid b [] a t (omega arith) refl back)
      (hands_down_upholds tid b a fs n t told frames fine)

  -- ---- an answer of the peer's

  pub hands_from_peer_upholds : (tid : List ℕ) (a : Answer) (fs : List Frame) (n : Hold → ℕ) (t : Tables) → strays g (refs_of_answer a) ≡ 0 → frames_count (stray g) fs ≡ 0
      → ((h : Hold) → Covers h (n h + frames_have g h fs) t) → Upholds p t (hands_from_peer g tid a fs t).tables
  unfolding hands_from_peer
  hands_from_peer_upholds tid a fs n t told frames fine =
      upheld_on (takes_below_upholds p g fs a t)
      (hands_upholds tid a fs n (takes_below g fs a t) told frames
      (λ h. let taken = takes_below_covers g fs a h (n h + frames_have g h fs) t (fine h) in omega arith))
