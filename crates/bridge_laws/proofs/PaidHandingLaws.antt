-- What is paid while answers are handed down and frames end.
use Rattle.std.proofs.Common.{◌≡◌, ℕ, ◌+◌, Bool, true, false, if◌then◌else◌, List, [], ◌∷◌, ◌++◌, Option, None, Some, refl, sym, subst, arith}
use Rattle.message_model.specs.Messages.{Answer, returned, raised, reply}
use Rattle.uno_model.specs.Values.{Ref, own, Plain, refs}
use Rattle.uno_model.specs.Values as v
use Rattle.table_model.specs.Holdings.{Hold, hold}
use Rattle.table_model.specs.Pair.{Pair}
use Rattle.table_model.specs.declared.holder.Holder.{Holder}
use Rattle.table_model.specs.declared.holder.Holder.TheVariants as holder
use Rattle.plan_model.specs.Frames.{Body, Frame, base, body, outgoing}
use Rattle.plan_model.specs.Holdings.{let_go_at_end, refs_under, reference_of, is_taken}
use Rattle.plan_model.specs.Leaving.{leaving_frame}
use Rattle.bridge_model.specs.Calls.{Unwound, unwound}
use Rattle.bridge_model.specs.Handing.{statement_at, taken_by, goes_on_with, root_gets, lets_go_frame, answers_peer, holder_of, gains_with, gains_below, takes_with, takes_below, hands_over, hands, hands_down, ends_frame, hands_from_peer}
use Rattle.bridge_model.specs.References.{says, refs_of_answer}
use Rattle.bridge_model.specs.Settings.{Setting, is_own, own_oid}
use Rattle.bridge_model.specs.Sides.{RootState, idle, waits_call, waits_query, answered, answer, Tables, state_of, with_root}
use Rattle.bridge_laws.specs.Counting.{total, releases_of}
use Rattle.bridge_laws.proofs.BackingLaws.{backed_by, own_told}
use Rattle.bridge_laws.proofs.EffectLaws.{leaving_frame_counts}
use Rattle.bridge_laws.proofs.FrameCountLaws.{frames_count, body_counts}
use Rattle.bridge_laws.proofs.HandingLaws.{frames_have, body_has, method_more, taken_by_owes, returned_owes, raised_owes, Handed, gains_below_covers, takes_below_covers, hands_over_covers}
use Rattle.bridge_laws.proofs.OccurrenceLaws.{ref_owes, Covers}
use Rattle.bridge_laws.proofs.PayingLaws.{peers, stray, strays, Backed, Pays, pays_same, paid_on, pays_on, pays_says, pays_gains_all, pays_takes_all, pays_lets_go_all}
use Rattle.bridge_laws.proofs.Sums.{total_append, total_push}
use Rattle.bridge_laws.proofs.VariableLaws.{untaken_owes}

replies_none : (p : Pair) (tid face : List ℕ) (function : ℕ) (a : Answer) → releases_of p (reply tid face function a) ≡ 0
unfolding releases_of
replies_none p tid face function a = refl

-- a reply pays nothing
pub pays_reply : (p : Pair) (g : Setting) (tid face : List ℕ) (function : ℕ) (a : Answer) (t : Tables) → Pays p 0 t (says g (reply tid face function a) t)
pays_reply p g tid face function a t = pays_says p g (reply tid face function a) t (replies_none p tid face function a)

unwound_pays : (p : Pair) (b : Bool) (t : Tables) (u w : Unwound) → Pays p 0 t u.tables → Pays p 0 t w.tables → Pays p 0 t (if b then u else w).tables
unwound_pays p true t u w x y = x
unwound_pays p false t u w x y = y

-- what leaves a frame is backed where what it ends with is
pub leaving_backed : (p : Pair) (g : Setting) (tid : List ℕ) (b : Body) (a : Answer) (t : Tables) → Backed p (refs_of_answer a) t → Backed p (refs_of_answer (leaving_frame g.registry tid b a)) t
leaving_backed p g tid b a t back none = let left = leaving_frame_counts (peers p) g.registry tid b a in let all = back none in omega arith

-- what the top one of frames has of an answer is backed
pub handed_backed : (g : Setting) (p : Pair) (b : Body) (fs : List Frame) (a : Answer) (n : Hold → ℕ) (t : Tables) → ((h : Hold) → Handed g h (n h) (body b ∷ fs) a t) → Backed p (refs_of_answer a) t
handed_backed g p b fs a n t fine = backed_by p (holder.Frame b.number) (refs_of_answer a) t (let here = fine (hold (holder.Frame b.number) p) in omega arith)

module _ (g : Setting) (p : Pair) (foreign : is_own g p.oid ≡ false) where
  -- ---- going on with an answer

  goes_on_with_pays : (b : Body) (x : Plain) (outs : List Plain) (fs : List Frame) (t : Tables)
      → strays g (refs_under b.variables) ≡ 0 → strays g (refs_of_answer (returned x outs)) ≡ 0 → Pays p 0 t (goes_on_with g b x outs fs t).tables
  unfolding goes_on_with
  goes_on_with_pays b x outs fs t variables told =
      let parts = returned_owes (stray g) x outs in
      let enough = taken_by_owes (stray g) g (statement_at g t.objects b) x outs b.variables in
      pays_lets_go_all g p foreign (holder.Frame b.number) (taken_by g (statement_at g t.objects b) x outs b.variables).let_go t (omega arith)

  pub root_gets_pays : (root : ℕ) (s : RootState) (a : Answer) (t : Tables) → strays g (refs_of_answer a) ≡ 0 → Pays p 0 t (root_gets g root s a t)
  unfolding root_gets
  root_gets_pays root (waits_query wanted) (returned x outs) t told =
      let parts = returned_owes (stray g) x outs in
      let untaken = untaken_owes (stray g) g.registry wanted x in
      pays_lets_go_all g p foreign (holder.Root root) (if is_taken g.registry wanted x then [] else refs x)
      (with_root root (answered (answer (returned (v.ref (reference_of g.registry wanted x)) []))) t) (omega arith)
  root_gets_pays root (waits_query wanted) (raised k x) t told = pays_same p t
  root_gets_pays root idle a t told = pays_same p t
  root_gets_pays root waits_call a t told = pays_same p t
  root_gets_pays root (answered o) a t told = pays_same p t

  -- ---- frames that end

  lets_go_frame_pays : (b : Body) (extra : List Ref) (t : Tables) → strays g (refs_under b.variables) ≡ 0 → strays g extra ≡ 0 → Pays p 0 t (lets_go_frame g b extra t)
  unfolding let_go_at_end
  lets_go_frame_pays b extra t variables told =
      let parts = total_append (stray g) extra (let_go_at_end (own_oid g b.object) b) in
      let last = total_push (stray g) (refs_under b.variables) (own (own_oid g b.object) b.face) in
      let itself = own_told g b.object b.face in
      pays_lets_go_all g p foreign (holder.Frame b.number) (extra ++ let_go_at_end (own_oid g b.object) b) t (omega arith)

  answers_peer_pays : (tid : List ℕ) (b : Body) (extra : List Ref) (a : Answer) (t : Tables) → strays g (refs_under b.variables) ≡ 0 → strays g extra ≡ 0 → Pays p 0 t (answers_peer g tid b extra a t)
  answers_peer_pays tid b extra a t variables told =
      pays_on (pays_reply p g tid b.face b.function a t) (lets_go_frame_pays b extra (says g (reply tid b.face b.function a) t) variables told)

  gains_with_pays : (who : Option Holder) (rs : List Ref) (t : Tables) → strays g rs ≡ 0 → Backed p rs t → Pays p 0 t (gains_with who rs t)
  gains_with_pays None rs t told back = pays_same p t
  gains_with_pays (Some who) rs t told back = pays_gains_all g p foreign who rs t told back

  pub gains_below_pays : (fs : List Frame) (a : Answer) (t : Tables) → strays g (refs_of_answer a) ≡ 0 → Backed p (refs_of_answer a) t → Pays p 0 t (gains_below fs a t)
  gains_below_pays [] a t told back = pays_same p t
  gains_below_pays (f ∷ fs) a t told back = gains_with_pays (holder_of f) (refs_of_answer a) t told back

  hands_over_pays : (b : Body) (extra : List Ref) (a : Answer) (fs : List Frame) (t : Tables) → strays g (refs_under b.variables) ≡ 0 → strays g extra ≡ 0
      → strays g (refs_of_answer a) ≡ 0 → Backed p (refs_of_answer a) t → Pays p 0 t (hands_over g b extra a fs t)
  hands_over_pays b extra a fs t variables told answer_told back =
      pays_on (gains_below_pays fs a t answer_told back) (lets_go_frame_pays b extra (gains_below fs a t) variables told)

  -- ---- handing

  pub hands_pays : (tid : List ℕ) (a : Answer) (fs : List Frame) (n : Hold → ℕ) (t : Tables) → strays g (refs_of_answer a) ≡ 0 → frames_count (stray g) fs ≡ 0
      → ((h : Hold) → Handed g h (n h) fs a t) → Pays p 0 t (hands g tid a fs t).tables
  unfolding hands
  hands_pays tid a [] n t told frames fine = pays_same p t
  hands_pays tid a (base root ∷ fs) n t told frames fine = root_gets_pays root (state_of root t.roots) a t told
  hands_pays tid a (outgoing o ∷ fs) n t told frames fine = pays_same p t
  hands_pays tid (returned x outs) (body b ∷ fs) n t told frames fine =
      let all = body_counts (stray g) b fs in
      goes_on_with_pays b x outs fs t (omega arith) told
  hands_pays tid (raised k x) (body b ∷ fs) n t told frames fine =
      let all = body_counts (stray g) b fs in
      let parts = raised_owes (stray g) k x in
      let left = leaving_frame_counts (stray g) g.registry tid b (raised k x) in
      unwound_pays p b.from_peer t
      (unwound fs (answers_peer g tid b (refs x) (leaving_frame g.registry tid b (raised k x)) t))
      (hands g tid (leaving_frame g.registry tid b (raised k x)) fs (hands_over g b (refs x) (leaving_frame g.registry tid b (raised k x)) fs t))
      (answers_peer_pays tid b (refs x) (leaving_frame g.registry tid b (raised k x)) t (omega arith) (omega arith))
      (pays_on
      (hands_over_pays b (refs x) (leaving_frame g.registry tid b (raised k x)) fs t (omega arith) (omega arith) (omega arith)
      (leaving_backed p g tid b (raised k x) t (handed_backed g p b fs (raised k x) n t fine)))
      (hands_pays tid (leaving_frame g.registry tid b (raised k x)) fs n (hands_over g b (refs x) (leaving_frame g.registry tid b (raised k x)) fs t) (omega arith) (omega arith)
      (λ h.
      let here = fine h in
      let more = method_more g h b fs in
      let holds = raised_owes (ref_owes h (holder.Frame b.number)) k x in
      let over = hands_over_covers g b (refs x) (leaving_frame g.registry tid b (raised k x)) fs h (n h + frames_have g h fs) t (omega arith) in omega arith)))

  -- ---- the end of a frame

  hands_down_pays : (tid : List ℕ) (b : Body) (a : Answer) (fs : List Frame) (n : Hold → ℕ) (t : Tables) → strays g (refs_of_answer a) ≡ 0 → frames_count (stray g) (body b ∷ fs) ≡ 0
      → Backed p (refs_of_answer a) t → ((h : Hold) → Covers h (n h + frames_have g h (body b ∷ fs)) t) → Pays p 0 t (hands_down g tid b a fs t).tables
  unfolding total
  hands_down_pays tid b (returned x outs) fs n t told frames back fine =
      let all = body_counts (stray g) b fs in
      pays_on (gains_below_pays fs (returned x outs) t told back)
      (pays_on
      (hands_pays tid (returned x outs) fs (λ h. n h + body_has g h b) (gains_below fs (returned x outs) t) told (omega arith)
      (λ h.
      let here = fine h in
      let more = method_more g h b fs in
      let gained = gains_below_covers fs (returned x outs) h (n h + frames_have g h (body b ∷ fs)) t (fine h) in omega arith))
      (lets_go_frame_pays b [] (hands g tid (returned x outs) fs (gains_below fs (returned x outs) t)).tables (omega arith) refl))
  hands_down_pays tid b (raised k x) fs n t told frames back fine =
      let all = body_counts (stray g) b fs in
      pays_on (hands_over_pays b [] (raised k x) fs t (omega arith) refl told back)
      (hands_pays tid (raised k x) fs n (hands_over g b [] (raised k x) fs t) told (omega arith)
      (λ h.
      let here = fine h in
      let more = method_more g h b fs in
      let over = hands_over_covers g b [] (raised k x) fs h (n h + frames_have g h fs) t (omega arith) in omega arith))

  pub ends_frame_pays : (tid : List ℕ) (b : Body) (a : Answer) (fs : List Frame) (n : Hold → ℕ) (t : Tables) → strays g (refs_of_answer a) ≡ 0 → frames_count (stray g) (body b ∷ fs) ≡ 0
      → Backed p (refs_of_answer a) t → ((h : Hold) → Covers h (n h + frames_have g h (body b ∷ fs)) t) → Pays p 0 t (ends_frame g tid b a fs t).tables
  unfolding ends_frame total
  ends_frame_pays tid b a fs n t told frames back fine =
      let all = body_counts (stray g) b fs in
      unwound_pays p b.from_peer t (unwound fs (answers_peer g tid b [] a t)) (hands_down g tid b a fs t)
      (answers_peer_pays tid b [] a t (omega arith) refl)
      (hands_down_pays tid b a fs n t told frames back fine)

  -- ---- an answer of the peer's

  -- the frame below a call that went out takes all of it
  takes_below_pays : (f : Frame) (fs : List Frame) (who : Holder) (a : Answer) (t : Tables) → holder_of f ≡ Some who → strays g (refs_of_answer a) ≡ 0
      → Pays p (total (peers p) (refs_of_answer a)) t (takes_below g (f ∷ fs) a t)
  takes_below_pays f fs who a t is told =
      subst (λ o. Pays p (total (peers p) (refs_of_answer a)) t (takes_with g o (refs_of_answer a) t)) (sym is) (pays_takes_all g p foreign who (refs_of_answer a) t told)

  pub hands_from_peer_pays : (tid : List ℕ) (a : Answer) (f : Frame) (fs : List Frame) (who : Holder) (n : Hold → ℕ) (t : Tables) → holder_of f ≡ Some who
      → strays g (refs_of_answer a) ≡ 0 → frames_count (stray g) (f ∷ fs) ≡ 0 → ((h : Hold) → Covers h (n h + frames_have g h (f ∷ fs)) t)
      → Pays p (total (peers p) (refs_of_answer a) + 0) t (hands_from_peer g tid a (f ∷ fs) t).tables
  unfolding hands_from_peer
  hands_from_peer_pays tid a f fs who n t is told frames fine =
      paid_on (takes_below_pays f fs who a t is told)
      (hands_pays tid a (f ∷ fs) n (takes_below g (f ∷ fs) a t) told frames
      (λ h. let taken = takes_below_covers g (f ∷ fs) a h (n h + frames_have g h (f ∷ fs)) t (fine h) in omega arith))
