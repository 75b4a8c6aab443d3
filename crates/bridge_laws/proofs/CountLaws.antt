-- What references count in the outcome of a root, under any count: an answer brings no more than it has.
use Rattle.std.proofs.Common.{◌≡◌, refl, ap, ◌∙◌, ℕ, suc, ◌+◌, ◌≤◌, Bool, true, false, if◌then◌else◌, List, [], ◌∷◌, ◌++◌, Result, Ok, Err, arith}
use Rattle.message_model.specs.Messages.{Answer, returned, raised, reply}
use Rattle.uno_model.specs.BuiltIn.{exception_name, x_interface_name}
use Rattle.uno_model.specs.Kinds as kd
use Rattle.uno_model.specs.Values.{Ref, null, own, peer, Plain, refs}
use Rattle.uno_model.specs.Values as v
use Rattle.table_model.specs.declared.holder.Holder.TheVariants as holder
use Rattle.plan_model.specs.Asking.{Effect, lets, sets, sets_field, drops, skips, calls, queries, makes, disposes, creates, returns, raises}
use Rattle.plan_model.specs.Frames.{Body, Frame, base, body, outgoing}
use Rattle.plan_model.specs.Holdings.{is_taken, reference_of, let_go_at_end}
use Rattle.plan_model.specs.Leaving.{leaving_frame}
use Rattle.plan_model.specs.Plans.{singleton_object}
use Rattle.plan_model.specs.Services.{Created, fresh, singleton, created, refusal_exception}
use Rattle.plan_model.specs.declared.refusal.Refusal.{Refusal}
use Rattle.bridge_model.specs.Applying.{applies_call, applies_query, applies_creating, applies}
use Rattle.bridge_model.specs.Calls.{Unwound, unwound, calls_own, calls_peer, query_args}
use Rattle.bridge_model.specs.Handing.{root_gets, lets_go_frame, answers_peer, gains_below, takes_below, hands_over, hands, hands_down, ends_frame, hands_from_peer}
use Rattle.bridge_model.specs.Objects.{object_numbered, variables_of, object_answer, makes_object, makes_default}
use Rattle.bridge_model.specs.References.{says, lets_go_all, refs_of_answer}
use Rattle.bridge_model.specs.Settings.{Setting, own_oid}
use Rattle.bridge_model.specs.Sides.{RootState, idle, waits_call, waits_query, answered, answer, Tables, state_of, with_root}
use Rattle.bridge_laws.specs.Counting.{total}
use Rattle.bridge_laws.proofs.ApplyingCountLaws.{IsUncounted, IsTargetUncounted, alone_counts, object_answer_counts, object_alone, refusal_counts}
use Rattle.bridge_laws.proofs.EffectLaws.{effect_counts, leaving_frame_counts}
use Rattle.bridge_laws.proofs.FrameLaws.{stay_gains_below}
use Rattle.bridge_laws.proofs.HandingLaws.{returned_owes}
use Rattle.bridge_laws.proofs.RootStateLaws.{Stay, stay_gains, stay_lets_go_all, stay_makes_object, stay_makes_default}
use Rattle.bridge_laws.proofs.VariableLaws.{values_none}
use Rattle.bridge_laws.proofs.HeldAnswerLaws.{reference_parts, stay_takes_below, went_on}
use Rattle.bridge_laws.proofs.HeldApplyingLaws.{stay_changes, own_stays, peer_stays}
use Rattle.bridge_laws.proofs.StateLaws.{counts_in, answered_counts, set_at_most}

module _ (f : Ref → ℕ) (g : Setting) (k : ℕ) where
  -- what the outcome counts behind a change
  abbrev pub AtMost : ℕ → Tables → Tables → Type 0
  AtMost m t u = counts_in f k u.roots ≤ counts_in f k t.roots + m

  pub stays_at : (t u : Tables) → Stay t u → AtMost 0 t u
  stays_at t u stay = let same : counts_in f k u.roots ≡ counts_in f k t.roots = ap (counts_in f k) stay in omega arith

  -- ---- answers

  answered_at : (root : ℕ) (a : Answer) (t : Tables) → AtMost (total f (refs_of_answer a)) t (with_root root (answered (answer a)) t)
  answered_at root a t = let most = set_at_most f k root (answered (answer a)) t.roots in let is = answered_counts f a in omega arith

  query_at : (root : ℕ) (wanted : List ℕ) (x : Plain) (outs : List Plain) (t : Tables)
      → AtMost (total f (refs_of_answer (returned x outs))) t (with_root root (answered (answer (returned (v.ref (reference_of g.registry wanted x)) []))) t)
  query_at root wanted x outs t =
      let most = answered_at root (returned (v.ref (reference_of g.registry wanted x)) []) t in
      let parts = reference_parts f g.registry wanted x in
      let whole = returned_owes f x outs in
      let kept = returned_owes f (v.ref (reference_of g.registry wanted x)) [] in
      let none = values_none f in omega arith

  after_stay : (m : ℕ) (t u w : Tables) → AtMost m t u → Stay u w → AtMost m t w
  after_stay m t u w most stay = let same : counts_in f k w.roots ≡ counts_in f k u.roots = ap (counts_in f k) stay in omega arith

  behind_stay : (m : ℕ) (t u w : Tables) → Stay t u → AtMost m u w → AtMost m t w
  behind_stay m t u w stay most = let same : counts_in f k u.roots ≡ counts_in f k t.roots = ap (counts_in f k) stay in omega arith

  pub gets_at : (root : ℕ) (s : RootState) (a : Answer) (t : Tables) → AtMost (total f (refs_of_answer a)) t (root_gets g root s a t)
  unfolding root_gets
  gets_at root (waits_query wanted) (returned x outs) t =
      let u = with_root root (answered (answer (returned (v.ref (reference_of g.registry wanted x)) []))) t in
      after_stay (total f (refs_of_answer (returned x outs))) t u (lets_go_all g (holder.Root root) (if is_taken g.registry wanted x then [] else refs x) u) (query_at root wanted x outs t)
      (stay_lets_go_all g (holder.Root root) (if is_taken g.registry wanted x then [] else refs x) u)
  gets_at root (waits_query wanted) (raised j x) t = answered_at root (raised j x) t
  gets_at root idle a t = answered_at root a t
  gets_at root waits_call a t = answered_at root a t
  gets_at root (answered o) a t = answered_at root a t

  frame_stays : (b : Body) (extra : List Ref) (t : Tables) → Stay t (lets_go_frame g b extra t)
  frame_stays b extra t = stay_lets_go_all g (holder.Frame b.number) (extra ++ let_go_at_end (own_oid g b.object) b) t

  answered_stays : (tid : List ℕ) (b : Body) (extra : List Ref) (a : Answer) (t : Tables) → Stay t (answers_peer g tid b extra a t)
  unfolding says
  answered_stays tid b extra a t = frame_stays b extra (says g (reply tid b.face b.function a) t)

  over_stays : (b : Body) (extra : List Ref) (a : Answer) (fs : List Frame) (t : Tables) → Stay t (hands_over g b extra a fs t)
  over_stays b extra a fs t = frame_stays b extra (gains_below fs a t) ∙ stay_gains_below fs a t

  either_at : (m : ℕ) (t : Tables) (b : Bool) (u w : Unwound) → AtMost m t u.tables → AtMost m t w.tables → AtMost m t (if b then u else w).tables
  either_at m t true u w one two = one
  either_at m t false u w one two = two

  pub hands_at : (tid : List ℕ) (a : Answer) (fs : List Frame) (t : Tables) → AtMost (total f (refs_of_answer a)) t (hands g tid a fs t).tables
  unfolding hands
  hands_at tid a [] t = omega arith
  hands_at tid a (base root ∷ fs) t = gets_at root (state_of root t.roots) a t
  hands_at tid a (outgoing o ∷ fs) t = omega arith
  hands_at tid (returned x outs) (body b ∷ fs) t =
      let stays = stays_at t (hands g tid (returned x outs) (body b ∷ fs) t).tables (went_on g tid x outs b fs t) in omega arith
  hands_at tid (raised j x) (body b ∷ fs) t =
      let left = leaving_frame_counts f g.registry tid b (raised j x) in
      let there = stays_at t (answers_peer g tid b (refs x) (leaving_frame g.registry tid b (raised j x)) t) (answered_stays tid b (refs x) (leaving_frame g.registry tid b (raised j x)) t) in
      let over = stays_at t (hands_over g b (refs x) (leaving_frame g.registry tid b (raised j x)) fs t) (over_stays b (refs x) (leaving_frame g.registry tid b (raised j x)) fs t) in
      let below = hands_at tid (leaving_frame g.registry tid b (raised j x)) fs (hands_over g b (refs x) (leaving_frame g.registry tid b (raised j x)) fs t) in
      either_at (total f (refs_of_answer (raised j x))) t b.from_peer
      (unwound fs (answers_peer g tid b (refs x) (leaving_frame g.registry tid b (raised j x)) t))
      (hands g tid (leaving_frame g.registry tid b (raised j x)) fs (hands_over g b (refs x) (leaving_frame g.registry tid b (raised j x)) fs t))
      (omega arith) (omega arith)

  down_at : (tid : List ℕ) (b : Body) (a : Answer) (fs : List Frame) (t : Tables) → AtMost (total f (refs_of_answer a)) t (hands_down g tid b a fs t).tables
  down_at tid b (returned x outs) fs t =
      let u = hands g tid (returned x outs) fs (gains_below fs (returned x outs) t) in
      after_stay (total f (refs_of_answer (returned x outs))) t u.tables (lets_go_frame g b [] u.tables)
      (behind_stay (total f (refs_of_answer (returned x outs))) t (gains_below fs (returned x outs) t) u.tables (stay_gains_below fs (returned x outs) t)
      (hands_at tid (returned x outs) fs (gains_below fs (returned x outs) t)))
      (frame_stays b [] u.tables)
  down_at tid b (raised j x) fs t =
      behind_stay (total f (refs_of_answer (raised j x))) t (hands_over g b [] (raised j x) fs t) (hands g tid (raised j x) fs (hands_over g b [] (raised j x) fs t)).tables
      (over_stays b [] (raised j x) fs t) (hands_at tid (raised j x) fs (hands_over g b [] (raised j x) fs t))

  ends_at : (tid : List ℕ) (b : Body) (a : Answer) (fs : List Frame) (t : Tables) → AtMost (total f (refs_of_answer a)) t (ends_frame g tid b a fs t).tables
  unfolding ends_frame
  ends_at tid b a fs t =
      let there = stays_at t (answers_peer g tid b [] a t) (answered_stays tid b [] a t) in
      either_at (total f (refs_of_answer a)) t b.from_peer (unwound fs (answers_peer g tid b [] a t)) (hands_down g tid b a fs t) (omega arith) (down_at tid b a fs t)

  pub from_peer_at : (tid : List ℕ) (a : Answer) (fs : List Frame) (t : Tables) → AtMost (total f (refs_of_answer a)) t (hands_from_peer g tid a fs t).tables
  unfolding hands_from_peer
  from_peer_at tid a fs t =
      behind_stay (total f (refs_of_answer a)) t (takes_below g fs a t) (hands g tid a fs (takes_below g fs a t)).tables (stay_takes_below g fs a t) (hands_at tid a fs (takes_below g fs a t))

  -- ---- statements

  call_at : (tid : List ℕ) (target : Ref) (function : ℕ) (args : List Plain) (fs : List Frame) (t : Tables) → AtMost 0 t (applies_call g tid target function args fs t).tables
  call_at tid null function args fs t = omega arith
  call_at tid (own oid face) function args fs t = stays_at t (calls_own g oid face function args fs t).tables (own_stays g oid face function args fs t)
  call_at tid (peer oid face) function args fs t = stays_at t (calls_peer g tid oid face function args fs t).tables (peer_stays g tid oid face function args fs t)

  query_so : (tid : List ℕ) (target : Ref) (wanted : List ℕ) (fs : List Frame) (t : Tables) → ((oid face : List ℕ) → target ≡ own oid face → IsUncounted f oid)
      → AtMost 0 t (applies_query g tid target wanted fs t).tables
  query_so tid null wanted fs t known = omega arith
  query_so tid (own oid face) wanted fs t known =
      let none = object_answer_counts f g oid wanted t.objects (known oid face refl) in
      let alone = alone_counts f (object_answer g oid (kd.interface wanted) t.objects) in
      let most = hands_at tid (returned (object_answer g oid (kd.interface wanted) t.objects) []) fs (gains_below fs (returned (object_answer g oid (kd.interface wanted) t.objects) []) t) in
      let stays = stays_at t (gains_below fs (returned (object_answer g oid (kd.interface wanted) t.objects) []) t) (stay_gains_below fs (returned (object_answer g oid (kd.interface wanted) t.objects) []) t) in omega arith
  query_so tid (peer oid face) wanted fs t known = stays_at t (calls_peer g tid oid face 0 (query_args wanted) fs t).tables (peer_stays g tid oid face 0 (query_args wanted) fs t)

  creating_at : (tid : List ℕ) (b : Body) (name : List ℕ) (made : Result Created Refusal) (fs : List Frame) (t : Tables) → ((n : ℕ) → IsUncounted f (own_oid g n))
      → AtMost 0 t (applies_creating g tid b name made fs t).tables
  unfolding applies_creating
  creating_at tid b name (Ok (fresh behaviour fields)) fs t itself =
      let one = object_alone f (own_oid g (suc t.objects_made)) x_interface_name in
      let here = itself (suc t.objects_made) x_interface_name in
      let most = ends_at tid b (returned (v.ref (own (own_oid g (suc t.objects_made)) x_interface_name)) []) fs (makes_object behaviour fields t) in
      let stays = stays_at t (makes_object behaviour fields t) (stay_makes_object behaviour fields t) in omega arith
  creating_at tid b name (Ok (singleton place)) fs t itself =
      let one = object_alone f (own_oid g (singleton_object g.plan place)) x_interface_name in
      let here = itself (singleton_object g.plan place) x_interface_name in
      let most = ends_at tid b (returned (v.ref (own (own_oid g (singleton_object g.plan place)) x_interface_name)) []) fs t in omega arith
  creating_at tid b name (Err why) fs t itself =
      let left = leaving_frame_counts f g.registry tid b (raised (kd.exception exception_name) (refusal_exception why name)) in
      let nothing = refusal_counts f (kd.exception exception_name) why name in
      let most = ends_at tid b (leaving_frame g.registry tid b (raised (kd.exception exception_name) (refusal_exception why name))) fs t in omega arith

  -- an effect whose references count nothing brings nothing that counts
  pub applies_at : (tid : List ℕ) (b : Body) (fs : List Frame) (e : Effect) (t : Tables) → ((n : ℕ) → IsUncounted f (own_oid g n)) → IsTargetUncounted f e → effect_counts f e ≡ 0
      → AtMost 0 t (applies g tid b fs e t).tables
  unfolding applies
  applies_at tid b fs (lets x) t itself known fine = stays_at t (applies g tid b fs (lets x) t).tables (stay_changes g (lets x) b (variables_of g (object_numbered b.object t.objects)) t)
  applies_at tid b fs (sets x) t itself known fine = stays_at t (applies g tid b fs (sets x) t).tables (stay_changes g (sets x) b (variables_of g (object_numbered b.object t.objects)) t)
  applies_at tid b fs (sets_field x) t itself known fine = stays_at t (applies g tid b fs (sets_field x) t).tables (stay_changes g (sets_field x) b (variables_of g (object_numbered b.object t.objects)) t)
  applies_at tid b fs (drops name) t itself known fine = stays_at t (applies g tid b fs (drops name) t).tables (stay_changes g (drops name) b (variables_of g (object_numbered b.object t.objects)) t)
  applies_at tid b fs skips t itself known fine = stays_at t (applies g tid b fs skips t).tables (stay_changes g skips b (variables_of g (object_numbered b.object t.objects)) t)
  applies_at tid b fs (calls target function args to) t itself known fine = call_at tid target function args (body b ∷ fs) t
  applies_at tid b fs (queries target wanted to) t itself known fine = query_so tid target wanted (body b ∷ fs) t known
  applies_at tid b fs (makes behaviour face to) t itself known fine =
      stays_at t (applies g tid b fs (makes behaviour face to) t).tables (stay_gains (holder.Frame b.number) (own (own_oid g (suc t.objects_made)) face) (makes_default g behaviour t) ∙ stay_makes_default g behaviour t)
  applies_at tid b fs disposes t itself known fine = omega arith
  applies_at tid b fs (creates name args) t itself known fine = creating_at tid b name (created g.plan g.registry name args) fs t itself
  applies_at tid b fs (returns x outs) t itself known fine = let most = ends_at tid b (returned x outs) fs t in omega arith
  applies_at tid b fs (raises j x) t itself known fine = let most = ends_at tid b (raised j x) fs t in omega arith
