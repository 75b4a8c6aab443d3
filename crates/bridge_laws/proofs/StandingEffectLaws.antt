-- What stands behind messages when methods begin, and behind each effect: what a request uses is held by the frame that calls.
use Rattle.std.proofs.Common.{◌≤◌, Bool, not, ◌&&◌, ◌≡◌, ℕ, suc, ◌+◌, true, false, List, [], ◌∷◌, Result, Ok, Err, refl, ◌∙◌, arith}
use Rattle.message_model.specs.Messages.{returned, raised, request}
use Rattle.uno_model.specs.BuiltIn.{exception_name, x_interface_name}
use Rattle.uno_model.specs.Kinds as kd
use Rattle.uno_model.specs.Values.{Ref, null, own, peer, Plain, refs, object_in}
use Rattle.uno_model.specs.Values as v
use Rattle.table_model.specs.Holdings.{Hold, holders}
use Rattle.table_model.specs.Pair.{Pair, pair, is_pair}
use Rattle.table_model.specs.declared.holder.Holder.{Holder}
use Rattle.table_model.specs.declared.holder.Holder.TheVariants as holder
use Rattle.plan_model.specs.Asking.{Effect, lets, sets, sets_field, drops, skips, calls, queries, makes, disposes, creates, returns, raises}
use Rattle.plan_model.specs.Evaluation.{value_under}
use Rattle.plan_model.specs.Frames.{Variable, Body, Frame, body}
use Rattle.plan_model.specs.Holdings.{fields_after, held_by, let_go_by}
use Rattle.plan_model.specs.Leaving.{leaving_frame}
use Rattle.plan_model.specs.Plans.{singleton_object}
use Rattle.plan_model.specs.Services.{Created, fresh, singleton, created, refusal_exception}
use Rattle.plan_model.specs.declared.refusal.Refusal.{Refusal}
use Rattle.bridge_model.specs.Applying.{with_fields_after, goes_on_after, applies_call, answers_query, applies_query, applies_making, applies_creating, applies}
use Rattle.bridge_model.specs.Calls.{first_body, calls_own, serves, calls_peer, query_args}
use Rattle.bridge_model.specs.Handing.{gains_below, ends_frame}
use Rattle.bridge_model.specs.Objects.{object_numbered, variables_of, object_answer, makes_object, makes_default}
use Rattle.bridge_model.specs.References.{gains_all, takes_all, lets_go_all, refs_of_values}
use Rattle.bridge_model.specs.Settings.{Setting, is_own, own_oid}
use Rattle.bridge_model.specs.Sides.{Tables}
use Rattle.bridge_laws.specs.Counting.{total, one_if}
use Rattle.bridge_laws.specs.Standing.{is_ask, uses}
use Rattle.plan_model.specs.Forms.{is_export_name}
use Rattle.bridge_laws.proofs.ApplyingCountLaws.{variables_of_counts, object_answer_counts, alone_counts, object_alone, refusal_counts}
use Rattle.bridge_laws.proofs.BackingLaws.{own_told}
use Rattle.bridge_laws.proofs.EffectLaws.{effect_counts, leaving_frame_counts}
use Rattle.bridge_laws.proofs.EvaluationLaws.{under_at_most}
use Rattle.bridge_laws.proofs.FrameCountLaws.{frames_count, objects_count, body_counts}
use Rattle.bridge_laws.proofs.HandingLaws.{frames_have, gains_below_covers}
use Rattle.bridge_laws.proofs.ObjectLaws.{makes_covers}
use Rattle.bridge_laws.proofs.OccurrenceLaws.{Covers}
use Rattle.bridge_laws.proofs.PaidApplyingLaws.{own_backed, any_face}
use Rattle.bridge_laws.proofs.PayingLaws.{peers, stray, strays}
use Rattle.bridge_laws.proofs.StandingFrameLaws.{gains_below_upholds, hands_upholds, ends_frame_upholds}
use Rattle.bridge_laws.proofs.StandingTableLaws.{Upholds, upheld_on, upholds_same, used_held, upholds_says, upholds_gains, upholds_gains_all, upholds_takes_all, upholds_lets_go_all, upholds_makes, upholds_makes_default}

-- ---- methods that begin

pub calls_own_upholds : (p : Pair) (g : Setting) (oid face : List ℕ) (function : ℕ) (args : List Plain) (fs : List Frame) (t : Tables) → Upholds p t (calls_own g oid face function args fs t).tables
unfolding calls_own
calls_own_upholds p g oid face function args fs t =
    upheld_on (upholds_gains_all p (holder.Frame t.frames_made) (refs_of_values args) t)
    (upholds_gains p (holder.Frame t.frames_made) (own (own_oid g (first_body g false oid face function args t).object) face) (gains_all (holder.Frame t.frames_made) (refs_of_values args) t))

pub serves_upholds : (p : Pair) (g : Setting) (oid face : List ℕ) (function : ℕ) (args : List Plain) (fs : List Frame) (t : Tables) → Upholds p t (serves g oid face function args fs t).tables
unfolding serves
serves_upholds p g oid face function args fs t =
    upheld_on (upholds_takes_all p g (holder.Frame t.frames_made) (refs_of_values args) t)
    (upholds_gains p (holder.Frame t.frames_made) (own (own_oid g (first_body g true oid face function args t).object) face) (takes_all g (holder.Frame t.frames_made) (refs_of_values args) t))

-- ---- requests

-- a target under the interface of a pair, as a number
abbrev pub targets : Pair → (oid face : List ℕ) → ℕ
targets p oid face = one_if (is_pair p (pair oid face))

at_most : (b c : Bool) → one_if (b && c) ≤ one_if c
at_most true c = omega arith
at_most false c = omega arith

request_uses : (p : Pair) (tid oid face : List ℕ) (function : ℕ) (args : List Plain)
    → uses p (request tid oid face function args) ≤ targets p oid face + total (peers p) (refs_of_values args)
unfolding uses peers
request_uses p tid oid face function args = let most = at_most (not (is_ask oid function)) (is_pair p (pair oid face)) in omega arith

-- a request whose target and arguments are backed
pub calls_peer_upholds : (p : Pair) (g : Setting) (tid oid face : List ℕ) (function : ℕ) (args : List Plain) (fs : List Frame) (t : Tables)
    → (holders p t.holdings ≡ 0 → targets p oid face + total (peers p) (refs_of_values args) ≡ 0) → Upholds p t (calls_peer g tid oid face function args fs t).tables
unfolding calls_peer
calls_peer_upholds p g tid oid face function args fs t back =
    let same = request_uses p tid oid face function args in
    upholds_says p g (request tid oid face function args) t (λ used. used_held (holders p t.holdings) (targets p oid face + total (peers p) (refs_of_values args)) back (omega arith))

pub target_counts : (p : Pair) (oid face : List ℕ) → total (peers p) (object_in (peer oid face)) ≡ targets p oid face
unfolding total peers
target_counts p oid face = omega arith

query_uses : (p : Pair) (wanted : List ℕ) → total (peers p) (refs_of_values (query_args wanted)) ≡ 0
unfolding refs_of_values refs total
query_uses p wanted = refl

ask_uses : (p : Pair) (tid name face wanted : List ℕ) → is_export_name name ≡ true → uses p (request tid name face 0 (query_args wanted)) ≡ 0
unfolding uses is_ask refs_of_values refs total
ask_uses p tid name face wanted is = rw (is) refl

-- a name that is asked for is backed by nothing, and need not be
pub asks_name_upholds : (p : Pair) (g : Setting) (tid name face wanted : List ℕ) (fs : List Frame) (t : Tables) → is_export_name name ≡ true
    → Upholds p t (calls_peer g tid name face 0 (query_args wanted) fs t).tables
unfolding calls_peer
asks_name_upholds p g tid name face wanted fs t is =
    let none = ask_uses p tid name face wanted is in upholds_says p g (request tid name face 0 (query_args wanted)) t (λ used. absurd (omega arith))

-- a query of a target that is backed
pub queries_peer_upholds : (p : Pair) (g : Setting) (tid oid face wanted : List ℕ) (fs : List Frame) (t : Tables) → (holders p t.holdings ≡ 0 → targets p oid face ≡ 0)
    → Upholds p t (calls_peer g tid oid face 0 (query_args wanted) fs t).tables
queries_peer_upholds p g tid oid face wanted fs t back =
    calls_peer_upholds p g tid oid face 0 (query_args wanted) fs t (λ none. let target = back none in let nothing = query_uses p wanted in omega arith)

applies_call_upholds : (p : Pair) (g : Setting) (tid : List ℕ) (target : Ref) (function : ℕ) (args : List Plain) (fs : List Frame) (t : Tables)
    → (holders p t.holdings ≡ 0 → total (peers p) (object_in target) + total (peers p) (refs_of_values args) ≡ 0) → Upholds p t (applies_call g tid target function args fs t).tables
applies_call_upholds p g tid null function args fs t back = upholds_same p t
applies_call_upholds p g tid (own oid face) function args fs t back = calls_own_upholds p g oid face function args fs t
applies_call_upholds p g tid (peer oid face) function args fs t back =
    calls_peer_upholds p g tid oid face function args fs t (λ none. let all = back none in let same = target_counts p oid face in omega arith)

module _ (g : Setting) (p : Pair) (foreign : is_own g p.oid ≡ false) where
  -- ---- its own frame and object

  -- what is gained first, and what is let go behind that
  exchanges_uphold : (who : Holder) (held gone : List Ref) (t : Tables) → strays g gone ≡ 0 → Upholds p t (lets_go_all g who gone (gains_all who held t))
  exchanges_uphold who held gone t told = upheld_on (upholds_gains_all p who held t) (upholds_lets_go_all g p foreign who gone (gains_all who held t) told)

  field_upholds : (x : Variable) (b : Body) (fs : List Frame) (t : Tables) → objects_count (stray g) t.objects ≡ 0 → Upholds p t (goes_on_after g (sets_field x) b fs t).tables
  unfolding fields_after let_go_by held_by
  field_upholds x b fs t objects =
      let found = variables_of_counts (stray g) g b.object t.objects in
      let one = under_at_most (stray g) x.name (variables_of g (object_numbered b.object t.objects)) in
      upheld_on (upholds_gains_all p (holder.Object b.object) (refs x.value) t)
      (upholds_lets_go_all g p foreign (holder.Object b.object) (refs (value_under x.name (variables_of g (object_numbered b.object t.objects))))
      (with_fields_after (sets_field x) b (variables_of g (object_numbered b.object t.objects)) (gains_all (holder.Object b.object) (refs x.value) t))
      (omega arith))

  -- ---- queries

  answers_query_upholds : (tid : List ℕ) (x : Plain) (fs : List Frame) (n : Hold → ℕ) (t : Tables) → strays g (refs x) ≡ 0 → frames_count (stray g) fs ≡ 0
      → ((h : Hold) → Covers h (n h + frames_have g h fs) t) → Upholds p t (answers_query g tid x fs t).tables
  answers_query_upholds tid x fs n t told frames fine =
      let alone = alone_counts (stray g) x in
      upheld_on (gains_below_upholds p fs (returned x []) t)
      (hands_upholds g p foreign tid (returned x []) fs n (gains_below fs (returned x []) t) (omega arith) frames
      (λ h. let gained = gains_below_covers fs (returned x []) h (n h + frames_have g h fs) t (fine h) in omega arith))

  own_query_upholds : (tid oid face wanted : List ℕ) (fs : List Frame) (n : Hold → ℕ) (t : Tables) → stray g (own oid face) ≡ 0 → frames_count (stray g) fs ≡ 0
      → ((h : Hold) → Covers h (n h + frames_have g h fs) t) → Upholds p t (applies_query g tid (own oid face) wanted fs t).tables
  own_query_upholds tid oid face wanted fs n t told frames fine =
      answers_query_upholds tid (object_answer g oid (kd.interface wanted) t.objects) fs n t
      (object_answer_counts (stray g) g oid wanted t.objects (any_face g oid face told)) frames fine

  applies_query_upholds : (tid : List ℕ) (target : Ref) (wanted : List ℕ) (fs : List Frame) (n : Hold → ℕ) (t : Tables) → strays g (object_in target) ≡ 0
      → (holders p t.holdings ≡ 0 → total (peers p) (object_in target) ≡ 0) → frames_count (stray g) fs ≡ 0
      → ((h : Hold) → Covers h (n h + frames_have g h fs) t) → Upholds p t (applies_query g tid target wanted fs t).tables
  unfolding total
  applies_query_upholds tid null wanted fs n t told back frames fine = upholds_same p t
  applies_query_upholds tid (own oid face) wanted fs n t told back frames fine = own_query_upholds tid oid face wanted fs n t (omega arith) frames fine
  applies_query_upholds tid (peer oid face) wanted fs n t told back frames fine =
      queries_peer_upholds p g tid oid face wanted fs t (λ none. let all = back none in let same = target_counts p oid face in omega arith)

  -- ---- new objects

  making_upholds : (behaviour : ℕ) (face to : List ℕ) (b : Body) (fs : List Frame) (t : Tables) → Upholds p t (applies_making g behaviour face to b fs t).tables
  making_upholds behaviour face to b fs t =
      upheld_on (upholds_makes_default p g behaviour t) (upholds_gains p (holder.Frame b.number) (own (own_oid g (suc t.objects_made)) face) (makes_default g behaviour t))

  -- the frame ends with an object of this end
  returns_upholds : (tid : List ℕ) (b : Body) (number : ℕ) (fs : List Frame) (n : Hold → ℕ) (t : Tables) → frames_count (stray g) (body b ∷ fs) ≡ 0
      → ((h : Hold) → Covers h (n h + frames_have g h (body b ∷ fs)) t)
      → Upholds p t (ends_frame g tid b (returned (v.ref (own (own_oid g number) x_interface_name)) []) fs t).tables
  returns_upholds tid b number fs n t frames fine =
      ends_frame_upholds g p foreign tid b (returned (v.ref (own (own_oid g number) x_interface_name)) []) fs n t
      (object_alone (stray g) (own_oid g number) x_interface_name ∙ own_told g number x_interface_name)
      frames (own_backed p (own_oid g number) x_interface_name t) fine

  creating_upholds : (tid : List ℕ) (b : Body) (name : List ℕ) (made : Result Created Refusal) (fs : List Frame) (n : Hold → ℕ) (t : Tables)
      → frames_count (stray g) (body b ∷ fs) ≡ 0
      → ((h : Hold) → Covers h (n h + frames_have g h (body b ∷ fs)) t) → Upholds p t (applies_creating g tid b name made fs t).tables
  unfolding applies_creating
  creating_upholds tid b name (Ok (fresh behaviour fields)) fs n t frames fine =
      upheld_on (upholds_makes p behaviour fields t)
      (returns_upholds tid b (suc t.objects_made) fs n (makes_object behaviour fields t) frames (λ h. makes_covers behaviour fields h (n h + frames_have g h (body b ∷ fs)) t (fine h)))
  creating_upholds tid b name (Ok (singleton place)) fs n t frames fine = returns_upholds tid b (singleton_object g.plan place) fs n t frames fine
  creating_upholds tid b name (Err why) fs n t frames fine =
      let left = leaving_frame_counts (stray g) g.registry tid b (raised (kd.exception exception_name) (refusal_exception why name)) in
      let nothing = refusal_counts (stray g) (kd.exception exception_name) why name in
      ends_frame_upholds g p foreign tid b (leaving_frame g.registry tid b (raised (kd.exception exception_name) (refusal_exception why name))) fs n t (omega arith) frames
      (λ none.
      let over = leaving_frame_counts (peers p) g.registry tid b (raised (kd.exception exception_name) (refusal_exception why name)) in
      let no_peers = refusal_counts (peers p) (kd.exception exception_name) why name in omega arith)
      fine

  -- ---- effects

  -- what an effect refers to is told right and backed
  pub applies_upholds : (tid : List ℕ) (b : Body) (fs : List Frame) (e : Effect) (n : Hold → ℕ) (t : Tables) → effect_counts (stray g) e ≡ 0
      → (holders p t.holdings ≡ 0 → effect_counts (peers p) e ≡ 0) → frames_count (stray g) (body b ∷ fs) + objects_count (stray g) t.objects ≡ 0
      → ((h : Hold) → Covers h (n h + frames_have g h (body b ∷ fs)) t) → Upholds p t (applies g tid b fs e t).tables
  unfolding applies held_by let_go_by total
  applies_upholds tid b fs (lets x) n t told back free fine = exchanges_uphold (holder.Frame b.number) (refs x.value) [] t refl
  applies_upholds tid b fs (sets x) n t told back free fine =
      let all = body_counts (stray g) b fs in
      let one = under_at_most (stray g) x.name b.variables in
      exchanges_uphold (holder.Frame b.number) (refs x.value) (refs (value_under x.name b.variables)) t (omega arith)
  applies_upholds tid b fs (sets_field x) n t told back free fine = field_upholds x b fs t (omega arith)
  applies_upholds tid b fs (drops name) n t told back free fine =
      let all = body_counts (stray g) b fs in
      let one = under_at_most (stray g) name b.variables in
      exchanges_uphold (holder.Frame b.number) [] (refs (value_under name b.variables)) t (omega arith)
  applies_upholds tid b fs skips n t told back free fine = exchanges_uphold (holder.Frame b.number) [] [] t refl
  applies_upholds tid b fs (calls target function args to) n t told back free fine = applies_call_upholds p g tid target function args (body b ∷ fs) t back
  applies_upholds tid b fs (queries target wanted to) n t told back free fine = applies_query_upholds tid target wanted (body b ∷ fs) n t told back (omega arith) fine
  applies_upholds tid b fs (makes behaviour face to) n t told back free fine = making_upholds behaviour face to b fs t
  applies_upholds tid b fs disposes n t told back free fine = upholds_same p t
  applies_upholds tid b fs (creates name args) n t told back free fine = creating_upholds tid b name (created g.plan g.registry name args) fs n t (omega arith) fine
  applies_upholds tid b fs (returns x outs) n t told back free fine = ends_frame_upholds g p foreign tid b (returned x outs) fs n t told (omega arith) back fine
  applies_upholds tid b fs (raises k x) n t told back free fine = ends_frame_upholds g p foreign tid b (raised k x) fs n t told (omega arith) back fine
