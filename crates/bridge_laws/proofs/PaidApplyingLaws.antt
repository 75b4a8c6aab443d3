-- What is paid when methods begin, and behind each effect.
use Rattle.std.proofs.Common.{◌≡◌, ℕ, suc, ◌+◌, Bool, true, false, not, List, [], ◌∷◌, ◌++◌, Result, Ok, Err, refl, ◌∙◌, arith}
use Rattle.message_model.specs.Messages.{returned, raised, request}
use Rattle.uno_model.specs.BuiltIn.{exception_name, x_interface_name}
use Rattle.uno_model.specs.Kinds as kd
use Rattle.uno_model.specs.Values.{Ref, null, own, peer, Plain, refs, object_in}
use Rattle.uno_model.specs.Values as v
use Rattle.table_model.specs.Holdings.{Hold, holders}
use Rattle.table_model.specs.Pair.{Pair}
use Rattle.table_model.specs.declared.holder.Holder.{Holder}
use Rattle.table_model.specs.declared.holder.Holder.TheVariants as holder
use Rattle.plan_model.specs.Asking.{Effect, lets, sets, sets_field, drops, skips, calls, queries, makes, disposes, creates, returns, raises}
use Rattle.plan_model.specs.Evaluation.{value_under}
use Rattle.plan_model.specs.Frames.{Variable, Body, Frame, body}
use Rattle.plan_model.specs.Holdings.{fields_after, held_by, let_go_by}
use Rattle.plan_model.specs.Leaving.{leaving_frame}
use Rattle.plan_model.specs.Plans.{singleton_object}
use Rattle.plan_model.specs.Services.{Created, fresh, singleton, created, refusal_exception}
use Rattle.plan_model.specs.declared.refusal.Refusal.{Refusal}
use Rattle.bridge_model.specs.Applying.{with_fields_after, goes_on_after, applies_call, answers_query, applies_query, applies_making, applies_creating, applies}
use Rattle.bridge_model.specs.Calls.{first_body, calls_own, serves, calls_peer, query_args}
use Rattle.bridge_model.specs.Handing.{gains_below, ends_frame}
use Rattle.bridge_model.specs.Objects.{object_numbered, variables_of, object_answer, makes_object, makes_default, defaults_of}
use Rattle.bridge_model.specs.References.{gains, gains_all, takes_all, lets_go_all, refs_of_values, refs_of_answer}
use Rattle.bridge_model.specs.Settings.{Setting, is_own, own_oid, is_told}
use Rattle.bridge_model.specs.Sides.{Tables}
use Rattle.bridge_laws.specs.Counting.{total, one_if}
use Rattle.bridge_laws.proofs.ApplyingCountLaws.{variables_of_counts, defaults_none, object_answer_counts, alone_counts, object_alone, refusal_counts}
use Rattle.bridge_laws.proofs.BackingLaws.{own_told}
use Rattle.bridge_laws.proofs.CreatedLaws.{created_counts, created_refs}
use Rattle.bridge_laws.proofs.EffectLaws.{effect_counts, leaving_frame_counts}
use Rattle.bridge_laws.proofs.EvaluationLaws.{under_at_most}
use Rattle.bridge_laws.proofs.FrameCountLaws.{frames_count, objects_count, body_counts}
use Rattle.bridge_laws.proofs.HandingLaws.{frames_have, gains_below_covers}
use Rattle.bridge_laws.proofs.ObjectLaws.{makes_covers}
use Rattle.bridge_laws.proofs.OccurrenceLaws.{Covers}
use Rattle.bridge_laws.proofs.PaidHandingLaws.{gains_below_pays, hands_pays, ends_frame_pays}
use Rattle.bridge_laws.proofs.PayingLaws.{peers, stray, strays, Backed, Pays, pays_same, paid_on, pays_on, pays_says, asks_none, pays_gains, pays_gains_all, pays_takes_all, pays_lets_go_all}

-- ---- own objects

-- an object of this end is no object of the peer's
pub own_peers : (p : Pair) (oid face : List ℕ) → peers p (own oid face) ≡ 0
unfolding peers
own_peers p oid face = refl

pub own_backed : (p : Pair) (oid face : List ℕ) (t : Tables) → Backed p (refs_of_answer (returned (v.ref (own oid face)) [])) t
own_backed p oid face t none = object_alone (peers p) oid face ∙ own_peers p oid face

nothing_backed : (p : Pair) (t : Tables) → Backed p [] t
unfolding total
nothing_backed p t none = refl

told_name : (b : Bool) → one_if (not b) ≡ 0 → b ≡ true
told_name true is = refl
told_name false is = absurd (omega arith)

-- a reference that is told right is so under each interface
pub any_face : (g : Setting) (oid face : List ℕ) → stray g (own oid face) ≡ 0 → (other : List ℕ) → stray g (own oid other) ≡ 0
unfolding stray is_told
any_face g oid face told other = told

module _ (g : Setting) (p : Pair) (foreign : is_own g p.oid ≡ false) where
  -- ---- methods that begin

  -- an object of this end is held once more
  pub gains_own_pays : (who : Holder) (n : ℕ) (face : List ℕ) (t : Tables) → Pays p 0 t (gains who (own (own_oid g n) face) t)
  gains_own_pays who n face t = pays_gains g p foreign who (own (own_oid g n) face) t (own_told g n face) (λ none. own_peers p (own_oid g n) face)

  pub calls_own_pays : (oid face : List ℕ) (function : ℕ) (args : List Plain) (fs : List Frame) (t : Tables) → strays g (refs_of_values args) ≡ 0 → Backed p (refs_of_values args) t
      → Pays p 0 t (calls_own g oid face function args fs t).tables
  unfolding calls_own
  calls_own_pays oid face function args fs t told back =
      pays_on (pays_gains_all g p foreign (holder.Frame t.frames_made) (refs_of_values args) t told back)
      (gains_own_pays (holder.Frame t.frames_made) (first_body g false oid face function args t).object face (gains_all (holder.Frame t.frames_made) (refs_of_values args) t))

  -- what the peer's arguments bring is paid
  pub serves_pays : (oid face : List ℕ) (function : ℕ) (args : List Plain) (fs : List Frame) (t : Tables) → strays g (refs_of_values args) ≡ 0
      → Pays p (total (peers p) (refs_of_values args) + 0) t (serves g oid face function args fs t).tables
  unfolding serves
  serves_pays oid face function args fs t told =
      paid_on (pays_takes_all g p foreign (holder.Frame t.frames_made) (refs_of_values args) t told)
      (gains_own_pays (holder.Frame t.frames_made) (first_body g true oid face function args t).object face (takes_all g (holder.Frame t.frames_made) (refs_of_values args) t))

  pub calls_peer_pays : (tid oid face : List ℕ) (function : ℕ) (args : List Plain) (fs : List Frame) (t : Tables) → Pays p 0 t (calls_peer g tid oid face function args fs t).tables
  unfolding calls_peer
  calls_peer_pays tid oid face function args fs t = pays_says p g (request tid oid face function args) t (asks_none p tid oid face function args)

  -- ---- objects that are made

  pub makes_pays : (behaviour : ℕ) (fields : List Plain) (t : Tables) → strays g (refs_of_values fields) ≡ 0 → Backed p (refs_of_values fields) t → Pays p 0 t (makes_object behaviour fields t)
  unfolding makes_object
  makes_pays behaviour fields t told back =
      pays_gains_all g p foreign (holder.Object (suc t.objects_made)) (refs_of_values fields)
      (record t { objects = t.objects ++ record { number = suc t.objects_made; behaviour = behaviour; fields = fields } ∷ []; objects_made = suc t.objects_made })
      told back

  pub makes_default_pays : (behaviour : ℕ) (t : Tables) → Pays p 0 t (makes_default g behaviour t)
  makes_default_pays behaviour t = makes_pays behaviour (defaults_of g behaviour) t (defaults_none (stray g) g behaviour) (λ none. defaults_none (peers p) g behaviour)

  -- ---- its own frame and object

  -- what is gained first, and what is let go behind that
  exchanges : (who : Holder) (held gone : List Ref) (t : Tables) → strays g held ≡ 0 → strays g gone ≡ 0 → Backed p held t
      → Pays p 0 t (lets_go_all g who gone (gains_all who held t))
  exchanges who held gone t told gone_told back =
      pays_on (pays_gains_all g p foreign who held t told back) (pays_lets_go_all g p foreign who gone (gains_all who held t) gone_told)

  field_pays : (x : Variable) (b : Body) (fs : List Frame) (t : Tables) → strays g (refs x.value) ≡ 0 → Backed p (refs x.value) t → objects_count (stray g) t.objects ≡ 0
      → Pays p 0 t (goes_on_after g (sets_field x) b fs t).tables
  unfolding fields_after let_go_by held_by
  field_pays x b fs t told back objects =
      let found = variables_of_counts (stray g) g b.object t.objects in
      let one = under_at_most (stray g) x.name (variables_of g (object_numbered b.object t.objects)) in
      pays_on (pays_gains_all g p foreign (holder.Object b.object) (refs x.value) t told back)
      (pays_lets_go_all g p foreign (holder.Object b.object) (refs (value_under x.name (variables_of g (object_numbered b.object t.objects))))
      (with_fields_after (sets_field x) b (variables_of g (object_numbered b.object t.objects)) (gains_all (holder.Object b.object) (refs x.value) t))
      (omega arith))

  -- ---- calls and queries

  applies_call_pays : (tid : List ℕ) (target : Ref) (function : ℕ) (args : List Plain) (fs : List Frame) (t : Tables) → strays g (refs_of_values args) ≡ 0 → Backed p (refs_of_values args) t
      → Pays p 0 t (applies_call g tid target function args fs t).tables
  applies_call_pays tid null function args fs t told back = pays_same p t
  applies_call_pays tid (own oid face) function args fs t told back = calls_own_pays oid face function args fs t told back
  applies_call_pays tid (peer oid face) function args fs t told back = calls_peer_pays tid oid face function args fs t

  answers_query_pays : (tid : List ℕ) (x : Plain) (fs : List Frame) (n : Hold → ℕ) (t : Tables) → strays g (refs x) ≡ 0 → Backed p (refs x) t → frames_count (stray g) fs ≡ 0
      → ((h : Hold) → Covers h (n h + frames_have g h fs) t) → Pays p 0 t (answers_query g tid x fs t).tables
  answers_query_pays tid x fs n t told back frames fine =
      let alone = alone_counts (stray g) x in
      pays_on (gains_below_pays g p foreign fs (returned x []) t (omega arith) (λ none. alone_counts (peers p) x ∙ back none))
      (hands_pays g p foreign tid (returned x []) fs n (gains_below fs (returned x []) t) (omega arith) frames
      (λ h. let gained = gains_below_covers fs (returned x []) h (n h + frames_have g h fs) t (fine h) in omega arith))

  own_query_pays : (tid oid face wanted : List ℕ) (fs : List Frame) (n : Hold → ℕ) (t : Tables) → stray g (own oid face) ≡ 0 → frames_count (stray g) fs ≡ 0
      → ((h : Hold) → Covers h (n h + frames_have g h fs) t) → Pays p 0 t (applies_query g tid (own oid face) wanted fs t).tables
  own_query_pays tid oid face wanted fs n t told frames fine =
      answers_query_pays tid (object_answer g oid (kd.interface wanted) t.objects) fs n t
      (object_answer_counts (stray g) g oid wanted t.objects (any_face g oid face told))
      (λ none. object_answer_counts (peers p) g oid wanted t.objects (own_peers p oid))
      frames fine

  applies_query_pays : (tid : List ℕ) (target : Ref) (wanted : List ℕ) (fs : List Frame) (n : Hold → ℕ) (t : Tables) → strays g (object_in target) ≡ 0 → frames_count (stray g) fs ≡ 0
      → ((h : Hold) → Covers h (n h + frames_have g h fs) t) → Pays p 0 t (applies_query g tid target wanted fs t).tables
  unfolding total
  applies_query_pays tid null wanted fs n t told frames fine = pays_same p t
  applies_query_pays tid (own oid face) wanted fs n t told frames fine = own_query_pays tid oid face wanted fs n t (omega arith) frames fine
  applies_query_pays tid (peer oid face) wanted fs n t told frames fine = calls_peer_pays tid oid face 0 (query_args wanted) fs t

  -- ---- new objects

  making_pays : (behaviour : ℕ) (face to : List ℕ) (b : Body) (fs : List Frame) (t : Tables) → Pays p 0 t (applies_making g behaviour face to b fs t).tables
  making_pays behaviour face to b fs t =
      pays_on (makes_default_pays behaviour t) (gains_own_pays (holder.Frame b.number) (suc t.objects_made) face (makes_default g behaviour t))

  -- the frame ends with an object of this end
  returns_pays : (tid : List ℕ) (b : Body) (number : ℕ) (fs : List Frame) (n : Hold → ℕ) (t : Tables) → frames_count (stray g) (body b ∷ fs) ≡ 0
      → ((h : Hold) → Covers h (n h + frames_have g h (body b ∷ fs)) t)
      → Pays p 0 t (ends_frame g tid b (returned (v.ref (own (own_oid g number) x_interface_name)) []) fs t).tables
  returns_pays tid b number fs n t frames fine =
      ends_frame_pays g p foreign tid b (returned (v.ref (own (own_oid g number) x_interface_name)) []) fs n t
      (object_alone (stray g) (own_oid g number) x_interface_name ∙ own_told g number x_interface_name)
      frames (own_backed p (own_oid g number) x_interface_name t) fine

  creating_pays : (tid : List ℕ) (b : Body) (name : List ℕ) (made : Result Created Refusal) (fs : List Frame) (n : Hold → ℕ) (t : Tables)
      → created_counts (stray g) made ≡ 0 → (holders p t.holdings ≡ 0 → created_counts (peers p) made ≡ 0) → frames_count (stray g) (body b ∷ fs) ≡ 0
      → ((h : Hold) → Covers h (n h + frames_have g h (body b ∷ fs)) t) → Pays p 0 t (applies_creating g tid b name made fs t).tables
  unfolding applies_creating
  creating_pays tid b name (Ok (fresh behaviour fields)) fs n t told back frames fine =
      pays_on (makes_pays behaviour fields t told back)
      (returns_pays tid b (suc t.objects_made) fs n (makes_object behaviour fields t) frames (λ h. makes_covers behaviour fields h (n h + frames_have g h (body b ∷ fs)) t (fine h)))
  creating_pays tid b name (Ok (singleton place)) fs n t told back frames fine = returns_pays tid b (singleton_object g.plan place) fs n t frames fine
  creating_pays tid b name (Err why) fs n t told back frames fine =
      let left = leaving_frame_counts (stray g) g.registry tid b (raised (kd.exception exception_name) (refusal_exception why name)) in
      let nothing = refusal_counts (stray g) (kd.exception exception_name) why name in
      ends_frame_pays g p foreign tid b (leaving_frame g.registry tid b (raised (kd.exception exception_name) (refusal_exception why name))) fs n t (omega arith) frames
      (λ none.
      let over = leaving_frame_counts (peers p) g.registry tid b (raised (kd.exception exception_name) (refusal_exception why name)) in
      let no_peers = refusal_counts (peers p) (kd.exception exception_name) why name in omega arith)
      fine

  -- ---- effects

  -- what an effect refers to is told right and backed
  pub applies_pays : (tid : List ℕ) (b : Body) (fs : List Frame) (e : Effect) (n : Hold → ℕ) (t : Tables) → effect_counts (stray g) e ≡ 0
      → (holders p t.holdings ≡ 0 → effect_counts (peers p) e ≡ 0) → frames_count (stray g) (body b ∷ fs) + objects_count (stray g) t.objects ≡ 0
      → ((h : Hold) → Covers h (n h + frames_have g h (body b ∷ fs)) t) → Pays p 0 t (applies g tid b fs e t).tables
  unfolding applies held_by let_go_by total
  applies_pays tid b fs (lets x) n t told back free fine = exchanges (holder.Frame b.number) (refs x.value) [] t told refl back
  applies_pays tid b fs (sets x) n t told back free fine =
      let all = body_counts (stray g) b fs in
      let one = under_at_most (stray g) x.name b.variables in
      exchanges (holder.Frame b.number) (refs x.value) (refs (value_under x.name b.variables)) t told (omega arith) back
  applies_pays tid b fs (sets_field x) n t told back free fine = field_pays x b fs t told back (omega arith)
  applies_pays tid b fs (drops name) n t told back free fine =
      let all = body_counts (stray g) b fs in
      let one = under_at_most (stray g) name b.variables in
      exchanges (holder.Frame b.number) [] (refs (value_under name b.variables)) t refl (omega arith) (nothing_backed p t)
  applies_pays tid b fs skips n t told back free fine = exchanges (holder.Frame b.number) [] [] t refl refl (nothing_backed p t)
  applies_pays tid b fs (calls target function args to) n t told back free fine =
      applies_call_pays tid target function args (body b ∷ fs) t (omega arith) (λ none. let all = back none in omega arith)
  applies_pays tid b fs (queries target wanted to) n t told back free fine = applies_query_pays tid target wanted (body b ∷ fs) n t told (omega arith) fine
  applies_pays tid b fs (makes behaviour face to) n t told back free fine = making_pays behaviour face to b fs t
  applies_pays tid b fs disposes n t told back free fine = pays_same p t
  applies_pays tid b fs (creates name args) n t told back free fine =
      creating_pays tid b name (created g.plan g.registry name args) fs n t (created_refs (stray g) g.registry g.plan name args told)
      (λ none. created_refs (peers p) g.registry g.plan name args (back none)) (omega arith) fine
  applies_pays tid b fs (returns x outs) n t told back free fine = ends_frame_pays g p foreign tid b (returned x outs) fs n t told (omega arith) back fine
  applies_pays tid b fs (raises k x) n t told back free fine = ends_frame_pays g p foreign tid b (raised k x) fs n t told (omega arith) back fine
