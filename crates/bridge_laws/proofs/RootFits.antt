-- What roots do leaves a side of which all may be said, where what they give may be.
use Rattle.std.proofs.Common.{◌≡◌, ℕ, suc, ◌≤◌, ◌<◌, Bool, true, false, nat_lt, if◌then◌else◌, List, [], length, Option, None, Some, slice_get, refl, sym, ap, ◌∙◌, subst, arith}
use Rattle.std.specs.List.{list_all}
use Rattle.std.proofs.lemmas.Bool.{ltb-false}
use Rattle.message_model.specs.Calls.{kinds_on, argument_kinds}
use Rattle.message_model.specs.Messages.{Answer, returned, request}
use Rattle.message_model.specs.Sayable.{MayBeSaid, IsThread, IsCalled, message_weight}
use Rattle.uno_model.specs.BuiltIn.{x_interface_name}
use Rattle.uno_model.specs.Fits.{Fits, FitEach, IsInterface}
use Rattle.uno_model.specs.Functions.{Function}
use Rattle.uno_model.specs.Kinds as kd
use Rattle.uno_model.specs.Values.{Ref, null, own, peer, Plain, plains, refs, depth_in}
use Rattle.table_model.specs.declared.holder.Holder.TheVariants as holder
use Rattle.plan_model.specs.Evaluation.{is_heavy, is_deep}
use Rattle.plan_model.specs.Forms.{is_export_name}
use Rattle.plan_model.specs.Leaving.{caused}
use Rattle.plan_model.specs.Plans.{supports, first_objects}
use Rattle.plan_model.specs.declared.runtime_cause.RuntimeCause.{RuntimeCause}
use Rattle.plan_model.specs.declared.runtime_cause.RuntimeCause.TheVariants.{TooLarge, TooDeep}
use Rattle.plan_typing.specs.Effects.{MakingFits}
use Rattle.bridge_laws.specs.Counting.{total}
use Rattle.bridge_laws.proofs.HandingLaws.{returned_owes}
use Rattle.bridge_laws.proofs.LivingEffectLaws.{defaults_of_fields}
use Rattle.bridge_laws.proofs.VariableLaws.{values_none}
use Rattle.bridge_model.specs.Calls.{query_args, calls_own, calls_peer}
use Rattle.bridge_model.specs.Objects.{object_answer, fields_of, makes_default, defaults_of}
use Rattle.bridge_model.specs.References.{gains, gains_all, lets_go, loses, refs_of_values}
use Rattle.bridge_model.specs.Roots.{holds_each, holds_pair, answered_before, is_answered, bottom, begins_call, calls_unless, root_calls, gets_at_once, asks_peer, begins_query, queries_unless, root_queries, asks_unless, root_asks, root_makes, root_drops, root_takes}
use Rattle.bridge_model.specs.Settings.{Setting, own_oid, root_tid, ref_of, is_own, is_told}
use Rattle.bridge_model.specs.Sides.{Object, Tables, Side, stands, waits_call, waits_query, with_root, idle, answered, answer}
use Rattle.bridge_laws.specs.Giving.{MayBeCalled}
use Rattle.bridge_laws.proofs.Fine.{wrong}
use Rattle.bridge_laws.proofs.FramesFit.{FramesFit}
use Rattle.bridge_laws.proofs.TypedGiven.{IsGiven}
use Rattle.bridge_laws.proofs.ObjectsFit.{ObjectsFit}
use Rattle.bridge_laws.proofs.SideFits.{SideFits}
use Rattle.bridge_laws.proofs.TablesFit.{TablesFit}
use Rattle.bridge_laws.proofs.BeginFits.{calls_own_fits, calls_peer_fits}
use Rattle.bridge_laws.proofs.FineLaws.{own_fine, fine_peer}
use Rattle.bridge_laws.proofs.NameLaws.{ask_foreign}
use Rattle.bridge_laws.proofs.CreatedFits.{place_within, faces_are}
use Rattle.bridge_laws.proofs.HandingFits.{root_gets_fits}
use Rattle.bridge_laws.proofs.MakingFits.{push_lasts, defaults_fit, made_now, made_fit, made_fine, makes_fits}
use Rattle.bridge_laws.proofs.QueryFits.{object_goes, query_is}
use Rattle.bridge_laws.proofs.FittingSideLaws.{stacks_last, unwound_fits, tabled_fits}
use Rattle.bridge_laws.proofs.TableLaws.{gains_fits, gains_all_fits, loses_fits, lets_go_fits}
use Rattle.bridge_laws.proofs.HeldFits.{ref_held, each_held}

-- ---- calls

-- a request that is not too heavy begins
begins_by : (n : ℕ) (heavy deep : Bool) → nat_lt 16777216 n ≡ heavy → (if heavy then Some TooLarge else (if deep then Some TooDeep else None)) ≡ None → n ≤ 16777216
begins_by n true deep is none = absurd (cc)
begins_by n false deep is none = ltb-false 16777216 n is

light_before : (tid oid face : List ℕ) (function : ℕ) (args : List Plain) → answered_before tid oid face function args ≡ None → message_weight (request tid oid face function args) ≤ 16777216
unfolding answered_before is_heavy
light_before tid oid face function args none =
    begins_by (message_weight (request tid oid face function args)) (nat_lt 16777216 (message_weight (request tid oid face function args))) (is_deep (depth_in (plains args))) refl none

-- and one that is not too deep
shallow_by : (n : ℕ) (heavy deep : Bool) → nat_lt 64 n ≡ deep → (if heavy then Some TooLarge else (if deep then Some TooDeep else None)) ≡ None → n ≤ 64
shallow_by n true deep is none = absurd (cc)
shallow_by n false true is none = absurd (cc)
shallow_by n false false is none = ltb-false 64 n is

shallow_before : (tid oid face : List ℕ) (function : ℕ) (args : List Plain) → answered_before tid oid face function args ≡ None → depth_in (plains args) ≤ 64
unfolding answered_before is_deep
shallow_before tid oid face function args none =
    shallow_by (depth_in (plains args)) (is_heavy (message_weight (request tid oid face function args))) (nat_lt 64 (depth_in (plains args))) refl none

-- so one that fits may be said
said_before : (g : Setting) (root : ℕ) (oid face : List ℕ) (function : ℕ) (args : List Plain) → MayBeCalled g root oid face function args
    → answered_before (root_tid g root) oid face function args ≡ None → MayBeSaid g.registry (request (root_tid g root) oid face function args)
said_before g root oid face function args may none =
    (may.declared, may.called, may.thread, may.identity, record { fit = may.fit; deep = shallow_before (root_tid g root) oid face function args none })

module _ (g : Setting) (given : IsGiven g) (most root : ℕ) where
  bottom_fits : (os : List Object) (f : Function) → FramesFit g os (Some f) (bottom root)
  unfolding FramesFit
  bottom_fits os f = tt

  call_fits : (r : Ref) (oid face : List ℕ) (function : ℕ) (args : List Plain) (s : Side) (fit : SideFits g most s) → (r ≡ ref_of g oid face) → wrong g fit.os r ≡ 0
      → MayBeSaid g.registry (request (root_tid g root) oid face function args) → total (wrong g fit.os) (refs_of_values args) ≡ 0
      → message_weight (request (root_tid g root) oid face function args) ≤ 16777216 → SideFits g most (begins_call g root r function args s)
  unfolding ref_of
  call_fits null oid face function args s fit is fine may args_fine light = fit
  call_fits (own name at) oid face function args s fit is fine may args_fine light =
      let same = own_same oid face name at (is_own g oid) is in
      unwound_fits g most (root_tid g root) (calls_own g name at function args (bottom root) (with_root root waits_call s.tables)) s fit may.2
      (calls_own_fits g given fit.os fit.made name at function may.0 args (bottom root) (with_root root waits_call s.tables)
      (record { called = subst (λ f. IsCalled g.registry f function may.0) same.1 may.1; fill = may.4; fine = args_fine }) fine (bottom_fits fit.os may.0) fit.tables)
    where
      own_same : (oid face name at : List ℕ) (b : Bool) → own name at ≡ (if b then own oid face else peer oid face) → (oid ≡ name) × (face ≡ at)
      own_same oid face name at true is = (cc, cc)
      own_same oid face name at false is = absurd (cc)
  call_fits (peer name at) oid face function args s fit is fine may args_fine light =
      let same = peer_same oid face name at (is_own g oid) is in
      unwound_fits g most (root_tid g root) (calls_peer g (root_tid g root) name at function args (bottom root) (with_root root waits_call s.tables)) s fit may.2
      (calls_peer_fits g given fit.os fit.made (root_tid g root) name at function may.0 args (bottom root) (with_root root waits_call s.tables) may.2 fine
      (record { called = subst (λ f. IsCalled g.registry f function may.0) same.1 may.1; fill = may.4; fine = args_fine })
      (subst (λ n. message_weight (request (root_tid g root) n at function args) ≤ 16777216) same.0
      (subst (λ f. message_weight (request (root_tid g root) oid f function args) ≤ 16777216) same.1 light))
      (bottom_fits fit.os may.0) fit.tables)
    where
      peer_same : (oid face name at : List ℕ) (b : Bool) → peer name at ≡ (if b then own oid face else peer oid face) → (oid ≡ name) × (face ≡ at)
      peer_same oid face name at true is = absurd (cc)
      peer_same oid face name at false is = (cc, cc)

  answered_fits : (a : Answer) (s : Side) → SideFits g most s → SideFits g most (is_answered root a s)
  answered_fits a s fit = tabled_fits g most (with_root root (answered (answer a)) s.tables) s fit fit.tables

  calls_by : (oid face : List ℕ) (function : ℕ) (args : List Plain) (why : Option RuntimeCause) (s : Side) (fit : SideFits g most s)
      → answered_before (root_tid g root) oid face function args ≡ why → wrong g fit.os (ref_of g oid face) ≡ 0
      → MayBeCalled g root oid face function args → total (wrong g fit.os) (refs_of_values args) ≡ 0
      → SideFits g most (calls_unless g root oid face function args why s)
  calls_by oid face function args (Some why) s fit is fine may args_fine = answered_fits (caused why) s fit
  calls_by oid face function args None s fit is fine may args_fine =
      call_fits (ref_of g oid face) oid face function args s fit refl fine (said_before g root oid face function args may is) args_fine
      (light_before (root_tid g root) oid face function args is)

  pub root_calls_fits : (oid face : List ℕ) (function : ℕ) (args : List Plain) (s : Side) → MayBeCalled g root oid face function args
      → list_all (is_told g) (refs_of_values args) ≡ true → holds_pair root oid face s.tables ≡ true → holds_each root (refs_of_values args) s.tables ≡ true → SideFits g most s
      → SideFits g most (root_calls g root oid face function args s)
  unfolding root_calls holds_each
  root_calls_fits oid face function args s may told held each fit =
      calls_by oid face function args (answered_before (root_tid g root) oid face function args) s fit refl
      (ref_held g fit.os root oid face s.tables held fit.tables.held) may
      (each_held g fit.os root (refs_of_values args) s.tables told each fit.tables.held)

  -- ---- queries

  query_fine : (os : List Object) (wanted : List ℕ) → total (wrong g os) (refs_of_values (query_args wanted)) ≡ 0
  unfolding total refs refs_of_values
  query_fine os wanted = refl

  asked_interface : (os : List Object) (made : ℕ) (objects : ObjectsFit g os made) (oid face wanted : List ℕ) → MayBeSaid g.registry (request (root_tid g root) oid face 0 (query_args wanted))
      → IsInterface g.registry wanted
  unfolding Fits FitEach kinds_on
  asked_interface os made objects oid face wanted may =
      (subst (λ (h : Function). FitEach g.registry (plains (query_args wanted)) (argument_kinds h)) (query_is g given os made objects face may.0 may.1) may.4.fit).0.1

  asks_fits : (oid face wanted : List ℕ) (s : Side) (fit : SideFits g most s) → wrong g fit.os (peer oid face) ≡ 0 → MayBeSaid g.registry (request (root_tid g root) oid face 0 (query_args wanted))
      → message_weight (request (root_tid g root) oid face 0 (query_args wanted)) ≤ 16777216 → SideFits g most (asks_peer g root oid face wanted s)
  asks_fits oid face wanted s fit fine may light =
      unwound_fits g most (root_tid g root) (calls_peer g (root_tid g root) oid face 0 (query_args wanted) (bottom root) (with_root root (waits_query wanted) s.tables)) s fit may.2
      (calls_peer_fits g given fit.os fit.made (root_tid g root) oid face 0 may.0 (query_args wanted) (bottom root) (with_root root (waits_query wanted) s.tables) may.2 fine
      (record { called = may.1; fill = may.4; fine = query_fine fit.os wanted }) light (bottom_fits fit.os may.0) fit.tables)

  at_once_fits : (os : List Object) (made : ℕ) (objects : ObjectsFit g os made) (oid wanted : List ℕ) (t : Tables) → IsThread (root_tid g root) → is_own g oid ≡ true
      → IsInterface g.registry wanted → TablesFit g os made t → TablesFit g os made (gets_at_once g root wanted (object_answer g oid (kd.interface wanted) t.objects) t)
  at_once_fits os made objects oid wanted t thread told there fit =
      let x = object_answer g oid (kd.interface wanted) os in
      let goes = object_goes g given os made objects oid (kd.interface wanted) told (λ other is. subst (IsInterface g.registry) (same_face wanted other is) there) in
      let parts = returned_owes (wrong g os) x [] in let none = values_none (wrong g os) in let fine = goes.fine in
      subst (λ now. TablesFit g os made (gets_at_once g root wanted (object_answer g oid (kd.interface wanted) now) t)) (sym fit.same)
      (root_gets_fits g given os made (root_tid g root) thread root (waits_query wanted) (returned x []) (gains_all (holder.Root root) (refs x) t) (omega arith)
      (gains_all_fits g given os made (holder.Root root) (refs x) t goes.fine fit))
    where
      same_face : (wanted other : List ℕ) → kd.interface wanted ≡ kd.interface other → wanted ≡ other
      same_face wanted other is = cc

  same_fine : (os : List Object) {oid name face at : List ℕ} → oid ≡ name → face ≡ at → wrong g os (peer name at) ≡ 0 → wrong g os (peer oid face) ≡ 0
  same_fine os {oid} {name} {face} {at} p q fine = ap (λ n. wrong g os (peer n face)) p ∙ (ap (λ f. wrong g os (peer name f)) q ∙ fine)

  query_fits : (r : Ref) (oid face wanted : List ℕ) (s : Side) (fit : SideFits g most s) → (r ≡ ref_of g oid face) → wrong g fit.os r ≡ 0
      → MayBeSaid g.registry (request (root_tid g root) oid face 0 (query_args wanted)) → message_weight (request (root_tid g root) oid face 0 (query_args wanted)) ≤ 16777216
      → SideFits g most (begins_query g root r wanted s)
  unfolding ref_of
  query_fits null oid face wanted s fit is fine may light = fit
  query_fits (own name at) oid face wanted s fit is fine may light =
      tabled_fits g most (gets_at_once g root wanted (object_answer g name (kd.interface wanted) s.tables.objects) s.tables) s fit
      (at_once_fits fit.os fit.made fit.objects name wanted s.tables may.2 (own_fine g fit.os name at fine).told
      (asked_interface fit.os fit.made fit.objects oid face wanted may) fit.tables)
  query_fits (peer name at) oid face wanted s fit is fine may light =
      subst (λ n. SideFits g most (asks_peer g root n at wanted s)) (peer_same (is_own g oid) is).0
      (subst (λ f. SideFits g most (asks_peer g root oid f wanted s)) (peer_same (is_own g oid) is).1
      (asks_fits oid face wanted s fit (same_fine fit.os (peer_same (is_own g oid) is).0 (peer_same (is_own g oid) is).1 fine) may light))
    where
      peer_same : (b : Bool) → peer name at ≡ (if b then own oid face else peer oid face) → (oid ≡ name) × (face ≡ at)
      peer_same true is = absurd (cc)
      peer_same false is = (cc, cc)

  queries_by : (oid face wanted : List ℕ) (why : Option RuntimeCause) (s : Side) (fit : SideFits g most s) → answered_before (root_tid g root) oid face 0 (query_args wanted) ≡ why
      → wrong g fit.os (ref_of g oid face) ≡ 0 → MayBeSaid g.registry (request (root_tid g root) oid face 0 (query_args wanted)) → SideFits g most (queries_unless g root oid face wanted why s)
  queries_by oid face wanted (Some why) s fit is fine may = answered_fits (caused why) s fit
  queries_by oid face wanted None s fit is fine may =
      query_fits (ref_of g oid face) oid face wanted s fit refl fine may (light_before (root_tid g root) oid face 0 (query_args wanted) is)

  pub root_queries_fits : (oid face wanted : List ℕ) (s : Side) → MayBeSaid g.registry (request (root_tid g root) oid face 0 (query_args wanted)) → holds_pair root oid face s.tables ≡ true
      → SideFits g most s → SideFits g most (root_queries g root oid face wanted s)
  unfolding root_queries
  root_queries_fits oid face wanted s may held fit =
      queries_by oid face wanted (answered_before (root_tid g root) oid face 0 (query_args wanted)) s fit refl (ref_held g fit.os root oid face s.tables held fit.tables.held) may

  asks_by : (name wanted : List ℕ) (why : Option RuntimeCause) (s : Side) → SideFits g most s → answered_before (root_tid g root) name x_interface_name 0 (query_args wanted) ≡ why → is_export_name name ≡ true
      → MayBeSaid g.registry (request (root_tid g root) name x_interface_name 0 (query_args wanted)) → SideFits g most (asks_unless g root name wanted why s)
  asks_by name wanted (Some why) s fit is form may = answered_fits (caused why) s fit
  asks_by name wanted None s fit is form may =
      asks_fits name x_interface_name wanted s fit
      (fine_peer g fit.os name x_interface_name (record { told = ask_foreign g name form; identity = may.3; interface = may.1.interface })) may (light_before (root_tid g root) name x_interface_name 0 (query_args wanted) is)

  pub root_asks_fits : (name wanted : List ℕ) (s : Side) → is_export_name name ≡ true → MayBeSaid g.registry (request (root_tid g root) name x_interface_name 0 (query_args wanted)) → SideFits g most s
      → SideFits g most (root_asks g root name wanted s)
  unfolding root_asks
  root_asks_fits name wanted s form may fit = asks_by name wanted (answered_before (root_tid g root) name x_interface_name 0 (query_args wanted)) s fit refl form may

  -- ---- objects and references

  pub root_makes_fits : (behaviour : ℕ) (wanted : List ℕ) (s : Side) → MakingFits g.registry g.plan behaviour wanted → most < 2000000 → SideFits g most s
      → SideFits g (suc most) (root_makes g root behaviour wanted s)
  unfolding root_makes
  root_makes_fits behaviour wanted s making room fit =
      let before = fit.counted in let opened = fit.opened in
      let values = defaults_of g behaviour in
      let fields = defaults_fit g given behaviour in
      let fine = defaults_of_fields (wrong g fit.os) g.registry (fields_of g behaviour) in
      let supported = subst (λ faces. supports g.registry faces wanted ≡ true) (sym (faces_are g given behaviour making.made making.found)) making.supported in
      let few : fit.made < 2000000 = omega arith in
      let next : (k : ℕ) → slice_get (first_objects g.plan) fit.made ≡ Some k → behaviour ≡ k =
      λ k is. none_next fit.made behaviour k opened is in
      let now = made_now fit.made behaviour values fit.os in
      record {
        os = now;
        made = suc fit.made;
        objects = made_fit g given fit.os fit.made fit.objects few behaviour values fields fine next;
        tables =
            subst (λ n. TablesFit g now (suc fit.made) (gains (holder.Root root) (own (own_oid g (suc n)) wanted) (makes_default g behaviour s.tables))) (sym fit.tables.counted)
            (gains_fits g given now (suc fit.made) (holder.Root root) (own (own_oid g (suc fit.made)) wanted) (makes_default g behaviour s.tables)
            (made_fine g given fit.os fit.made fit.objects few behaviour values fields fine next wanted making.interface supported)
            (makes_fits g given fit.os fit.made fit.objects few behaviour values fields fine next s.tables fit.tables));
        stacks = stacks_last g fit.os now (push_lasts g fit.os (record { number = suc fit.made; behaviour = behaviour; fields = values })) s.stacks fit.stacks;
        apart = fit.apart;
        heard = fit.heard;
        opened = omega arith;
        counted = omega arith;
      }
    where
      none_next : (made behaviour k : ℕ) → length (first_objects g.plan) ≤ made → slice_get (first_objects g.plan) made ≡ Some k → behaviour ≡ k
      none_next made behaviour k opened is = let within = place_within (first_objects g.plan) made k is in absurd (omega arith)

  drops_by : (b : Bool) (oid face : List ℕ) (s : Side) (fit : SideFits g most s) → wrong g fit.os (ref_of g oid face) ≡ 0
      → TablesFit g fit.os fit.made ((if b then lets_go g (holder.Root root) (ref_of g oid face) else loses (holder.Root root) (ref_of g oid face)) s.tables)
  drops_by true oid face s fit fine = lets_go_fits g given fit.os fit.made (holder.Root root) (ref_of g oid face) s.tables fine fit.tables
  drops_by false oid face s fit fine = loses_fits g given fit.os fit.made (holder.Root root) (ref_of g oid face) s.tables fit.tables

  pub root_drops_fits : (oid face : List ℕ) (s : Side) → holds_pair root oid face s.tables ≡ true → SideFits g most s → SideFits g most (root_drops g root oid face s)
  unfolding root_drops
  root_drops_fits oid face s held fit =
      tabled_fits g most ((if stands s then lets_go g (holder.Root root) (ref_of g oid face) else loses (holder.Root root) (ref_of g oid face)) s.tables) s fit
      (drops_by (stands s) oid face s fit (ref_held g fit.os root oid face s.tables held fit.tables.held))

  pub root_takes_fits : (s : Side) → SideFits g most s → SideFits g most (root_takes root s)
  unfolding root_takes
  root_takes_fits s fit = tabled_fits g most (with_root root idle s.tables) s fit fit.tables
