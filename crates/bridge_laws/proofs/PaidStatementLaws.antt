-- What is paid when a statement is run: what it works out is told right, and held by its frame or its object.
use Rattle.std.proofs.Common.{◌≡◌, ℕ, ◌+◌, ◌≤◌, Bool, true, false, ◌==◌, if◌then◌else◌, List, [], ◌∷◌, find, Option, None, Some, refl, ap, subst, arith}
use Rattle.uno_model.specs.Values.{Ref, own, object_in}
use Rattle.table_model.specs.Holdings.{Hold, hold, holders}
use Rattle.table_model.specs.Pair.{Pair}
use Rattle.table_model.specs.declared.holder.Holder.TheVariants as holder
use Rattle.plan_model.specs.Asking.{Effect, lets, sets, sets_field, drops, skips, calls, queries, makes, disposes, creates, returns, raises}
use Rattle.plan_model.specs.Frames.{Body, Frame, base, body, outgoing, frames_of}
use Rattle.plan_model.specs.Holdings.{refs_under}
use Rattle.bridge_model.specs.Applying.{applies, effect_at, job_of}
use Rattle.bridge_model.specs.Ends.{ends_by}
use Rattle.bridge_model.specs.Objects.{object_numbered, variables_of}
use Rattle.bridge_model.specs.References.{refs_of_values}
use Rattle.bridge_model.specs.Settings.{Setting, is_own, own_oid}
use Rattle.bridge_model.specs.Sides.{Object, Tables, Side, stands}
use Rattle.bridge_model.specs.Steps.{Picked, picked_in, picked, applies_effect, applies_picked}
use Rattle.bridge_laws.specs.Counting.{total}
use Rattle.bridge_laws.specs.Living.{plan_constants}
use Rattle.bridge_laws.proofs.ApplyingCountLaws.{variables_of_counts, IsUncounted, IsTargetUncounted, applies_free}
use Rattle.bridge_laws.proofs.BackingLaws.{backed_by, own_told}
use Rattle.bridge_laws.proofs.EffectLaws.{effect_counts}
use Rattle.bridge_laws.proofs.FrameCountLaws.{frames_count, body_counts}
use Rattle.bridge_laws.proofs.HandingLaws.{frames_have, body_parts, method_more}
use Rattle.bridge_laws.proofs.JobLaws.{job_counts}
use Rattle.bridge_laws.proofs.ObjectLaws.{object_has, objects_more, fields_in, variables_owe}
use Rattle.bridge_laws.proofs.OccurrenceLaws.{objects_have, Covers}
use Rattle.bridge_laws.proofs.PaidApplyingLaws.{own_peers, any_face, applies_pays}
use Rattle.bridge_laws.proofs.PaidEntryLaws.{Moves, moves_unwound, moves_same}
use Rattle.bridge_laws.proofs.PaidSideLaws.{InOrder}
use Rattle.bridge_laws.proofs.PayingLaws.{peers, stray, strays, Backed}
use Rattle.bridge_laws.proofs.SeatLaws.{is_seated, frames_seated, applies_seated}
use Rattle.bridge_laws.proofs.SideLaws.{apart, thread_covers}
use Rattle.bridge_laws.proofs.StackCountLaws.{thread_counts}
use Rattle.bridge_laws.proofs.VariableLaws.{values_none}

-- ---- what the frame and its object have is held

-- what frames and objects have is held, of one more
pub variables_backed : (g : Setting) (p : Pair) (b : Body) (fs : List Frame) (n : Hold → ℕ) (t : Tables) → ((h : Hold) → Covers h (n h + frames_have g h (body b ∷ fs)) t)
    → Backed p (refs_under b.variables) t
variables_backed g p b fs n t fine =
    backed_by p (holder.Frame b.number) (refs_under b.variables) t
    (let here = fine (hold (holder.Frame b.number) p) in
    let all = method_more g (hold (holder.Frame b.number) p) b fs in
    let parts = body_parts g (hold (holder.Frame b.number) p) b in omega arith)

some_same : (x o : Object) → ◌≡◌ {A = Option Object} (Some x) (Some o) → x ≡ o
some_same x o is = cc

found_by : (h : Hold) (b : Bool) (x o : Object) (os : List Object) (rest : Option Object) → (rest ≡ Some o → object_has h o ≤ objects_have h os) → (if b then Some x else rest) ≡ Some o
    → object_has h o ≤ objects_have h (x ∷ os)
found_by h true x o os rest behind is = let same : object_has h x ≡ object_has h o = ap (object_has h) (some_same x o is) in let all = objects_more h x os in omega arith
found_by h false x o os rest behind is = let more = behind is in let all = objects_more h x os in omega arith

-- an object that is found has no more than all
found_has : (h : Hold) (n : ℕ) (os : List Object) (o : Object) → object_numbered n os ≡ Some o → object_has h o ≤ objects_have h os
unfolding object_numbered
found_has h n [] o is = absurd (cc)
found_has h n (x ∷ os) o is = found_by h (n == x.number) x o os (find (λ o. n == o.number) os) (found_has h n os o) is

fields_backed_by : (p : Pair) (n : ℕ) (t : Tables) (more : Hold → ℕ) (o : Option Object) → object_numbered n t.objects ≡ o → ((h : Hold) → Covers h (more h) t)
    → Backed p (refs_of_values (fields_in o)) t
fields_backed_by p n t more None is fine none = values_none (peers p)
fields_backed_by p n t more (Some o) is fine none =
    backed_by p (holder.Object o.number) (refs_of_values o.fields) t
    (let here = fine (hold (holder.Object o.number) p) in let found = found_has (hold (holder.Object o.number) p) n t.objects o is in omega arith) none

pub fields_backed : (g : Setting) (p : Pair) (n : ℕ) (t : Tables) (more : Hold → ℕ) → ((h : Hold) → Covers h (more h) t) → Backed p (refs_under (variables_of g (object_numbered n t.objects))) t
fields_backed g p n t more fine none =
    let fields = fields_backed_by p n t more (object_numbered n t.objects) refl fine none in
    let most = variables_owe (peers p) g (object_numbered n t.objects) in omega arith

-- ---- what it works out

no_constants : (f : Ref → ℕ) (rs : List Ref) → rs ≡ [] → total f rs ≡ 0
unfolding total
no_constants f rs none = ap (total f) none

-- what counts nothing in the frame, in its object's fields and of that object counts nothing in what is worked out
pub works_out : (f : Ref → ℕ) (g : Setting) (tid : List ℕ) (b : Body) (fs : List Frame) (t : Tables) → plan_constants g.plan ≡ [] → IsUncounted f (own_oid g b.object)
    → total f (refs_under b.variables) ≡ 0 → total f (refs_under (variables_of g (object_numbered b.object t.objects))) ≡ 0 → effect_counts f (effect_at g tid b fs t) ≡ 0
unfolding job_of
works_out f g tid b fs t closed itself variables fields =
    job_counts f g.registry g.plan (job_of g tid b fs t) b refl variables fields itself (no_constants f (plan_constants g.plan) closed)

query_known : (g : Setting) (target : Ref) → strays g (object_in target) ≡ 0 → (oid face : List ℕ) → target ≡ own oid face → IsUncounted (stray g) oid
unfolding total
query_known g target told oid face is =
    any_face g oid face (let one : strays g (object_in target) ≡ stray g (own oid face) + 0 = ap (λ r. strays g (object_in r)) is in omega arith)

target_known : (g : Setting) (e : Effect) → effect_counts (stray g) e ≡ 0 → IsTargetUncounted (stray g) e
target_known g (queries target wanted to) told = query_known g target told
target_known g (lets x) told = tt
target_known g (sets x) told = tt
target_known g (sets_field x) told = tt
target_known g (drops name) told = tt
target_known g skips told = tt
target_known g (calls target function args to) told = tt
target_known g (makes behaviour face to) told = tt
target_known g disposes told = tt
target_known g (creates name args) told = tt
target_known g (returns x outs) told = tt
target_known g (raises k x) told = tt

module _ (g : Setting) (p : Pair) (foreign : is_own g p.oid ≡ false) (closed : plan_constants g.plan ≡ []) where
  -- the frames of a thread behind an effect that does not end the bridge
  effect_moves : (tid : List ℕ) (q : Picked) (e : Effect) (s : Side) → stands (applies_effect g tid q e s) ≡ true → effect_counts (stray g) e ≡ 0
      → (holders p s.tables.holdings ≡ 0 → effect_counts (peers p) e ≡ 0) → frames_of tid s.stacks ≡ body q.method ∷ q.below → InOrder g s → Moves g p s (applies_effect g tid q e s)
  unfolding ends_by
  effect_moves tid q disposes s up told back is order = absurd (cc)
  effect_moves tid q e s up told back is order =
      let before = order.free in
      let thread = thread_counts (stray g) tid s.stacks in
      let same : frames_count (stray g) (frames_of tid s.stacks) ≡ frames_count (stray g) (body q.method ∷ q.below) = ap (frames_count (stray g)) is in
      moves_unwound g p tid (applies g tid q.method q.below e s.tables) s
      (applies_pays g p foreign tid q.method q.below e (λ h. apart g h tid s.stacks) s.tables told back (omega arith)
      (λ h. subst (λ fs. Covers h (apart g h tid s.stacks + frames_have g h fs) s.tables) is (thread_covers g tid h s (order.covered h))))
      (applies_free (stray g) g tid q.method q.below e s.tables (λ n face. own_told g n face) (target_known g e told) told (omega arith))
      (applies_seated g tid q.method q.below e s.tables (subst (λ fs. is_seated fs ≡ true) is (frames_seated tid s.stacks order.seated)))
      order

  body_moves : (tid : List ℕ) (b : Body) (fs : List Frame) (s : Side) → frames_of tid s.stacks ≡ body b ∷ fs → InOrder g s
      → stands (applies_effect g tid (record { method = b; below = fs }) (effect_at g tid b fs s.tables) s) ≡ true
      → Moves g p s (applies_effect g tid (record { method = b; below = fs }) (effect_at g tid b fs s.tables) s)
  body_moves tid b fs s is order up =
      let before = order.free in
      let thread = thread_counts (stray g) tid s.stacks in
      let same : frames_count (stray g) (frames_of tid s.stacks) ≡ frames_count (stray g) (body b ∷ fs) = ap (frames_count (stray g)) is in
      let all = body_counts (stray g) b fs in
      let fields = variables_of_counts (stray g) g b.object s.tables.objects in
      let covers : (h : Hold) → Covers h (apart g h tid s.stacks + frames_have g h (body b ∷ fs)) s.tables =
      λ h. subst (λ fs. Covers h (apart g h tid s.stacks + frames_have g h fs) s.tables) is (thread_covers g tid h s (order.covered h)) in
      effect_moves tid (record { method = b; below = fs }) (effect_at g tid b fs s.tables) s up
      (works_out (stray g) g tid b fs s.tables closed (λ face. own_told g b.object face) (omega arith) (omega arith))
      (λ none.
      works_out (peers p) g tid b fs s.tables closed (λ face. own_peers p (own_oid g b.object) face)
      (variables_backed g p b fs (λ h. apart g h tid s.stacks) s.tables covers none)
      (fields_backed g p b.object s.tables (λ h. apart g h tid s.stacks + frames_have g h (body b ∷ fs)) covers none))
      is order

  picked_moves : (tid : List ℕ) (fs : List Frame) (s : Side) → frames_of tid s.stacks ≡ fs → InOrder g s → stands (applies_picked g tid (picked_in fs) s) ≡ true
      → Moves g p s (applies_picked g tid (picked_in fs) s)
  picked_moves tid [] s is order up = moves_same g p s order
  picked_moves tid (base root ∷ fs) s is order up = moves_same g p s order
  picked_moves tid (outgoing o ∷ fs) s is order up = moves_same g p s order
  picked_moves tid (body b ∷ fs) s is order up = body_moves tid b fs s is order up

  pub applied_moves : (tid : List ℕ) (s : Side) → InOrder g s → stands (applies_picked g tid (picked tid s) s) ≡ true → Moves g p s (applies_picked g tid (picked tid s) s)
  unfolding picked
  applied_moves tid s order up = picked_moves tid (frames_of tid s.stacks) s refl order up
