-- All own objects that are held or that were sent out live, in every history: a method refers to what it has, and that is held.
use Rattle.std.proofs.Common.{◌≡◌, ℕ, suc, ◌+◌, ◌≤◌, Bool, true, false, not, ◌==◌, if◌then◌else◌, List, [], ◌∷◌, length, Option, None, Some, refl, ap, ◌∙◌, subst, arith}
use Rattle.std.proofs.lemmas.Bool.{and_parts}
use Rattle.std.specs.List.{list_all}
use Rattle.std.specs.Ordering.{is_eq}
use Rattle.std.specs.Cmp.{tied_itself}
use Rattle.uno_model.specs.Values.{Ref, null, own, peer, Plain}
use Rattle.table_model.specs.Bags.{how_often}
use Rattle.table_model.specs.Holdings.{Hold, hold, hold_cmp, Holdings}
use Rattle.table_model.specs.Pair.{pair}
use Rattle.table_model.specs.declared.holder.Holder.{Holder}
use Rattle.table_model.specs.declared.holder.Holder.TheVariants as holder
use Rattle.table_model.proofs.HoldLaws.{hold_order}
use Rattle.plan_model.specs.Asking.{Effect, disposes}
use Rattle.plan_model.specs.Frames.{Body, Frame, body, frames_of}
use Rattle.plan_model.specs.Holdings.{refs_under}
use Rattle.bridge_model.specs.Applying.{job_of, applies, effect_at}
use Rattle.bridge_model.specs.Entries.{Entry, fed, ended, failed, asked, called, queried, made, dropped, applied, took, reaped, drained, disposed, full, no_memory, counts}
use Rattle.bridge_model.specs.Going.{drains}
use Rattle.bridge_model.specs.Histories.{Told, nothing_told, told_more, told_by, tells, tells_all, replay, Leads}
use Rattle.bridge_model.specs.Objects.{object_numbered, variables_of, lowest}
use Rattle.bridge_model.specs.References.{refs_of_values}
use Rattle.bridge_model.specs.Roots.{holds_each, holds_pair}
use Rattle.bridge_model.specs.Settings.{Setting, own_oid, is_told}
use Rattle.bridge_model.specs.Sides.{Object, Tables, Side, stands}
use Rattle.bridge_model.specs.Steps.{Turn, turn, step, may, may_begin, may_give, has_entries, Picked, picked_in, picked, applies_effect, applies_picked, does}
use Rattle.bridge_model.specs.declared.cause.Cause.TheVariants as cause
use Rattle.bridge_laws.specs.Counting.{total, one_if}
use Rattle.bridge_laws.specs.Covering.{object_holds}
use Rattle.bridge_laws.specs.Living.{plan_constants, entry_refs, are_told, HeldLives}
use Rattle.bridge_laws.proofs.CoveringLaws.{kept, opening_covers}
use Rattle.bridge_laws.proofs.EffectLaws.{effect_counts}
use Rattle.bridge_laws.proofs.HandingLaws.{frames_have, body_has, body_parts, method_more}
use Rattle.bridge_laws.proofs.IdentityLaws.{given_own}
use Rattle.bridge_laws.proofs.JobLaws.{job_counts}
use Rattle.bridge_laws.proofs.LivingEffectLaws.{found_told, applies_lives}
use Rattle.bridge_laws.proofs.LivingFrameLaws.{frames_untold, body_told}
use Rattle.bridge_laws.proofs.LivingRootLaws.{held_unstray, root_calls_lives, root_queries_lives, root_asks_lives, root_makes_lives, root_drops_lives, root_takes_lives}
use Rattle.bridge_laws.proofs.LivingSideLaws.{first_count, LivesIn, thread_untold, unwound_lives, ends_by_lives, runs_out_lives, feeds_lives}
use Rattle.bridge_laws.proofs.LivingTableLaws.{AliveIn}
use Rattle.bridge_laws.proofs.ObjectLaws.{object_has, fields_in, variables_owe}
use Rattle.bridge_laws.proofs.OccurrenceLaws.{times, is_hold, ref_owes, refs_owe, refs_owe_is, objects_have}
use Rattle.bridge_laws.proofs.ReapingLaws.{reaps_lives, opening_lives}
use Rattle.bridge_laws.proofs.Replays.{of_step}
use Rattle.bridge_laws.proofs.SideLaws.{SideCovers, thread_covers}
use Rattle.bridge_laws.proofs.StrayLaws.{is_stray, untold, strays, held_strays, held_lives, sent_lives}
use Rattle.bridge_laws.proofs.Sums.{found_at_most}
use Rattle.bridge_laws.proofs.VariableLaws.{values_none}

-- ---- what is held lives

-- references with a holder, each of which is held
abbrev pub AreHeld : Holder → List Ref → Holdings → Type 0
AreHeld who rs hs = (h : Hold) → refs_owe h who rs ≤ times h hs

itself : (h : Hold) → one_if (is_hold h h) ≡ 1
unfolding is_hold
itself h = ap (λ o. one_if (is_eq o)) (tied_itself hold_order h)

pub held_step : (g : Setting) (live : List ℕ → Bool) (who : Holder) (oid face : List ℕ) (rest : Hold → ℕ) (hs : Holdings) → held_strays g live hs ≡ 0
    → ((h : Hold) → one_if (is_hold h (hold who (pair oid face))) + rest h ≤ times h hs) → one_if (is_stray g live oid) ≡ 0
held_step g live who oid face rest hs none held =
    let one = itself (hold who (pair oid face)) in let here = held (hold who (pair oid face)) in
    held_unstray g live (hold who (pair oid face)) hs (omega arith) none

-- references that are told, and held, live
pub told_lives : (g : Setting) (live : List ℕ → Bool) (who : Holder) (rs : List Ref) (hs : Holdings) → held_strays g live hs ≡ 0 → AreHeld who rs hs
    → total (strays g live) rs ≤ total (untold g) rs
unfolding total strays untold ref_owes
told_lives g live who [] hs none held = omega arith
told_lives g live who (null ∷ rs) hs none held =
    let rest = told_lives g live who rs hs none (λ h. let all = held h in omega arith) in omega arith
told_lives g live who (own oid face ∷ rs) hs none held =
    let here = held_step g live who oid face (λ h. refs_owe h who rs) hs none held in
    let rest = told_lives g live who rs hs none (λ h. let all = held h in omega arith) in omega arith
told_lives g live who (peer oid face ∷ rs) hs none held =
    let rest = told_lives g live who rs hs none (λ h. let all = held h in omega arith) in omega arith

-- ---- what a method has

-- all that frames and objects of a side have is held
abbrev pub AllCovered : Setting → Side → Type 0
AllCovered g s = (h : Hold) → SideCovers g h s

pub method_held : (g : Setting) (tid : List ℕ) (b : Body) (fs : List Frame) (s : Side) → frames_of tid s.stacks ≡ body b ∷ fs → AllCovered g s → (h : Hold)
    → body_has g h b ≤ times h s.tables.holdings
method_held g tid b fs s is covered h =
    let thread = thread_covers g tid h s (covered h) in
    let same : frames_have g h (frames_of tid s.stacks) ≡ frames_have g h (body b ∷ fs) = ap (frames_have g h) is in
    let all = method_more g h b fs in omega arith

variables_live : (g : Setting) (live : List ℕ → Bool) (b : Body) (hs : Holdings) → held_strays g live hs ≡ 0 → ((h : Hold) → body_has g h b ≤ times h hs)
    → total (strays g live) (refs_under b.variables) ≤ total (untold g) (refs_under b.variables)
variables_live g live b hs none held =
    told_lives g live (holder.Frame b.number) (refs_under b.variables) hs none (λ h. let parts = body_parts g h b in let all = held h in omega arith)

own_step : (g : Setting) (live : List ℕ → Bool) (n : ℕ) (face : List ℕ) → one_if (is_stray g live (own_oid g n)) ≡ 0 → strays g live (own (own_oid g n) face) ≡ 0
unfolding strays
own_step g live n face none = let given = ap (λ b. one_if (not b)) (given_own g n) in omega arith

-- its own object lives, under whatever interface
itself_lives : (g : Setting) (live : List ℕ → Bool) (b : Body) (hs : Holdings) → held_strays g live hs ≡ 0 → ((h : Hold) → body_has g h b ≤ times h hs)
    → (face : List ℕ) → strays g live (own (own_oid g b.object) face) ≡ 0
unfolding ref_owes
itself_lives g live b hs none held face =
    own_step g live b.object face
    (held_step g live (holder.Frame b.number) (own_oid g b.object) b.face (λ h. refs_owe h (holder.Frame b.number) (refs_under b.variables)) hs none
    (λ h. let parts = body_parts g h b in let all = held h in omega arith))

pub object_held : (n : ℕ) (o : Object) (os : List Object) → object_numbered n os ≡ Some o → (h : Hold) → object_has h o ≤ objects_have h os
unfolding object_numbered objects_have
object_held n o os found h =
    let one = refs_owe_is h (holder.Object o.number) (refs_of_values o.fields) in
    let most = found_at_most (λ o. how_often hold_cmp h (object_holds o)) (λ o. n == o.number) o os found in omega arith

nothing_held : (h : Hold) (who : Holder) (hs : Holdings) → refs_owe h who (refs_of_values []) ≤ times h hs
nothing_held h who hs = let none = values_none (ref_owes h who) in omega arith

fields_live : (g : Setting) (live : List ℕ → Bool) (n : ℕ) (o : Option Object) (t : Tables) → object_numbered n t.objects ≡ o → held_strays g live t.holdings ≡ 0
    → ((h : Hold) → objects_have h t.objects ≤ times h t.holdings) → total (strays g live) (refs_of_values (fields_in o)) ≤ total (untold g) (refs_of_values (fields_in o))
fields_live g live n None t found none held = told_lives g live (holder.Object n) (refs_of_values []) t.holdings none (λ h. nothing_held h (holder.Object n) t.holdings)
fields_live g live n (Some o) t found none held =
    told_lives g live (holder.Object o.number) (refs_of_values o.fields) t.holdings none
    (λ h. let one = object_held n o t.objects found h in let all = held h in omega arith)

object_fields_live : (g : Setting) (live : List ℕ → Bool) (n : ℕ) (t : Tables) → AliveIn g (first_count g) live t → ((h : Hold) → objects_have h t.objects ≤ times h t.holdings)
    → total (strays g live) (refs_under (variables_of g (object_numbered n t.objects))) ≡ 0
object_fields_live g live n t alive held =
    let told = found_told g n (object_numbered n t.objects) t.objects refl alive.told in
    let most = fields_live g live n (object_numbered n t.objects) t refl alive.held held in
    let parts = variables_owe (strays g live) g (object_numbered n t.objects) in omega arith

-- ---- statements

-- what a method asks refers only to what lives
asked_lives : (g : Setting) (live : List ℕ → Bool) (tid : List ℕ) (b : Body) (fs : List Frame) (s : Side) → plan_constants g.plan ≡ [] → frames_of tid s.stacks ≡ body b ∷ fs
    → AllCovered g s → AliveIn g (first_count g) live s.tables → frames_untold g (body b ∷ fs) ≡ 0 → effect_counts (strays g live) (effect_at g tid b fs s.tables) ≡ 0
unfolding job_of total
asked_lives g live tid b fs s constants is covered alive told =
    let all = body_told g b fs in
    let variables = variables_live g live b s.tables.holdings alive.held (method_held g tid b fs s is covered) in
    job_counts (strays g live) g.registry g.plan (job_of g tid b fs s.tables) b refl
    (omega arith)
    (object_fields_live g live b.object s.tables alive (λ h. let side = covered h in omega arith))
    (itself_lives g live b s.tables.holdings alive.held (method_held g tid b fs s is covered))
    (ap (total (strays g live)) constants)

effect_lives : (g : Setting) (tid : List ℕ) (p : Picked) (e : Effect) (s : Side) (fine : LivesIn g s) → effect_counts (strays g fine.live) e ≡ 0
    → frames_untold g (body p.method ∷ p.below) ≡ 0 → LivesIn g (applies_effect g tid p e s)
effect_lives g tid p disposes s fine asks told = ends_by_lives g cause.Disposed s fine
effect_lives g tid p e s fine asks told =
    unwound_lives g tid (applies g tid p.method p.below e s.tables) s fine.told (applies_lives g fine.live tid p.method p.below e s.tables asks told fine.alive)

picked_lives : (g : Setting) (tid : List ℕ) (fs : List Frame) (s : Side) → plan_constants g.plan ≡ [] → frames_of tid s.stacks ≡ fs → AllCovered g s → LivesIn g s
    → LivesIn g (applies_picked g tid (picked_in fs) s)
picked_lives g tid (body b ∷ fs) s constants is covered fine =
    let thread = thread_untold g tid s.stacks in let none = fine.told in
    let same : frames_untold g (frames_of tid s.stacks) ≡ frames_untold g (body b ∷ fs) = ap (frames_untold g) is in
    let told : frames_untold g (body b ∷ fs) ≡ 0 = omega arith in
    effect_lives g tid (record { method = b; below = fs }) (effect_at g tid b fs s.tables) s fine (asked_lives g fine.live tid b fs s constants is covered fine.alive told) told
picked_lives g tid fs s constants is covered fine = fine

applied_lives : (g : Setting) (tid : List ℕ) (s : Side) → plan_constants g.plan ≡ [] → AllCovered g s → LivesIn g s → LivesIn g (applies_picked g tid (picked tid s) s)
unfolding picked
applied_lives g tid s constants covered fine = picked_lives g tid (frames_of tid s.stacks) s constants refl covered fine

-- ---- the step

drains_lives : (g : Setting) (n : ℕ) (s : Side) → LivesIn g s → LivesIn g (drains g n s)
unfolding drains
drains_lives g n s fine = record { live = fine.live; alive = fine.alive; told = fine.told }

-- what a root calls with is held by it
pub called_held : (g : Setting) (root : ℕ) (oid face : List ℕ) (function : ℕ) (args : List Plain) (s : Side) → may g s (called root oid face function args) ≡ true
    → (holds_pair root oid face s.tables ≡ true) × (holds_each root (refs_of_values args) s.tables ≡ true)
unfolding may
called_held g root oid face function args s is = let begins = and_parts (not (has_entries s)) _ (and_parts (stands s) _ is).1 in
    let gives = and_parts (holds_pair root oid face s.tables) (may_give g root args s) (and_parts (may_begin g root s) _ begins.1).1 in
    (gives.0, (and_parts (holds_each root (refs_of_values args) s.tables) _ gives.1).0)

pub queried_held : (g : Setting) (root : ℕ) (oid face wanted : List ℕ) (s : Side) → may g s (queried root oid face wanted) ≡ true → holds_pair root oid face s.tables ≡ true
unfolding may
queried_held g root oid face wanted s is = (and_parts (may_begin g root s) _ (and_parts (not (has_entries s)) _ (and_parts (stands s) _ is).1).1).1

does_lives : (g : Setting) (e : Entry) (s : Side) → plan_constants g.plan ≡ [] → list_all (is_told g) (entry_refs e) ≡ true → may g s e ≡ true → AllCovered g s → LivesIn g s
    → LivesIn g (does g e s).side
unfolding does
does_lives g (fed b) s constants told is covered fine = feeds_lives g b s fine
does_lives g ended s constants told is covered fine = ends_by_lives g cause.Ended s fine
does_lives g failed s constants told is covered fine = ends_by_lives g cause.Failed s fine
does_lives g (asked root name wanted) s constants told is covered fine = root_asks_lives g root name wanted s fine
does_lives g (called root oid face function args) s constants told is covered fine =
    let held = called_held g root oid face function args s is in root_calls_lives g root oid face function args s told held.0 held.1 fine
does_lives g (queried root oid face wanted) s constants told is covered fine = root_queries_lives g root oid face wanted s (queried_held g root oid face wanted s is) fine
does_lives g (made root behaviour wanted) s constants told is covered fine = root_makes_lives g root behaviour wanted s fine
does_lives g (dropped root oid face) s constants told is covered fine = root_drops_lives g root oid face s fine
does_lives g (applied tid) s constants told is covered fine = applied_lives g tid s constants covered fine
does_lives g (took root) s constants told is covered fine = root_takes_lives g root s fine
does_lives g (reaped object) s constants told is covered fine = reaps_lives g (lowest g s.tables) s refl fine
does_lives g (drained b) s constants told is covered fine = drains_lives g (length b) s fine
does_lives g disposed s constants told is covered fine = ends_by_lives g cause.Disposed s fine
does_lives g full s constants told is covered fine = ends_by_lives g cause.Full s fine
does_lives g no_memory s constants told is covered fine = runs_out_lives g s.cause s fine

counted_by : (g : Setting) (b : Bool) (s : Side) → LivesIn g s → LivesIn g (if b then record s { entries = suc s.entries } else s)
counted_by g true s fine = record { live = fine.live; alive = fine.alive; told = fine.told }
counted_by g false s fine = fine

-- ---- histories

-- all is covered, and all that is held lives
record Stays (g : Setting) (x : Told) : Type 0 where
  pub covered : AllCovered g x.side
  pub lives : LivesIn g x.side

stays_on : (g : Setting) (x : Told) (e : Entry) → plan_constants g.plan ≡ [] → list_all (is_told g) (entry_refs e) ≡ true → may g x.side e ≡ true → Stays g x
    → Stays g (told_more x e (turn e x.side (does g e x.side)))
stays_on g x e constants told is stays =
    record {
      covered = λ h. kept g h x e (stays.covered h) is;
      lives = counted_by g (counts e) (does g e x.side).side (does_lives g e x.side constants told is stays.covered stays.lives);
    }

told_fine : (g : Setting) (x : Told) (e : Entry) (o : Option Turn) → plan_constants g.plan ≡ [] → list_all (is_told g) (entry_refs e) ≡ true → Stays g x → o ≡ step g x.side e
    → (y : Told) → told_by x e o ≡ Some y → Stays g y
told_fine g x e None constants told stays is y to = absurd (cc)
told_fine g x e (Some u) constants told stays is y to =
    subst (Stays g) (cc) (of_step g x.side e u (λ v. Stays g (told_more x e v)) (λ may_it. stays_on g x e constants told may_it stays) (cc))

along_told : (g : Setting) (o : Option Told) (es : List Entry) → plan_constants g.plan ≡ [] → are_told g es ≡ true → ((x : Told) → o ≡ Some x → Stays g x)
    → (y : Told) → tells_all g o es ≡ Some y → Stays g y
unfolding tells_all are_told
along_told g None es constants told stays y to = absurd (cc)
along_told g (Some x) [] constants told stays y to = stays y to
along_told g (Some x) (e ∷ es) constants told stays y to =
    let both = and_parts (list_all (is_told g) (entry_refs e)) (are_told g es) told in
    along_told g (tells g x e) es constants both.1
    (λ z is. told_fine g x e (step g x.side e) constants both.0 (stays x refl) refl z is)
    y to

first_stays : (g : Setting) → Stays g (nothing_told g)
first_stays g = record { covered = λ h. opening_covers g h; lives = opening_lives g }

all_stays : (g : Setting) (es : List Entry) (x : Told) → plan_constants g.plan ≡ [] → are_told g es ≡ true → Leads g es x → Stays g x
unfolding replay
all_stays g es x constants told leads = along_told g (Some (nothing_told g)) es constants told (λ z is. subst (Stays g) (cc) (first_stays g)) x leads

-- ---- the law

lives_now : (g : Setting) (s : Side) → LivesIn g s → HeldLives g s
lives_now g s fine =
    record {
      held = λ oid given there. fine.alive.named oid ∙ held_lives g fine.live oid s.tables.holdings given there fine.alive.held;
      sent = λ oid given there. fine.alive.named oid ∙ sent_lives g fine.live oid s.tables.stubs given there fine.alive.sent;
    }

pub all_live : (g : Setting) (es : List Entry) (x : Told) → plan_constants g.plan ≡ [] → are_told g es ≡ true → Leads g es x → HeldLives g x.side
all_live g es x constants told leads = let stays = all_stays g es x constants told leads in lives_now g x.side stays.lives
