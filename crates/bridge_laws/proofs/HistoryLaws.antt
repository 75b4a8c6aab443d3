-- What holds along a history, of its entries and of what it told; and no thread of it has two stacks.
use Rattle.std.proofs.Common.{◌≡◌, refl, sym, ap, subst, ℕ, suc, Bool, true, false, List, [], ◌∷◌, ◌++◌, Option, None, Some, if◌then◌else◌}
use Rattle.std.proofs.lemmas.List.{append_assoc, append-nil}
use Rattle.uno_model.specs.BuiltIn.{x_interface_name}
use Rattle.uno_model.specs.Values.{Ref, null, own, peer, Plain}
use Rattle.plan_model.specs.Asking.{Effect, disposes}
use Rattle.plan_model.specs.declared.runtime_cause.RuntimeCause.{RuntimeCause}
use Rattle.bridge_model.specs.Applying.{effect_at}
use Rattle.bridge_model.specs.Calls.{query_args}
use Rattle.bridge_model.specs.Ends.{runs_out}
use Rattle.bridge_model.specs.Entries.{Entry, fed, ended, failed, asked, called, queried, made, dropped, applied, took, reaped, drained, disposed, full, no_memory, counts}
use Rattle.bridge_model.specs.Going.{drains, reaps}
use Rattle.bridge_model.specs.Histories.{Told, nothing_told, told_more, told_by, tells, tells_all, replay, Leads}
use Rattle.bridge_model.specs.Objects.{lowest}
use Rattle.bridge_model.specs.Roots.{answered_before, begins_call, calls_unless, begins_query, queries_unless, asks_unless, root_calls, root_queries, root_asks, root_makes, root_drops, root_takes}
use Rattle.bridge_model.specs.Settings.{Setting, ref_of, root_tid}
use Rattle.bridge_model.specs.Sides.{Object, Side}
use Rattle.bridge_model.specs.Steps.{Picked, picked, applies_effect, applies_picked, reaps_some, Turn, step, does, opening}
use Rattle.bridge_model.specs.declared.cause.Cause.{Cause}
use Rattle.bridge_laws.proofs.Replays.{IsKept, along_replay}
use Rattle.bridge_laws.proofs.ThreadStackLaws.{apart_put}
use Rattle.bridge_laws.specs.Grounded.{AreApart}
use Rattle.plan_model.specs.Frames.{Frame}
use Rattle.bridge_model.specs.Stacks.{puts_frames}
use Rattle.bridge_laws.proofs.MessageFates.{nothing_apart, feeds_on}

-- ---- along a history

pub nowhere : (g : Setting) (es : List Entry) (x : Told) → tells_all g None es ≡ Some x → ⊥
unfolding tells_all
nowhere g [] x is = absurd (cc)
nowhere g (e ∷ es) x is = absurd (cc)

same_told : (y x : Told) → ◌≡◌ {A = Option Told} (Some y) (Some x) → y ≡ x
same_told y x is = cc

told_push : (g : Setting) (o : Option Told) (es : List Entry) (e : Entry) (x z : Told) → tells_all g o es ≡ Some x → tells g x e ≡ Some z → tells_all g o (es ++ e ∷ []) ≡ Some z
unfolding tells_all
told_push g None es e x z to more = absurd (nowhere g es x to)
told_push g (Some y) [] e x z to more = last_one (tells g y e) (subst (λ w. tells g w e ≡ Some z) (sym (same_told y x to)) more)
  where
    last_one : (o : Option Told) → o ≡ Some z → tells_all g o [] ≡ Some z
    last_one None is = absurd (cc)
    last_one (Some w) is = is
told_push g (Some y) (f ∷ es) e x z to more = told_push g (tells g y f) es e x z to more

pub leads_push : (g : Setting) (es : List Entry) (e : Entry) (x : Told) (u : Turn) → Leads g es x → step g x.side e ≡ Some u → Leads g (es ++ e ∷ []) (told_more x e u)
unfolding replay
leads_push g es e x u to is = told_push g (Some (nothing_told g)) es e x (told_more x e u) to (ap (told_by x e) is)

-- what is kept at each step
abbrev pub IsKeptOn : Setting → (List Entry → Told → Type 0) → Type 0
IsKeptOn g P = (es : List Entry) (x : Told) (e : Entry) (u : Turn) → Leads g es x → P es x → step g x.side e ≡ Some u → P (es ++ e ∷ []) (told_more x e u)

on_step : (g : Setting) (P : List Entry → Told → Type 0) → IsKeptOn g P → (es : List Entry)
    → ((front : List Entry) (x y : Told) → Leads g front x → P front x → tells_all g (Some x) es ≡ Some y → P (front ++ es) y)
    → (front : List Entry) (x : Told) → Leads g front x → P front x → (e : Entry) (y : Told) (o : Option Turn) → step g x.side e ≡ o → tells_all g (told_by x e o) es ≡ Some y
    → P (front ++ e ∷ es) y
on_step g P keeps es more front x leads holds e y None is to = absurd (nowhere g es y to)
on_step g P keeps es more front x leads holds e y (Some u) is to =
    subst (λ zs. P zs y) (append_assoc front (e ∷ []) es)
    (more (front ++ e ∷ []) (told_more x e u) y (leads_push g front e x u leads is) (keeps front x e u leads holds is) to)

-- and along later entries
pub along_later : (g : Setting) (P : List Entry → Told → Type 0) → IsKeptOn g P → (es front : List Entry) (x y : Told) → Leads g front x → P front x → tells_all g (Some x) es ≡ Some y → P (front ++ es) y
unfolding tells_all
along_later g P keeps [] front x y leads holds to = subst (P (front ++ [])) (same_told x y to) (subst (λ zs. P zs x) (sym (append-nil front)) holds)
along_later g P keeps (e ∷ es) front x y leads holds to = on_step g P keeps es (λ front x y leads holds to. along_later g P keeps es front x y leads holds to) front x leads holds e y (step g x.side e) refl to

first_leads : (g : Setting) → Leads g [] (nothing_told g)
unfolding replay tells_all
first_leads g = refl

pub along_history : (g : Setting) (P : List Entry → Told → Type 0) → P [] (nothing_told g) → IsKeptOn g P → (es : List Entry) (y : Told) → Leads g es y → P es y
unfolding replay
along_history g P first keeps es y leads = along_later g P keeps es [] (nothing_told g) y (first_leads g) first leads

-- ---- no thread has two stacks

roots_apart : (g : Setting) (tid : List ℕ) (fs : List Frame) (s z : Side) → z.stacks ≡ puts_frames tid fs s.stacks → AreApart s.stacks → AreApart z.stacks
roots_apart g tid fs s z is apart = subst AreApart (sym is) (apart_put tid fs s.stacks apart)

call_apart : (g : Setting) (root : ℕ) (r : Ref) (function : ℕ) (args : List Plain) (s : Side) → AreApart s.stacks → AreApart (begins_call g root r function args s).stacks
call_apart g root null function args s apart = apart
call_apart g root (own oid face) function args s apart = apart_put (root_tid g root) _ s.stacks apart
call_apart g root (peer oid face) function args s apart = apart_put (root_tid g root) _ s.stacks apart

calls_apart : (g : Setting) (root : ℕ) (oid face : List ℕ) (function : ℕ) (args : List Plain) (why : Option RuntimeCause) (s : Side) → AreApart s.stacks
    → AreApart (calls_unless g root oid face function args why s).stacks
calls_apart g root oid face function args None s apart = call_apart g root (ref_of g oid face) function args s apart
calls_apart g root oid face function args (Some why) s apart = apart

query_apart : (g : Setting) (root : ℕ) (r : Ref) (wanted : List ℕ) (s : Side) → AreApart s.stacks → AreApart (begins_query g root r wanted s).stacks
query_apart g root null wanted s apart = apart
query_apart g root (own oid face) wanted s apart = apart
query_apart g root (peer oid face) wanted s apart = apart_put (root_tid g root) _ s.stacks apart

queries_apart : (g : Setting) (root : ℕ) (oid face wanted : List ℕ) (why : Option RuntimeCause) (s : Side) → AreApart s.stacks → AreApart (queries_unless g root oid face wanted why s).stacks
queries_apart g root oid face wanted None s apart = query_apart g root (ref_of g oid face) wanted s apart
queries_apart g root oid face wanted (Some why) s apart = apart

asks_apart : (g : Setting) (root : ℕ) (name wanted : List ℕ) (why : Option RuntimeCause) (s : Side) → AreApart s.stacks → AreApart (asks_unless g root name wanted why s).stacks
asks_apart g root name wanted None s apart = apart_put (root_tid g root) _ s.stacks apart
asks_apart g root name wanted (Some why) s apart = apart

effect_apart : (g : Setting) (tid : List ℕ) (p : Picked) (e : Effect) (s : Side) → AreApart s.stacks → AreApart (applies_effect g tid p e s).stacks
effect_apart g tid p disposes s apart = nothing_apart _ s
effect_apart g tid p e s apart = apart_put tid _ s.stacks apart

applied_apart : (g : Setting) (tid : List ℕ) (p : Option Picked) (s : Side) → AreApart s.stacks → AreApart (applies_picked g tid p s).stacks
applied_apart g tid None s apart = apart
applied_apart g tid (Some p) s apart = effect_apart g tid p (effect_at g tid p.method p.below s.tables) s apart

reaped_apart : (g : Setting) (o : Option Object) (s : Side) → AreApart s.stacks → AreApart (reaps_some g o s).stacks
unfolding reaps
reaped_apart g None s apart = apart
reaped_apart g (Some o) s apart = apart

out_apart : (why : Option Cause) (s : Side) → AreApart s.stacks → AreApart (runs_out why s).stacks
unfolding runs_out
out_apart None s apart = nothing_apart _ s
out_apart (Some why) s apart = apart

does_apart : (g : Setting) (e : Entry) (s : Side) → AreApart s.stacks → AreApart (does g e s).side.stacks
unfolding does root_asks root_calls root_queries root_makes root_drops root_takes drains
does_apart g (fed b) s apart = (feeds_on g b s apart).apart
does_apart g ended s apart = nothing_apart _ s
does_apart g failed s apart = nothing_apart _ s
does_apart g (asked root name wanted) s apart = asks_apart g root name wanted (answered_before (root_tid g root) name x_interface_name 0 (query_args wanted)) s apart
does_apart g (called root oid face function args) s apart = calls_apart g root oid face function args (answered_before (root_tid g root) oid face function args) s apart
does_apart g (queried root oid face wanted) s apart = queries_apart g root oid face wanted (answered_before (root_tid g root) oid face 0 (query_args wanted)) s apart
does_apart g (made root behaviour wanted) s apart = apart
does_apart g (dropped root oid face) s apart = apart
does_apart g (applied tid) s apart = applied_apart g tid (picked tid s) s apart
does_apart g (took root) s apart = apart
does_apart g (reaped object) s apart = reaped_apart g (lowest g s.tables) s apart
does_apart g (drained b) s apart = apart
does_apart g disposed s apart = nothing_apart _ s
does_apart g full s apart = nothing_apart _ s
does_apart g no_memory s apart = out_apart s.cause s apart

counted_apart : (b : Bool) (s : Side) → AreApart s.stacks → AreApart (if b then record s { entries = suc s.entries } else s).stacks
counted_apart true s apart = apart
counted_apart false s apart = apart

apart_kept : (g : Setting) → IsKept g (λ x. AreApart x.side.stacks)
apart_kept g x e apart can = counted_apart (counts e) (does g e x.side).side (does_apart g e x.side apart)

opening_apart : (g : Setting) → AreApart (opening g).stacks
unfolding AreApart opening
opening_apart g = tt

pub always_apart : (g : Setting) (es : List Entry) (x : Told) → Leads g es x → AreApart x.side.stacks
always_apart g es x leads = along_replay g (λ y. AreApart y.side.stacks) (opening_apart g) (apart_kept g) es x leads
