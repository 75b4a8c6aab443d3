-- Each entry gives new objects the next numbers, and keeps the behaviours of those that live on; so it is along every history.
use Rattle.std.proofs.Common.{◌≡◌, refl, sym, ap, ◌∙◌, subst, ℕ, zero, suc, ◌+◌, ◌≤◌, ◌<◌, ◌^◌, Bool, true, false, cond, ◌==◌, if◌then◌else◌, List, [], ◌∷◌, ◌++◌, length, find, Option, None, Some, Result, Ok, Err, arith, eqb-true, eq-eqb}
use Rattle.std.specs.Fmt.{decimal}
use Rattle.std.specs.Str.{bytes_eq}
use Rattle.std.proofs.lemmas.Fmt.{decimal_injective}
use Rattle.std.proofs.lemmas.List.{append_cancel_left}
use Rattle.std.proofs.lemmas.Slice.Eq.{bytes_eq-Decides}
use Rattle.message_model.specs.Headers.{Heard}
use Rattle.message_model.specs.Messages.{returned, raised, Message, request, release, reply}
use Rattle.message_model.specs.ReadingMessages.{message_at}
use Rattle.uno_model.specs.Values.{Plain}
use Rattle.urp_model.specs.declared.fault.Fault.{Fault}
use Rattle.urp_model.specs.declared.reason.Reason.{Reason}
use Rattle.table_model.specs.declared.holder.Holder.TheVariants as holder
use Rattle.plan_model.specs.Asking.{Effect, lets, sets, sets_field, drops, skips, calls, queries, makes, disposes, creates, returns, raises}
use Rattle.plan_model.specs.Frames.{Variable, Body, Frame, body, frames_of}
use Rattle.plan_model.specs.Holdings.{fields_after, let_go_by, held_by}
use Rattle.plan_model.specs.Plans.{first_objects}
use Rattle.plan_model.specs.Services.{Created, fresh, singleton, created}
use Rattle.plan_model.specs.declared.refusal.Refusal.{Refusal}
use Rattle.bridge_model.specs.Applying.{holder_for, with_fields_after, changes_own, applies_making, applies_creating, applies, effect_at}
use Rattle.bridge_model.specs.Ends.{ends_by, runs_out}
use Rattle.bridge_model.specs.Entries.{Entry, fed, ended, failed, asked, called, queried, made, dropped, applied, took, reaped, drained, disposed, full, no_memory, counts}
use Rattle.bridge_model.specs.Feeding.{Hearing, Next, gets, remembers, block_ends, hears_tested, hears_read, hears, feeds, feeds_part, feeds_whole, takes_block, heard_nothing, holds_bytes, block_stands, header_fault, count_said}
use Rattle.bridge_model.specs.Going.{drains, reaps_object, reaps}
use Rattle.bridge_model.specs.Histories.{Told, nothing_told, told_more, told_by, tells, tells_all, replay, Leads}
use Rattle.bridge_model.specs.Objects.{object_numbered, object_named, variables_of, field_values, with_fields, without_object, makes_object, makes_default, defaults_of, makes_all, lowest}
use Rattle.bridge_model.specs.Receiving.{refusal, receives, below_top}
use Rattle.bridge_model.specs.References.{gains_all, each_home, home_answer, refs_of_values}
use Rattle.bridge_model.specs.Roots.{root_makes, root_takes}
use Rattle.bridge_model.specs.Settings.{Setting, prefix, own_oid}
use Rattle.bridge_model.specs.Sides.{Object, Tables, Side, stands}
use Rattle.bridge_model.specs.Stacks.{waits_of}
use Rattle.bridge_model.specs.Steps.{Turn, step, does, Picked, picked, applies_effect, applies_picked, reaps_some, no_objects, opening}
use Rattle.bridge_model.specs.declared.cause.Cause.{Cause}
use Rattle.bridge_laws.proofs.Replays.{of_step}
use Rattle.bridge_laws.specs.Numbers.{living_with, AreNumbered, behaviour_in, behaviour_numbered, behaviour_named, KeepsObjects}
use Rattle.bridge_laws.proofs.NumberLaws.{many_push, push_other, many_fields, same_fields, many_gone, left_behind}
use Rattle.bridge_laws.proofs.ObjectStillLaws.{Still, still, still_gains_all, still_loses_all, still_lets_go_all, still_serves, still_ends_frame, still_answers_at_once, still_hands_from_peer, still_applies_call, still_applies_query, still_root_calls, still_root_queries, still_root_asks, still_root_drops}

-- ---- from tables to tables

-- behaviours are kept, and numbers tell objects apart still
pub record Comes (t u : Tables) : Type 0 where
  pub kept : KeepsObjects t u
  pub numbered : AreNumbered t → AreNumbered u

comes_by : (t u : Tables) → Still t u → Comes t u
comes_by t u same =
    record {
      kept = record { made = let is = same.made in omega arith; same = λ n k given is. sym (ap (behaviour_numbered n) same.living) ∙ is };
      numbered = λ are.
          record {
            one = λ n. let alike = ap (living_with n) same.living in let most = are.one n in omega arith;
            given = λ n some. let alike = ap (living_with n) same.living in let within = are.given n (omega arith) in let is = same.made in (within.0, omega arith);
          };
    }

comes_same : (t : Tables) → Comes t t
comes_same t = comes_by t t (still t)

comes_on : {t u v : Tables} → Comes t u → Comes u v → Comes t v
comes_on {t} {u} {v} a b =
    record {
      kept =
          record {
            made = let first = a.kept.made in let later = b.kept.made in omega arith;
            same = λ n k given is. a.kept.same n k given (b.kept.same n k (let more = a.kept.made in omega arith) is);
          };
      numbered = λ are. b.numbered (a.numbered are);
    }

comes_if : (b : Bool) (t u v : Tables) → Comes t u → Comes t v → Comes t (if b then u else v)
comes_if true t u v p q = p
comes_if false t u v p q = q

-- ---- objects

-- a new one gets the next number
abbrev with_new : Object → Tables → Tables
with_new o t = record t { objects = t.objects ++ o ∷ []; objects_made = suc t.objects_made }

not_next : (n top : ℕ) (b : Bool) → n ≤ top → (n == suc top) ≡ b → b ≡ false
not_next n top true within is = let same = eqb-true n (suc top) is in absurd (omega arith)
not_next n top false within is = refl

count_step : (n top many : ℕ) (b : Bool) → many ≤ 1 → (1 ≤ many → (1 ≤ n) × (n ≤ top)) → (n == suc top) ≡ b → many + cond b 1 0 ≤ 1
count_step n top zero true most given is = omega arith
count_step n top (suc many) true most given is = let same = eqb-true n (suc top) is in let within = given (omega arith) in absurd (omega arith)
count_step n top many false most given is = omega arith

given_step : (n top many : ℕ) (b : Bool) → (1 ≤ many → (1 ≤ n) × (n ≤ top)) → (n == suc top) ≡ b → 1 ≤ many + cond b 1 0 → (1 ≤ n) × (n ≤ suc top)
given_step n top many true given is some = let same = eqb-true n (suc top) is in (omega arith, omega arith)
given_step n top many false given is some = let within = given (omega arith) in (within.0, omega arith)

new_comes : (behaviour : ℕ) (fields : List Plain) (t : Tables) → Comes t (with_new (record { number = suc t.objects_made; behaviour = behaviour; fields = fields }) t)
new_comes behaviour fields t =
    let o : Object = record { number = suc t.objects_made; behaviour = behaviour; fields = fields } in
    record {
      kept = record { made = omega arith; same = λ n k within is. push_other n k o t.objects (not_next n t.objects_made (n == suc t.objects_made) within refl) is };
      numbered = λ are.
          record {
            one = λ n. let more = many_push n o t.objects in let most = count_step n t.objects_made (living_with n t.objects) (n == suc t.objects_made) (are.one n) (are.given n) refl in omega arith;
            given = λ n some. let more = many_push n o t.objects in given_step n t.objects_made (living_with n t.objects) (n == suc t.objects_made) (are.given n) refl (omega arith);
          };
    }

makes_comes : (behaviour : ℕ) (fields : List Plain) (t : Tables) → Comes t (makes_object behaviour fields t)
unfolding makes_object
makes_comes behaviour fields t =
    comes_on (new_comes behaviour fields t)
    (comes_by _ _ (still_gains_all (holder.Object (suc t.objects_made)) (refs_of_values fields) (with_new (record { number = suc t.objects_made; behaviour = behaviour; fields = fields }) t)))

makes_all_comes : (g : Setting) (bs : List ℕ) (t : Tables) → Comes t (makes_all g bs t)
unfolding makes_all
makes_all_comes g [] t = comes_same t
makes_all_comes g (b ∷ bs) t = comes_on (makes_comes b (defaults_of g b) t) (makes_all_comes g bs (makes_default g b t))

fields_come : (m : ℕ) (fields : List Plain) (t : Tables) → Comes t (record t { objects = with_fields m fields t.objects })
fields_come m fields t =
    record {
      kept = record { made = omega arith; same = λ n k within is. sym (same_fields n m fields t.objects) ∙ is };
      numbered = λ are.
          record {
            one = λ n. let alike = many_fields n m fields t.objects in let most = are.one n in omega arith;
            given = λ n some. let alike = many_fields n m fields t.objects in are.given n (omega arith);
          };
    }

less_comes : (m : ℕ) (t : Tables) → Comes t (record t { objects = without_object m t.objects })
less_comes m t =
    record {
      kept = record { made = omega arith; same = λ n k within is. left_behind n m k t.objects is };
      numbered = λ are.
          record {
            one = λ n. let fewer = many_gone n m t.objects in let most = are.one n in omega arith;
            given = λ n some. let fewer = many_gone n m t.objects in are.given n (omega arith);
          };
    }

-- ---- what a method asks

with_fields_come : (e : Effect) (b : Body) (fields : List Variable) (t : Tables) → Comes t (with_fields_after e b fields t)
with_fields_come (sets_field x) b fields t = fields_come b.object (field_values (fields_after (sets_field x) fields)) t
with_fields_come (lets x) b fields t = comes_same t
with_fields_come (sets x) b fields t = comes_same t
with_fields_come (drops name) b fields t = comes_same t
with_fields_come skips b fields t = comes_same t
with_fields_come (calls target function args to) b fields t = comes_same t
with_fields_come (queries target wanted to) b fields t = comes_same t
with_fields_come (makes behaviour face to) b fields t = comes_same t
with_fields_come disposes b fields t = comes_same t
with_fields_come (creates name args) b fields t = comes_same t
with_fields_come (returns x outs) b fields t = comes_same t
with_fields_come (raises k x) b fields t = comes_same t

changes_come : (g : Setting) (e : Effect) (b : Body) (fields : List Variable) (t : Tables) → Comes t (changes_own g e b fields t)
changes_come g e b fields t =
    let held = gains_all (holder_for e b) (held_by e) t in
    comes_on (comes_by t held (still_gains_all (holder_for e b) (held_by e) t))
    (comes_on (with_fields_come e b fields held) (comes_by _ _ (still_lets_go_all g (holder_for e b) (let_go_by b.variables fields e) (with_fields_after e b fields held))))

making_comes : (g : Setting) (behaviour : ℕ) (face to : List ℕ) (b : Body) (fs : List Frame) (t : Tables) → Comes t (applies_making g behaviour face to b fs t).tables
making_comes g behaviour face to b fs t = comes_on (makes_comes behaviour (defaults_of g behaviour) t) (comes_by (makes_default g behaviour t) _ (record { living = refl; made = refl }))

creating_comes : (g : Setting) (tid : List ℕ) (b : Body) (name : List ℕ) (r : Result Created Refusal) (fs : List Frame) (t : Tables) → Comes t (applies_creating g tid b name r fs t).tables
unfolding applies_creating
creating_comes g tid b name (Ok (fresh behaviour fields)) fs t =
    comes_on (makes_comes behaviour fields t) (comes_by _ _ (still_ends_frame g tid b _ fs (makes_object behaviour fields t)))
creating_comes g tid b name (Ok (singleton place)) fs t = comes_by t _ (still_ends_frame g tid b _ fs t)
creating_comes g tid b name (Err why) fs t = comes_by t _ (still_ends_frame g tid b _ fs t)

applies_comes : (g : Setting) (tid : List ℕ) (b : Body) (fs : List Frame) (e : Effect) (t : Tables) → Comes t (applies g tid b fs e t).tables
unfolding applies
applies_comes g tid b fs (lets x) t = changes_come g (lets x) b (variables_of g (object_numbered b.object t.objects)) t
applies_comes g tid b fs (sets x) t = changes_come g (sets x) b (variables_of g (object_numbered b.object t.objects)) t
applies_comes g tid b fs (sets_field x) t = changes_come g (sets_field x) b (variables_of g (object_numbered b.object t.objects)) t
applies_comes g tid b fs (drops name) t = changes_come g (drops name) b (variables_of g (object_numbered b.object t.objects)) t
applies_comes g tid b fs skips t = changes_come g skips b (variables_of g (object_numbered b.object t.objects)) t
applies_comes g tid b fs (calls target function args to) t = comes_by t _ (still_applies_call g tid target function args (body b ∷ fs) t)
applies_comes g tid b fs (queries target wanted to) t = comes_by t _ (still_applies_query g tid target wanted (body b ∷ fs) t)
applies_comes g tid b fs (makes behaviour face to) t = making_comes g behaviour face to b fs t
applies_comes g tid b fs disposes t = comes_same t
applies_comes g tid b fs (creates name args) t = creating_comes g tid b name (created g.plan g.registry name args) fs t
applies_comes g tid b fs (returns x outs) t = comes_by t _ (still_ends_frame g tid b (returned x outs) fs t)
applies_comes g tid b fs (raises k x) t = comes_by t _ (still_ends_frame g tid b (raised k x) fs t)

-- ---- sides

abbrev Goes : Side → Side → Type 0
Goes s u = Comes s.tables u.tables

ends_come : (why : Cause) (s : Side) → Goes s (ends_by why s)
unfolding ends_by
ends_come why s = comes_by s.tables _ (record { living = refl; made = refl })

runs_out_comes : (why : Option Cause) (s : Side) → Goes s (runs_out why s)
unfolding runs_out ends_by
runs_out_comes None s = comes_by s.tables _ (record { living = refl; made = refl })
runs_out_comes (Some why) s = comes_by s.tables _ (record { living = refl; made = refl })

drains_come : (g : Setting) (n : ℕ) (s : Side) → Goes s (drains g n s)
unfolding drains
drains_come g n s = comes_by s.tables _ (record { living = refl; made = refl })

goes_if : (b : Bool) (s t u : Side) → Goes s t → Goes s u → Goes s (if b then t else u)
goes_if true s t u p q = p
goes_if false s t u p q = q

-- ---- messages that come

receives_comes : (g : Setting) (m : Message) (s : Side) → Goes s (receives g m s)
unfolding receives
receives_comes g (release tid oid face) s = comes_by s.tables _ (record { living = refl; made = refl })
receives_comes g (request tid oid face function args) s =
    goes_if (function == 0) s _ _
    (comes_by s.tables _ (still_answers_at_once g tid oid face args s.tables))
    (comes_by s.tables _ (still_serves g oid face function (each_home g args) (frames_of tid s.stacks) s.tables))
receives_comes g (reply tid face function a) s =
    comes_by s.tables _ (still_hands_from_peer g tid (home_answer g a) (below_top (frames_of tid s.stacks)) s.tables)

block_ends_come : (front : ℕ) (bytes : List ℕ) (x : Hearing) → Goes x.side (block_ends front bytes x).side
block_ends_come front [] x = comes_same x.side.tables
block_ends_come front (b ∷ bytes) x = ends_come _ x.side

-- what is done behind a message
abbrev NextComes : Next → Type 0
NextComes more = (place : ℕ) (bytes : List ℕ) (x : Hearing) → Goes x.side (more place bytes x).side

tested_comes : (g : Setting) (more : Next) → NextComes more → (place next : ℕ) (read : Message × Heard × List ℕ) (why : Option Reason) (x : Hearing)
    → Goes x.side (hears_tested g more place next read why x).side
tested_comes g more behind place next read None x = comes_on (receives_comes g read.0 (remembers read.1 x.side)) (behind next read.2 (gets g read.0 read.1 x))
tested_comes g more behind place next read (Some why) x = ends_come _ x.side

read_comes : (g : Setting) (more : Next) → NextComes more → (place : ℕ) (bytes : List ℕ) (r : Result (Message × Heard × List ℕ) Fault) (x : Hearing)
    → Goes x.side (hears_read g more place bytes r x).side
read_comes g more behind place bytes (Err fault) x = ends_come _ x.side
read_comes g more behind place bytes (Ok read) x = tested_comes g more behind place _ read (refusal g x.side read.0) x

hears_comes : (g : Setting) (n front : ℕ) → NextComes (hears g n front)
unfolding hears
hears_comes g zero front place bytes x = block_ends_come front bytes x
hears_comes g (suc n) front place bytes x =
    read_comes g (hears g n front) (hears_comes g n front) place bytes (message_at g.registry (waits_of x.side.stacks) x.side.incoming.heard bytes) x

part_comes : (g : Setting) (bytes : List ℕ) (why : Option Reason) (s : Side) → Goes s (feeds_part g bytes why s).side
part_comes g bytes (Some why) s = ends_come _ s
part_comes g bytes None s = either (block_stands bytes)
  where
    either : (b : Bool) → Goes s (if b then feeds_whole g bytes s else heard_nothing (holds_bytes bytes s)).side
    either true = hears_comes g (count_said bytes) s.incoming.place _ _ (heard_nothing (takes_block bytes s))
    either false = comes_same s.tables

feeds_come : (g : Setting) (piece : List ℕ) (s : Side) → Goes s (feeds g piece s).side
unfolding feeds
feeds_come g piece s = part_comes g _ (header_fault _) s

-- ---- statements, objects that go, and roots

effect_comes : (g : Setting) (tid : List ℕ) (p : Picked) (e : Effect) (s : Side) → Goes s (applies_effect g tid p e s)
effect_comes g tid p disposes s = ends_come _ s
effect_comes g tid p e s = applies_comes g tid p.method p.below e s.tables

picked_comes : (g : Setting) (tid : List ℕ) (p : Option Picked) (s : Side) → Goes s (applies_picked g tid p s)
picked_comes g tid None s = comes_same s.tables
picked_comes g tid (Some p) s = effect_comes g tid p (effect_at g tid p.method p.below s.tables) s

reaped_comes : (g : Setting) (standing : Bool) (o : Object) (t : Tables) → Comes t (reaps_object g standing o t)
reaped_comes g true o t = comes_on (less_comes o.number t) (comes_by _ _ (still_lets_go_all g (holder.Object o.number) (refs_of_values o.fields) (record t { objects = without_object o.number t.objects })))
reaped_comes g false o t = comes_on (less_comes o.number t) (comes_by _ _ (still_loses_all (holder.Object o.number) (refs_of_values o.fields) (record t { objects = without_object o.number t.objects })))

reaps_come : (g : Setting) (o : Option Object) (s : Side) → Goes s (reaps_some g o s)
unfolding reaps
reaps_come g None s = comes_same s.tables
reaps_come g (Some o) s = reaped_comes g (stands s) o s.tables

root_makes_comes : (g : Setting) (root behaviour : ℕ) (wanted : List ℕ) (s : Side) → Goes s (root_makes g root behaviour wanted s)
unfolding root_makes
root_makes_comes g root behaviour wanted s =
    comes_on (makes_comes behaviour (defaults_of g behaviour) s.tables) (comes_by (makes_default g behaviour s.tables) _ (record { living = refl; made = refl }))

root_takes_comes : (root : ℕ) (s : Side) → Goes s (root_takes root s)
unfolding root_takes
root_takes_comes root s = comes_by s.tables _ (record { living = refl; made = refl })

-- ---- entries

does_comes : (g : Setting) (e : Entry) (s : Side) → Goes s (does g e s).side
unfolding does
does_comes g (fed b) s = feeds_come g b s
does_comes g ended s = ends_come _ s
does_comes g failed s = ends_come _ s
does_comes g (asked root name wanted) s = comes_by s.tables _ (still_root_asks g root name wanted s)
does_comes g (called root oid face function args) s = comes_by s.tables _ (still_root_calls g root oid face function args s)
does_comes g (queried root oid face wanted) s = comes_by s.tables _ (still_root_queries g root oid face wanted s)
does_comes g (made root behaviour wanted) s = root_makes_comes g root behaviour wanted s
does_comes g (dropped root oid face) s = comes_by s.tables _ (still_root_drops g root oid face s)
does_comes g (applied tid) s = picked_comes g tid (picked tid s) s
does_comes g (took root) s = root_takes_comes root s
does_comes g (reaped object) s = reaps_come g (lowest g s.tables) s
does_comes g (drained b) s = drains_come g (length b) s
does_comes g disposed s = ends_come _ s
does_comes g full s = ends_come _ s
does_comes g no_memory s = runs_out_comes s.cause s

counted_comes : (s : Side) (b : Bool) (u : Side) → Goes s u → Goes s (if b then record u { entries = suc u.entries } else u)
counted_comes s true u goes = goes
counted_comes s false u goes = goes

step_comes : (g : Setting) (s : Side) (e : Entry) (u : Turn) → step g s e ≡ Some u → Goes s u.side
step_comes g s e u is = of_step g s e u (λ z. Goes s z.side) (λ may_it. counted_comes s (counts e) (does g e s).side (does_comes g e s)) is

-- ---- histories

same_told : (x y : Told) → Some x ≡ Some y → x ≡ y
same_told x y is = cc

told_comes : (g : Setting) (x : Told) (e : Entry) (o : Option Turn) → o ≡ step g x.side e → (y : Told) → told_by x e o ≡ Some y → Goes x.side y.side
told_comes g x e None is y to = absurd (cc)
told_comes g x e (Some u) is y to = subst (λ (z : Told). Goes x.side z.side) (same_told (told_more x e u) y to) (step_comes g x.side e u (sym is))

no_more : {X : Type 0} (g : Setting) (es : List Entry) (y : Told) → tells_all g None es ≡ Some y → X
unfolding tells_all
no_more g [] y to = absurd (cc)
no_more g (e ∷ es) y to = absurd (cc)

-- along later entries
later_by : (g : Setting) (x : Told) (e : Entry) (o : Option Told) (es : List Entry) (y : Told) → o ≡ tells g x e → ((z : Told) → o ≡ Some z → tells_all g (Some z) es ≡ Some y → Goes z.side y.side)
    → tells_all g o es ≡ Some y → Goes x.side y.side
later_by g x e None es y is more to = no_more g es y to
later_by g x e (Some z) es y is more to = comes_on (told_comes g x e (step g x.side e) refl z (sym is)) (more z refl to)

pub later_comes : (g : Setting) (x : Told) (es : List Entry) (y : Told) → tells_all g (Some x) es ≡ Some y → Goes x.side y.side
unfolding tells_all
later_comes g x [] y to = subst (λ (z : Told). Goes x.side z.side) (same_told x y to) (comes_same x.side.tables)
later_comes g x (e ∷ es) y to = later_by g x e (tells g x e) es y refl (λ z is on. later_comes g z es y on) to

-- entries behind others
none_behind : (g : Setting) (later : List Entry) → None ≡ tells_all g None later
unfolding tells_all
none_behind g [] = refl
none_behind g (e ∷ es) = refl

behind_by : (g : Setting) (o : Option Told) (es later : List Entry) → tells_all g o (es ++ later) ≡ tells_all g (tells_all g o es) later
unfolding tells_all
behind_by g None [] later = refl
behind_by g None (e ∷ es) later = none_behind g later
behind_by g (Some x) [] later = refl
behind_by g (Some x) (e ∷ es) later = behind_by g (tells g x e) es later

pub behind : (g : Setting) (es later : List Entry) (x y : Told) → Leads g es x → Leads g (es ++ later) y → tells_all g (Some x) later ≡ Some y
unfolding replay
behind g es later x y first to = sym (ap (λ o. tells_all g o later) first) ∙ sym (behind_by g (Some (nothing_told g)) es later) ∙ to

pub objects_stay : (g : Setting) (es later : List Entry) (x y : Told) → Leads g es x → Leads g (es ++ later) y → KeepsObjects x.side.tables y.side.tables
objects_stay g es later x y first to = let comes = later_comes g x later y (behind g es later x y first to) in comes.kept

none_numbered : (g : Setting) → AreNumbered (no_objects g.plan)
none_numbered g = record { one = λ n. omega arith; given = λ n some. absurd (omega arith) }

opening_numbered : (g : Setting) → AreNumbered (nothing_told g).side.tables
unfolding opening
opening_numbered g = let all = makes_all_comes g (first_objects g.plan) (no_objects g.plan) in all.numbered (none_numbered g)

pub all_numbered : (g : Setting) (es : List Entry) (x : Told) → Leads g es x → AreNumbered x.side.tables
unfolding replay
all_numbered g es x leads = let comes = later_comes g (nothing_told g) es x leads in comes.numbered (opening_numbered g)

-- ---- identities

-- the number under which an identity is found
pub record HasNumber (g : Setting) (oid : List ℕ) (os : List Object) (behaviour : ℕ) : Type 0 where
  pub number : ℕ
  pub named : oid ≡ own_oid g number
  pub found : behaviour_numbered number os ≡ Some behaviour
  pub some : 1 ≤ living_with number os

first_counts : (n : ℕ) (b : Bool) (os : List Object) → b ≡ true → 1 ≤ cond b 1 0 + living_with n os
first_counts n true os is = omega arith
first_counts n false os is = absurd (cc)

module _ (g : Setting) (oid : List ℕ) where
  first_number : (o : Object) (os : List Object) (k : ℕ) → bytes_eq oid (own_oid g o.number) ≡ true → o.behaviour ≡ k → HasNumber g oid (o ∷ os) k
  unfolding object_numbered
  first_number o os k is same =
      record {
        number = o.number;
        named = (bytes_eq-Decides oid (own_oid g o.number)).0 is;
        found = ap (λ b. behaviour_in (cond b (Some o) (find (λ p. o.number == p.number) os))) (eq-eqb o.number o.number refl) ∙ ap Some same;
        some = first_counts o.number (o.number == o.number) os (eq-eqb o.number o.number refl);
      }

  other_found : (n m : ℕ) (b : Bool) (o : Object) (rest : Option Object) (k : ℕ) → bytes_eq oid (own_oid g o.number) ≡ false → oid ≡ own_oid g n → (n == o.number) ≡ b
      → behaviour_in rest ≡ Some k → behaviour_in (cond b (Some o) rest) ≡ Some k
  other_found n m true o rest k other named is found =
      let same : bytes_eq oid (own_oid g o.number) ≡ true = (bytes_eq-Decides oid (own_oid g o.number)).1 (named ∙ ap (own_oid g) (eqb-true n o.number is)) in absurd (cc)
  other_found n m false o rest k other named is found = found

  later_number : (o : Object) (os : List Object) (k : ℕ) → bytes_eq oid (own_oid g o.number) ≡ false → HasNumber g oid os k → HasNumber g oid (o ∷ os) k
  unfolding object_numbered
  later_number o os k other has =
      record {
        number = has.number;
        named = has.named;
        found = other_found has.number 0 (has.number == o.number) o (find (λ p. has.number == p.number) os) k other has.named refl has.found;
        some = let more = has.some in omega arith;
      }

  number_by : (o : Object) (os : List Object) (k : ℕ) (b : Bool) → bytes_eq oid (own_oid g o.number) ≡ b → (behaviour_named g oid os ≡ Some k → HasNumber g oid os k)
      → behaviour_in (cond b (Some o) (find (λ o. bytes_eq oid (own_oid g o.number)) os)) ≡ Some k → HasNumber g oid (o ∷ os) k
  unfolding object_named
  number_by o os k true is more found = first_number o os k is (cc)
  number_by o os k false is more found = later_number o os k is (more found)

  pub number_is : (os : List Object) (k : ℕ) → behaviour_named g oid os ≡ Some k → HasNumber g oid os k
  unfolding object_named
  number_is [] k found = absurd (cc)
  number_is (o ∷ os) k found = number_by o os k (bytes_eq oid (own_oid g o.number)) refl (number_is os k) found

same_number : (g : Setting) (n m : ℕ) → n < 2 ^ 64 → m < 2 ^ 64 → own_oid g n ≡ own_oid g m → n ≡ m
unfolding own_oid
same_number g n m few also is = decimal_injective n m few also (append_cancel_left (prefix g) (decimal n) (decimal m) is)

one_behaviour : (os now : List Object) (n m j k : ℕ) → n ≡ m → ((i : ℕ) → behaviour_numbered n now ≡ Some i → behaviour_numbered n os ≡ Some i)
    → behaviour_numbered n os ≡ Some j → behaviour_numbered m now ≡ Some k → j ≡ k
one_behaviour os now n m j k same kept before after =
    let earlier = kept k (ap (λ i. behaviour_numbered i now) same ∙ after) in let both : Some j ≡ Some k = sym before ∙ earlier in cc

pub one_object : (g : Setting) (es later : List Entry) (x y : Told) (oid : List ℕ) (first second : ℕ) → Leads g es x → Leads g (es ++ later) y → y.side.tables.objects_made < 2 ^ 64
    → behaviour_named g oid x.side.tables.objects ≡ Some first → behaviour_named g oid y.side.tables.objects ≡ Some second → first ≡ second
one_object g es later x y oid first second leads to few before after =
    let stays = objects_stay g es later x y leads to in
    let first_has = number_is g oid x.side.tables.objects first before in
    let now = number_is g oid y.side.tables.objects second after in
    let given = (all_numbered g es x leads).given first_has.number first_has.some in
    let also = (all_numbered g (es ++ later) y to).given now.number now.some in
    let more = stays.made in
    let same = same_number g first_has.number now.number (omega arith) (omega arith) (sym first_has.named ∙ now.named) in
    one_behaviour x.side.tables.objects y.side.tables.objects first_has.number now.number first second same (λ i is. stays.same first_has.number i given.1 is) first_has.found now.found
