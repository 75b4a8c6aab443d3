-- Which entry ends a bridge with which cause, and that the first cause stays but for want of memory.
use Rattle.std.proofs.Common.{◌≡◌, refl, sym, ap, subst, ◌∙◌, ℕ, zero, suc, ◌+◌, ◌⊎◌, inl, inr, Bool, true, false, ◌==◌, ◌&&◌, List, [], ◌∷◌, ◌++◌, length, drop, replicate, unwrap_or, slice_get, Option, None, Some, Result, Ok, Err, if◌then◌else◌}
use Rattle.std.proofs.lemmas.Bool.{true≢false}
use Rattle.std.proofs.lemmas.List.{append_assoc}
use Rattle.message_model.specs.Headers.{Heard}
use Rattle.message_model.specs.Messages.{Message, request, release, reply}
use Rattle.message_model.specs.ReadingMessages.{message_at}
use Rattle.uno_model.specs.BuiltIn.{x_interface_name}
use Rattle.uno_model.specs.Values.{Ref, null, own, peer, Plain}
use Rattle.urp_model.specs.declared.fault.Fault.{Fault}
use Rattle.urp_model.specs.declared.reason.Reason.{Reason}
use Rattle.plan_model.specs.Asking.{Effect, lets, sets, sets_field, drops, skips, calls, queries, makes, disposes, creates, returns, raises}
use Rattle.plan_model.specs.Frames.{Stack, frames_of}
use Rattle.plan_model.specs.declared.runtime_cause.RuntimeCause.{RuntimeCause}
use Rattle.bridge_model.specs.Applying.{effect_at}
use Rattle.bridge_model.specs.Calls.{query_args}
use Rattle.bridge_model.specs.Ends.{outcome_at_end, ends_by, runs_out}
use Rattle.bridge_model.specs.Entries.{Entry, fed, ended, failed, asked, called, queried, made, dropped, applied, took, reaped, drained, disposed, full, no_memory, counts}
use Rattle.bridge_model.specs.Feeding.{Hearing, Next, gets, hears_tested, hears_read, hears, block_ends, feeds_part, feeds_whole, feeds, block_stands, header_fault, heard_nothing, takes_block, holds_bytes, count_said, remembers}
use Rattle.bridge_model.specs.Going.{drains, reaps}
use Rattle.bridge_model.specs.Histories.{Told, nothing_told, told_more, Leads}
use Rattle.bridge_model.specs.Objects.{lowest}
use Rattle.bridge_model.specs.Receiving.{receives, refusal}
use Rattle.bridge_model.specs.Roots.{answered_before, begins_call, calls_unless, begins_query, queries_unless, asks_unless, root_calls, root_queries, root_asks, root_makes, root_drops, root_takes, outcome_in}
use Rattle.bridge_model.specs.Settings.{Setting, ref_of, root_tid}
use Rattle.bridge_model.specs.Sides.{Object, Outcome, RootState, idle, waits_call, waits_query, answered, Side, stands, stands_by, state_of}
use Rattle.bridge_model.specs.Sides as side
use Rattle.bridge_model.specs.Stacks.{waits_of}
use Rattle.bridge_model.specs.Steps.{Picked, picked, picked_in, applies_effect, applies_picked, reaps_some, Turn, turn, step, does, may, no_objects, opening}
use Rattle.bridge_model.specs.declared.cause.Cause.{Cause}
use Rattle.bridge_model.specs.declared.cause.Cause.TheVariants as cause
use Rattle.bridge_laws.specs.Ended.{IsQuiet}
use Rattle.bridge_laws.proofs.EndedLaws.{first_holds}
use Rattle.bridge_laws.proofs.Replays.{of_step}
use Rattle.bridge_laws.proofs.RootStateLaws.{stay_makes_all}
use Rattle.plan_model.specs.Plans.{first_objects}
use Rattle.bridge_laws.proofs.StepLaws.{quiet_along}
use Rattle.bridge_laws.specs.Grounded.{AreApart}
use Rattle.bridge_laws.proofs.HistoryLaws.{along_history, always_apart}
use Rattle.bridge_laws.proofs.OutcomeLaws.{is_answer, IsOfEnd, does_ends, NoneNew, none_new, then_none, does_none}
use Rattle.bridge_laws.specs.Ending.{Disposes, EndsWith, HasEnd, HasNoMemory, IsCause}

-- ---- what keeps the cause

abbrev Keeps : Side → Side → Type 0
Keeps s z = z.cause ≡ s.cause

keeps_if : (b : Bool) (s x y : Side) → Keeps s x → Keeps s y → Keeps s (if b then x else y)
keeps_if true s x y p q = p
keeps_if false s x y p q = q

receives_keeps : (g : Setting) (m : Message) (s : Side) → Keeps s (receives g m s)
unfolding receives
receives_keeps g (request tid oid face function args) s = keeps_if (function == 0) s _ _ refl refl
receives_keeps g (release tid oid face) s = refl
receives_keeps g (reply tid face function a) s = refl

begins_keeps : (g : Setting) (root : ℕ) (r : Ref) (function : ℕ) (args : List Plain) (s : Side) → Keeps s (begins_call g root r function args s)
begins_keeps g root null function args s = refl
begins_keeps g root (own oid face) function args s = refl
begins_keeps g root (peer oid face) function args s = refl

calls_keep : (g : Setting) (root : ℕ) (oid face : List ℕ) (function : ℕ) (args : List Plain) (why : Option RuntimeCause) (s : Side) → Keeps s (calls_unless g root oid face function args why s)
calls_keep g root oid face function args None s = begins_keeps g root (ref_of g oid face) function args s
calls_keep g root oid face function args (Some why) s = refl

query_keeps : (g : Setting) (root : ℕ) (r : Ref) (wanted : List ℕ) (s : Side) → Keeps s (begins_query g root r wanted s)
query_keeps g root null wanted s = refl
query_keeps g root (own oid face) wanted s = refl
query_keeps g root (peer oid face) wanted s = refl

queries_keep : (g : Setting) (root : ℕ) (oid face wanted : List ℕ) (why : Option RuntimeCause) (s : Side) → Keeps s (queries_unless g root oid face wanted why s)
queries_keep g root oid face wanted None s = query_keeps g root (ref_of g oid face) wanted s
queries_keep g root oid face wanted (Some why) s = refl

asks_keep : (g : Setting) (root : ℕ) (name wanted : List ℕ) (why : Option RuntimeCause) (s : Side) → Keeps s (asks_unless g root name wanted why s)
asks_keep g root name wanted None s = refl
asks_keep g root name wanted (Some why) s = refl

reaps_keeps : (g : Setting) (o : Option Object) (s : Side) → Keeps s (reaps_some g o s)
unfolding reaps
reaps_keeps g None s = refl
reaps_keeps g (Some o) s = refl

-- ---- bytes

-- the cause stays, or the protocol is broken
abbrev IsBrokenBy : Option Cause → Side → Type 0
IsBrokenBy before z = (z.cause ≡ before) ⊎ ((why : Reason) × (place : ℕ) × (z.cause ≡ Some (cause.Broken why place)))

breaks_by : (s : Side) (why : Reason) (place : ℕ) → IsBrokenBy s.cause (ends_by (cause.Broken why place) s)
unfolding ends_by
breaks_by s why place = inr (why, place, refl)

abbrev BreaksOn : Next → Type 0
BreaksOn more = (place : ℕ) (bytes : List ℕ) (x : Hearing) → IsBrokenBy x.side.cause (more place bytes x).side

tested_by : (g : Setting) (more : Next) → BreaksOn more → (place next : ℕ) (read : Message × Heard × List ℕ) (why : Option Reason) (x : Hearing) → IsBrokenBy x.side.cause (hears_tested g more place next read why x).side
tested_by g more on place next read None x =
    subst (λ c. IsBrokenBy c (more next read.2 (gets g read.0 read.1 x)).side) (receives_keeps g read.0 (remembers read.1 x.side)) (on next read.2 (gets g read.0 read.1 x))
tested_by g more on place next read (Some why) x = breaks_by x.side why place

read_by : (g : Setting) (more : Next) → BreaksOn more → (place : ℕ) (bytes : List ℕ) (r : Result (Message × Heard × List ℕ) Fault) (x : Hearing) → IsBrokenBy x.side.cause (hears_read g more place bytes r x).side
read_by g more on place bytes (Err fault) x = breaks_by x.side _ place
read_by g more on place bytes (Ok read) x = tested_by g more on place _ read (refusal g x.side read.0) x

block_by : (front : ℕ) (bytes : List ℕ) (x : Hearing) → IsBrokenBy x.side.cause (block_ends front bytes x).side
block_by front [] x = inl refl
block_by front (b ∷ bytes) x = breaks_by x.side _ front

hears_by : (g : Setting) (n front : ℕ) → BreaksOn (hears g n front)
unfolding hears
hears_by g zero front place bytes x = block_by front bytes x
hears_by g (suc n) front place bytes x = read_by g (hears g n front) (hears_by g n front) place bytes (message_at g.registry (waits_of x.side.stacks) x.side.incoming.heard bytes) x

part_by : (g : Setting) (bytes : List ℕ) (why : Option Reason) (s : Side) → IsBrokenBy s.cause (feeds_part g bytes why s).side
part_by g bytes (Some why) s = breaks_by s why s.incoming.place
part_by g bytes None s = either (block_stands bytes)
  where
    either : (b : Bool) → IsBrokenBy s.cause (if b then feeds_whole g bytes s else heard_nothing (holds_bytes bytes s)).side
    either true = hears_by g (count_said bytes) s.incoming.place (s.incoming.place + 8) (drop 8 bytes) (heard_nothing (takes_block bytes s))
    either false = inl refl

feeds_by : (g : Setting) (piece : List ℕ) (s : Side) → IsBrokenBy s.cause (feeds g piece s).side
unfolding feeds
feeds_by g piece s = part_by g (s.incoming.held ++ piece) (header_fault (s.incoming.held ++ piece)) s

-- ---- where the bridge stands

same_cause : (c d : Cause) → ◌≡◌ {A = Option Cause} (Some c) (Some d) → c ≡ d
same_cause c d is = cc

stands_still : {X : Type 0} (s z : Side) (why : Cause) → Keeps s z → stands s ≡ true → z.cause ≡ Some why → X
stands_still s z why same up is = by_cause s.cause up (sym same ∙ is)
  where
    by_cause : {X : Type 0} (c : Option Cause) → stands_by c ≡ true → c ≡ Some why → X
    by_cause None up is = absurd (cc)
    by_cause (Some c) up is = absurd (cc)

ended_by : (c why : Cause) (s : Side) → (ends_by c s).cause ≡ Some why → why ≡ c
unfolding ends_by
ended_by c why s is = sym (same_cause c why is)

fed_ends : (s z : Side) (why : Cause) → IsBrokenBy s.cause z → stands s ≡ true → z.cause ≡ Some why → (reason : Reason) × (place : ℕ) × (why ≡ cause.Broken reason place)
fed_ends s z why (inl same) up is = stands_still s z why same up is
fed_ends s z why (inr (reason, place, broken)) up is = (reason, place, sym (same_cause (cause.Broken reason place) why (sym broken ∙ is)))

out_cause : (o : Option Cause) (s : Side) → (runs_out o s).cause ≡ Some cause.NoMemory
unfolding runs_out ends_by
out_cause None s = refl
out_cause (Some why) s = refl

effect_cause : (g : Setting) (tid : List ℕ) (p : Picked) (e : Effect) (s : Side) (why : Cause) → stands s ≡ true → (applies_effect g tid p e s).cause ≡ Some why → (e ≡ disposes) × (why ≡ cause.Disposed)
effect_cause g tid p disposes s why up is = (refl, ended_by cause.Disposed why s is)
effect_cause g tid p (lets x) s why up is = stands_still s (applies_effect g tid p (lets x) s) why refl up is
effect_cause g tid p (sets x) s why up is = stands_still s (applies_effect g tid p (sets x) s) why refl up is
effect_cause g tid p (sets_field x) s why up is = stands_still s (applies_effect g tid p (sets_field x) s) why refl up is
effect_cause g tid p (drops name) s why up is = stands_still s (applies_effect g tid p (drops name) s) why refl up is
effect_cause g tid p skips s why up is = stands_still s (applies_effect g tid p skips s) why refl up is
effect_cause g tid p (calls target function args to) s why up is = stands_still s (applies_effect g tid p (calls target function args to) s) why refl up is
effect_cause g tid p (queries target wanted to) s why up is = stands_still s (applies_effect g tid p (queries target wanted to) s) why refl up is
effect_cause g tid p (makes behaviour face to) s why up is = stands_still s (applies_effect g tid p (makes behaviour face to) s) why refl up is
effect_cause g tid p (creates name args) s why up is = stands_still s (applies_effect g tid p (creates name args) s) why refl up is
effect_cause g tid p (returns x outs) s why up is = stands_still s (applies_effect g tid p (returns x outs) s) why refl up is
effect_cause g tid p (raises k x) s why up is = stands_still s (applies_effect g tid p (raises k x) s) why refl up is

applied_cause : (g : Setting) (tid : List ℕ) (o : Option Picked) (s : Side) (why : Cause) → picked tid s ≡ o → stands s ≡ true → (applies_picked g tid o s).cause ≡ Some why
    → Disposes g s tid × (why ≡ cause.Disposed)
applied_cause g tid None s why at up is = stands_still s s why refl up is
applied_cause g tid (Some p) s why at up is =
    let both = effect_cause g tid p (effect_at g tid p.method p.below s.tables) s why up is in (record { at = p; is = at; effect = both.0 }, both.1)

pub does_end : (g : Setting) (e : Entry) (s : Side) (why : Cause) → stands s ≡ true → (does g e s).side.cause ≡ Some why → EndsWith g s e why
unfolding does root_asks root_calls root_queries root_makes root_drops root_takes drains
does_end g (fed b) s why up is = fed_ends s (feeds g b s).side why (feeds_by g b s) up is
does_end g ended s why up is = ended_by cause.Ended why s is
does_end g failed s why up is = ended_by cause.Failed why s is
does_end g (asked root name wanted) s why up is = stands_still s (root_asks g root name wanted s) why (asks_keep g root name wanted (answered_before (root_tid g root) name x_interface_name 0 (query_args wanted)) s) up is
does_end g (called root oid face function args) s why up is = stands_still s (root_calls g root oid face function args s) why (calls_keep g root oid face function args (answered_before (root_tid g root) oid face function args) s) up is
does_end g (queried root oid face wanted) s why up is = stands_still s (root_queries g root oid face wanted s) why (queries_keep g root oid face wanted (answered_before (root_tid g root) oid face 0 (query_args wanted)) s) up is
does_end g (made root behaviour wanted) s why up is = stands_still s s why refl up is
does_end g (dropped root oid face) s why up is = stands_still s s why refl up is
does_end g (applied tid) s why up is = applied_cause g tid (picked tid s) s why refl up is
does_end g (took root) s why up is = stands_still s s why refl up is
does_end g (reaped object) s why up is = stands_still s (reaps_some g (lowest g s.tables) s) why (reaps_keeps g (lowest g s.tables) s) up is
does_end g (drained b) s why up is = stands_still s s why refl up is
does_end g disposed s why up is = ended_by cause.Disposed why s is
does_end g full s why up is = ended_by cause.Full why s is
does_end g no_memory s why up is = sym (same_cause cause.NoMemory why (sym (out_cause s.cause s) ∙ is))

-- ---- where it has ended

-- the cause stays, or there is no memory
abbrev pub StaysBy : Entry → Option Cause → Side → Type 0
StaysBy e before z = (z.cause ≡ before) ⊎ ((e ≡ no_memory) × (z.cause ≡ Some cause.NoMemory))

down : {X : Type 0} (a b : Bool) → (a && b) ≡ true → a ≡ false → X
down a b can is = absurd (true≢false (sym (first_holds a b can) ∙ is))

none_picked : (g : Setting) (tid : List ℕ) (s : Side) (ss : List Stack) → ss ≡ [] → Keeps s (applies_picked g tid (picked_in (frames_of tid ss)) s)
unfolding frames_of
none_picked g tid s [] is = refl
none_picked g tid s (x ∷ ss) is = absurd (cc)

pub does_stay : (g : Setting) (e : Entry) (s : Side) → IsQuiet s → stands s ≡ false → may g s e ≡ true → StaysBy e s.cause (does g e s).side
unfolding does may root_drops root_takes drains picked
does_stay g (fed b) s quiet is can = down _ _ can is
does_stay g ended s quiet is can = absurd (true≢false (sym can ∙ is))
does_stay g failed s quiet is can = absurd (true≢false (sym can ∙ is))
does_stay g (asked root name wanted) s quiet is can = down _ _ can is
does_stay g (called root oid face function args) s quiet is can = down _ _ can is
does_stay g (queried root oid face wanted) s quiet is can = down _ _ can is
does_stay g (made root behaviour wanted) s quiet is can = down _ _ can is
does_stay g (dropped root oid face) s quiet is can = inl refl
does_stay g (applied tid) s quiet is can = inl (none_picked g tid s s.stacks (quiet is))
does_stay g (took root) s quiet is can = inl refl
does_stay g (reaped object) s quiet is can = inl (reaps_keeps g (lowest g s.tables) s)
does_stay g (drained b) s quiet is can = inl refl
does_stay g disposed s quiet is can = absurd (true≢false (sym can ∙ is))
does_stay g full s quiet is can = down _ _ can is
does_stay g no_memory s quiet is can = inr (refl, out_cause s.cause s)

-- ---- a turn

counted_cause : (b : Bool) (s : Side) → (if b then record s { entries = suc s.entries } else s).cause ≡ s.cause
counted_cause true s = refl
counted_cause false s = refl

pub turn_cause : (g : Setting) (e : Entry) (s : Side) → (turn e s (does g e s)).side.cause ≡ (does g e s).side.cause
turn_cause g e s = counted_cause (counts e) (does g e s).side

counted_roots : (b : Bool) (s : Side) → (if b then record s { entries = suc s.entries } else s).tables.roots ≡ s.tables.roots
counted_roots true s = refl
counted_roots false s = refl

pub turn_roots : (g : Setting) (e : Entry) (s : Side) → (turn e s (does g e s)).side.tables.roots ≡ (does g e s).side.tables.roots
turn_roots g e s = counted_roots (counts e) (does g e s).side

-- ---- a journal

end_later : (g : Setting) (es fs : List Entry) (why : Cause) → HasEnd g es why → HasEnd g (es ++ fs) why
end_later g es fs why h =
    record {
      before = h.before;
      entry = h.entry;
      later = h.later ++ fs;
      journal = ap (λ zs. zs ++ fs) h.journal ∙ append_assoc h.before (h.entry ∷ h.later) fs;
      stood = h.stood;
      leads = h.leads;
      up = h.up;
      turn = h.turn;
      does = h.does;
      cause = h.cause;
      ends = h.ends;
    }

end_now : (g : Setting) (es : List Entry) (e : Entry) (x : Told) (u : Turn) (why : Cause) → Leads g es x → step g x.side e ≡ Some u → stands x.side ≡ true → u.side.cause ≡ Some why → EndsWith g x.side e why
    → HasEnd g (es ++ e ∷ []) why
end_now g es e x u why leads is up now by = record { before = es; entry = e; later = []; journal = refl; stood = x; leads = leads; up = up; turn = u; does = is; cause = now; ends = by }

memory_later : (es fs : List Entry) → HasNoMemory es → HasNoMemory (es ++ fs)
memory_later es fs (before, later, is) = (before, later ++ fs, ap (λ zs. zs ++ fs) is ∙ append_assoc before (no_memory ∷ later) fs)

cause_later : (g : Setting) (es fs : List Entry) (why : Cause) → IsCause g es why → IsCause g (es ++ fs) why
cause_later g es fs why (inl h) = inl (end_later g es fs why h)
cause_later g es fs why (inr (none, first, h, m)) = inr (none, first, end_later g es fs first h, memory_later es fs m)

pub turn_ends : (g : Setting) (s : Side) (e : Entry) (u : Turn) (why : Cause) → step g s e ≡ Some u → stands s ≡ true → u.side.cause ≡ Some why → EndsWith g s e why
turn_ends g s e u why is up at =
    of_step g s e u (λ v. v.side.cause ≡ Some why → EndsWith g s e why) (λ can now. does_end g e s why up (sym (turn_cause g e s) ∙ now)) is at

pub turn_stays : (g : Setting) (s : Side) (e : Entry) (u : Turn) → step g s e ≡ Some u → IsQuiet s → stands s ≡ false → StaysBy e s.cause u.side
turn_stays g s e u is quiet down_now =
    of_step g s e u (λ v. StaysBy e s.cause v.side) (λ can. moved (does_stay g e s quiet down_now can)) is
  where
    moved : StaysBy e s.cause (does g e s).side → StaysBy e s.cause (turn e s (does g e s)).side
    moved (inl same) = inl (turn_cause g e s ∙ same)
    moved (inr (none, now)) = inr (none, turn_cause g e s ∙ now)

-- the cause of each bridge that has ended
abbrev HasCause : Setting → List Entry → Told → Type 0
HasCause g es x = (why : Cause) → x.side.cause ≡ Some why → IsCause g es why

no_first : {X : Type 0} (c : Option Cause) → stands_by c ≡ false → ((why : Cause) → c ≡ Some why → X) → X
no_first None is next = absurd (cc)
no_first (Some why) is next = next why refl

cause_kept : (g : Setting) (es : List Entry) (x : Told) (e : Entry) (u : Turn) → Leads g es x → HasCause g es x → step g x.side e ≡ Some u → HasCause g (es ++ e ∷ []) (told_more x e u)
cause_kept g es x e u leads has is why at = by_standing (stands x.side) refl
  where
    first_of : IsCause g es why → (first : Cause) × HasEnd g es first
    first_of (inl h) = (why, h)
    first_of (inr (none, first, h, m)) = (first, h)

    ended_before : (c : Cause) → IsCause g es c → (first : Cause) × HasEnd g es first
    ended_before c (inl h) = (c, h)
    ended_before c (inr (none, first, h, m)) = (first, h)

    by_stay : StaysBy e x.side.cause u.side → stands x.side ≡ false → IsCause g (es ++ e ∷ []) why
    by_stay (inl same) down_now = cause_later g es (e ∷ []) why (has why (sym same ∙ at))
    by_stay (inr (none, now)) down_now =
        no_first x.side.cause down_now (λ c is_c.
        let first = ended_before c (has c is_c) in
        inr (sym (same_cause cause.NoMemory why (sym now ∙ at)), first.0, end_later g es (e ∷ []) first.0 first.1, (es, [], ap (λ z. es ++ z ∷ []) none)))

    by_standing : (b : Bool) → stands x.side ≡ b → IsCause g (es ++ e ∷ []) why
    by_standing true up = inl (end_now g es e x u why leads is up at (turn_ends g x.side e u why is up at))
    by_standing false down_now = by_stay (turn_stays g x.side e u is (quiet_along g es x leads) down_now) down_now

no_cause : (g : Setting) → HasCause g [] (nothing_told g)
unfolding opening
no_cause g why at = absurd (cc)

pub cause_is : (g : Setting) (es : List Entry) (x : Told) (why : Cause) → Leads g es x → x.side.cause ≡ Some why → IsCause g es why
cause_is g es x why leads at = along_history g (HasCause g) (no_cause g) (cause_kept g) es x leads why at

-- ---- outcomes

-- an outcome that is no answer is that of an end
abbrev pub HasItsEnd : Setting → List Entry → Outcome → Type 0
HasItsEnd g es o = (why : Cause) × (o ≡ outcome_at_end why) × HasEnd g es why

abbrev HasEnds : Setting → List Entry → Told → Type 0
HasEnds g es x = (n : ℕ) (o : Outcome) → is_answer o ≡ false → state_of n x.side.tables.roots ≡ answered o → HasItsEnd g es o

turn_none : (g : Setting) (s : Side) (e : Entry) (u : Turn) → step g s e ≡ Some u → IsQuiet s → stands s ≡ false → NoneNew s.tables.roots u.side.tables.roots
turn_none g s e u is quiet gone =
    of_step g s e u (λ v. NoneNew s.tables.roots v.side.tables.roots)
    (λ can. then_none s.tables.roots (does g e s).side.tables.roots (turn e s (does g e s)).side.tables.roots (does_none g e s quiet gone can) (none_new _ _ (turn_roots g e s))) is

turn_of_end : (g : Setting) (s : Side) (e : Entry) (u : Turn) → step g s e ≡ Some u → AreApart s.stacks → (n : ℕ) (o : Outcome) → is_answer o ≡ false → state_of n u.side.tables.roots ≡ answered o
    → IsOfEnd s.tables.roots u.side n o
turn_of_end g s e u is apart n o none at =
    of_step g s e u (λ v. state_of n v.side.tables.roots ≡ answered o → IsOfEnd s.tables.roots v.side n o)
    (λ can now. moved (does_ends g e s apart n o none (ap (state_of n) (sym (turn_roots g e s)) ∙ now))) is at
  where
    moved : IsOfEnd s.tables.roots (does g e s).side n o → IsOfEnd s.tables.roots (turn e s (does g e s)).side n o
    moved (inl was) = inl was
    moved (inr (why, cause, same)) = inr (why, turn_cause g e s ∙ cause, same)

ends_kept : (g : Setting) (es : List Entry) (x : Told) (e : Entry) (u : Turn) → Leads g es x → HasEnds g es x → step g x.side e ≡ Some u → HasEnds g (es ++ e ∷ []) (told_more x e u)
ends_kept g es x e u leads has is n o none at = by_standing (stands x.side) refl
  where
    later : HasItsEnd g es o → HasItsEnd g (es ++ e ∷ []) o
    later (why, same, h) = (why, same, end_later g es (e ∷ []) why h)

    by_end : stands x.side ≡ true → IsOfEnd x.side.tables.roots u.side n o → HasItsEnd g (es ++ e ∷ []) o
    by_end up (inl was) = later (has n o none was)
    by_end up (inr (why, cause, same)) = (why, same, end_now g es e x u why leads is up cause (turn_ends g x.side e u why is up cause))

    by_standing : (b : Bool) → stands x.side ≡ b → HasItsEnd g (es ++ e ∷ []) o
    by_standing true up = by_end up (turn_of_end g x.side e u is (always_apart g es x leads) n o none at)
    by_standing false gone = later (has n o none (turn_none g x.side e u is (quiet_along g es x leads) gone n o none at))

open_idle : (n m : ℕ) → unwrap_or (slice_get (replicate m idle) n) idle ≡ idle
open_idle zero zero = refl
open_idle (suc n) zero = refl
open_idle zero (suc m) = refl
open_idle (suc n) (suc m) = open_idle n m

state_idle : (n m : ℕ) → state_of n (replicate m idle) ≡ idle
unfolding state_of
state_idle zero m = refl
state_idle (suc n) m = open_idle n m

opening_roots : (g : Setting) → (opening g).tables.roots ≡ replicate (length g.plan.threads) idle
unfolding opening
opening_roots g = stay_makes_all g (first_objects g.plan) (no_objects g.plan)

pub first_idle : (g : Setting) (n : ℕ) → state_of n (nothing_told g).side.tables.roots ≡ idle
first_idle g n = ap (state_of n) (opening_roots g) ∙ state_idle n (length g.plan.threads)

no_ends : (g : Setting) → HasEnds g [] (nothing_told g)
no_ends g n o none at = let bad : idle ≡ answered o = sym (state_idle n (length g.plan.threads)) ∙ (ap (state_of n) (sym (opening_roots g)) ∙ at) in absurd (cc)

pub outcome_has_end : (g : Setting) (es : List Entry) (x : Told) (n : ℕ) (o : Outcome) → Leads g es x → is_answer o ≡ false → state_of n x.side.tables.roots ≡ answered o → HasItsEnd g es o
outcome_has_end g es x n o leads none at = along_history g (HasEnds g) (no_ends g) (ends_kept g) es x leads n o none at

disposed_at : (why c : Cause) → side.disposed c ≡ outcome_at_end why → (c ≡ why) × (c ≡ cause.NoMemory → ⊥)
disposed_at cause.Disposed c is = (cc, λ same. let bad : side.disposed cause.NoMemory ≡ side.disposed cause.Disposed = ap side.disposed (sym same) ∙ is in absurd (cc))
disposed_at cause.Ended c is = (cc, λ same. let bad : side.disposed cause.NoMemory ≡ side.disposed cause.Ended = ap side.disposed (sym same) ∙ is in absurd (cc))
disposed_at cause.Failed c is = (cc, λ same. let bad : side.disposed cause.NoMemory ≡ side.disposed cause.Failed = ap side.disposed (sym same) ∙ is in absurd (cc))
disposed_at (cause.Broken why place) c is = (cc, λ same. let bad : side.disposed cause.NoMemory ≡ side.disposed (cause.Broken why place) = ap side.disposed (sym same) ∙ is in absurd (cc))
disposed_at cause.Full c is = (cc, λ same. let bad : side.disposed cause.NoMemory ≡ side.disposed cause.Full = ap side.disposed (sym same) ∙ is in absurd (cc))
disposed_at cause.NoMemory c is = absurd (cc)

no_memory_at : (why : Cause) → side.no_memory ≡ outcome_at_end why → why ≡ cause.NoMemory
no_memory_at cause.Disposed is = absurd (cc)
no_memory_at cause.Ended is = absurd (cc)
no_memory_at cause.Failed is = absurd (cc)
no_memory_at (cause.Broken why place) is = absurd (cc)
no_memory_at cause.Full is = absurd (cc)
no_memory_at cause.NoMemory is = refl

pub disposed_has_end : (g : Setting) (es : List Entry) (x : Told) (n : ℕ) (c : Cause) → Leads g es x → state_of n x.side.tables.roots ≡ answered (side.disposed c) → HasEnd g es c × (c ≡ cause.NoMemory → ⊥)
disposed_has_end g es x n c leads at =
    let h = outcome_has_end g es x n (side.disposed c) leads refl at in
    let same = disposed_at h.0 c h.1 in
    (subst (HasEnd g es) (sym same.0) h.2, same.1)

pub memory_has_end : (g : Setting) (es : List Entry) (x : Told) (n : ℕ) → Leads g es x → state_of n x.side.tables.roots ≡ answered side.no_memory → HasEnd g es cause.NoMemory
memory_has_end g es x n leads at =
    let h = outcome_has_end g es x n side.no_memory leads refl at in
    subst (HasEnd g es) (no_memory_at h.0 h.1) h.2

-- the cause stays behind the end, step by step, but for want of memory
pub cause_stays : (g : Setting) (es : List Entry) (x : Told) (e : Entry) (u : Turn) (why : Cause) → Leads g es x → x.side.cause ≡ Some why → step g x.side e ≡ Some u
    → (u.side.cause ≡ Some why) ⊎ ((e ≡ no_memory) × (u.side.cause ≡ Some cause.NoMemory))
cause_stays g es x e u why leads at is = by_stay (turn_stays g x.side e u is (quiet_along g es x leads) (ap stands_by at))
  where
    by_stay : StaysBy e x.side.cause u.side → (u.side.cause ≡ Some why) ⊎ ((e ≡ no_memory) × (u.side.cause ≡ Some cause.NoMemory))
    by_stay (inl same) = inl (same ∙ at)
    by_stay (inr both) = inr both

outcome_of : (r : RootState) (o : Outcome) → outcome_in r ≡ Some o → r ≡ answered o
outcome_of idle o is = absurd (cc)
outcome_of waits_call o is = absurd (cc)
outcome_of (waits_query wanted) o is = absurd (cc)
outcome_of (answered z) o is = cc

pub disposed_taken : (g : Setting) (es : List Entry) (x : Told) (root : ℕ) (u : Turn) (why : Cause) → Leads g es x → step g x.side (took root) ≡ Some u
    → outcome_in (state_of root x.side.tables.roots) ≡ Some (side.disposed why) → HasEnd g es why × (why ≡ cause.NoMemory → ⊥)
disposed_taken g es x root u why leads is at = disposed_has_end g es x root why leads (outcome_of (state_of root x.side.tables.roots) (side.disposed why) at)
