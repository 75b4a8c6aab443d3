-- A bridge that has ended has no stacks, and none of its entries changes that, brings a message or says one.
use Rattle.std.proofs.Common.{◌≡◌, refl, sym, ℕ, zero, suc, Bool, true, false, not, ◌&&◌, ◌==◌, List, [], ◌∷◌, ◌++◌, Option, None, Some, Result, Ok, Err}
use Rattle.message_model.specs.Headers.{Heard}
use Rattle.message_model.specs.Messages.{Message, request, release, reply}
use Rattle.message_model.specs.ReadingMessages.{message_at}
use Rattle.uno_model.specs.BuiltIn.{x_interface_name}
use Rattle.uno_model.specs.Values.{Ref, null, own, peer, Plain}
use Rattle.urp_model.specs.declared.fault.Fault.{Fault}
use Rattle.urp_model.specs.declared.reason.Reason.{Reason}
use Rattle.plan_model.specs.Asking.{Effect, lets, sets, sets_field, drops, skips, calls, queries, makes, disposes, creates, returns, raises}
use Rattle.plan_model.specs.Frames.{Stack, frames_of}
use Rattle.plan_model.specs.declared.runtime_cause.RuntimeCause.{RuntimeCause}
use Rattle.bridge_model.specs.Applying.{effect_at}
use Rattle.bridge_model.specs.Calls.{query_args}
use Rattle.bridge_model.specs.Ends.{ends_by, runs_out}
use Rattle.bridge_model.specs.Entries.{Entry, fed, ended, failed, asked, called, queried, made, dropped, applied, took, reaped, drained, disposed, full, no_memory}
use Rattle.bridge_model.specs.Feeding.{Hearing, Next, gets, hears_tested, hears_read, hears, feeds_part, feeds, block_stands, header_fault, heard_nothing, takes_block, holds_bytes, remembers}
use Rattle.bridge_model.specs.Going.{drains, reaps}
use Rattle.bridge_model.specs.Objects.{lowest}
use Rattle.bridge_model.specs.Receiving.{receives, requested, refusal}
use Rattle.bridge_model.specs.Roots.{answered_before, begins_call, calls_unless, begins_query, queries_unless, asks_unless, root_calls, root_queries, root_asks, root_makes, root_drops, root_takes}
use Rattle.bridge_model.specs.Settings.{Setting, ref_of, root_tid}
use Rattle.bridge_model.specs.Sides.{Object, Side, stands}
use Rattle.bridge_model.specs.Stacks.{waits_of}
use Rattle.bridge_model.specs.Steps.{Picked, picked, picked_in, applies_effect, applies_picked, reaps_some, does, may, has_entries, is_picked}
use Rattle.bridge_model.specs.declared.cause.Cause.{Cause}
use Rattle.bridge_laws.specs.Ended.{IsQuiet}

pub clash : {X : Type 0} (b : Bool) → b ≡ true → b ≡ false → X
clash true is is_not = absurd (cc)
clash false is is_not = absurd (cc)

standing_is_quiet : (s : Side) → stands s ≡ true → IsQuiet s
standing_is_quiet s is is_not = clash (stands s) is is_not

-- what keeps the cause of a standing side leaves it quiet
keeps_quiet : (s s' : Side) → s'.cause ≡ s.cause → stands s ≡ true → IsQuiet s'
keeps_quiet s s' same is is_not = clash (stands s) is (rw (sym same) is_not)

-- ---- messages

requested_stands : (g : Setting) (tid oid face : List ℕ) (function : ℕ) (args : List Plain) (s : Side) (b : Bool) → (function == 0) ≡ b
    → (requested g tid oid face function args s).cause ≡ s.cause
requested_stands g tid oid face function args s true is = rw is refl
requested_stands g tid oid face function args s false is = rw is refl

receives_stands : (g : Setting) (m : Message) (s : Side) → (receives g m s).cause ≡ s.cause
unfolding receives
receives_stands g (request tid oid face function args) s = requested_stands g tid oid face function args s (function == 0) refl
receives_stands g (release tid oid face) s = refl
receives_stands g (reply tid face function a) s = refl

-- ---- bytes

same_standing : (s s' : Side) → s'.cause ≡ s.cause → stands s ≡ true → stands s' ≡ true
same_standing s s' same is = cc

hears_quiet : (g : Setting) (n front place : ℕ) (bytes : List ℕ) (x : Hearing) → stands x.side ≡ true → IsQuiet (hears g n front place bytes x).side
unfolding hears ends_by
hears_quiet g zero front place [] x is = standing_is_quiet x.side is
hears_quiet g zero front place (b ∷ bytes) x is = λ is_not. refl
hears_quiet g (suc n) front place bytes x is =
    of_read (hears g n front) (λ next rest y stands_yet. hears_quiet g n front next rest y stands_yet) (message_at g.registry (waits_of x.side.stacks) x.side.incoming.heard bytes)
  where
    of_refusal : (more : Next) → ((next : ℕ) (rest : List ℕ) (y : Hearing) → stands y.side ≡ true → IsQuiet (more next rest y).side) → (next : ℕ)
        (read : Message × Heard × List ℕ) (why : Option Reason) → IsQuiet (hears_tested g more place next read why x).side
    of_refusal more keeps next read None = keeps next read.2 (gets g read.0 read.1 x) (same_standing x.side (receives g read.0 (remembers read.1 x.side)) (receives_stands g read.0 (remembers read.1 x.side)) is)
    of_refusal more keeps next read (Some why) = λ is_not. refl

    of_read : (more : Next) → ((next : ℕ) (rest : List ℕ) (y : Hearing) → stands y.side ≡ true → IsQuiet (more next rest y).side)
        → (r : Result (Message × Heard × List ℕ) Fault) → IsQuiet (hears_read g more place bytes r x).side
    of_read more keeps (Ok read) = of_refusal more keeps _ read (refusal g x.side read.0)
    of_read more keeps (Err fault) = λ is_not. refl

fed_quiet : (g : Setting) (piece : List ℕ) (s : Side) → stands s ≡ true → IsQuiet (feeds g piece s).side
unfolding feeds ends_by
fed_quiet g piece s is = of_fault (header_fault (s.incoming.held ++ piece))
  where
    bytes : List ℕ
    bytes = s.incoming.held ++ piece

    of_block : (b : Bool) → block_stands bytes ≡ b → IsQuiet (feeds_part g bytes None s).side
    of_block true whole = rw whole (hears_quiet g _ _ _ _ (heard_nothing (takes_block bytes s)) is)
    of_block false part = rw part (standing_is_quiet (holds_bytes bytes s) is)

    of_fault : (why : Option Reason) → IsQuiet (feeds_part g bytes why s).side
    of_fault None = of_block (block_stands bytes) refl
    of_fault (Some why) = λ is_not. refl

-- ---- roots

begins_call_stands : (g : Setting) (root : ℕ) (r : Ref) (function : ℕ) (args : List Plain) (s : Side) → (begins_call g root r function args s).cause ≡ s.cause
begins_call_stands g root null function args s = refl
begins_call_stands g root (own oid face) function args s = refl
begins_call_stands g root (peer oid face) function args s = refl

calls_stand : (g : Setting) (root : ℕ) (oid face : List ℕ) (function : ℕ) (args : List Plain) (why : Option RuntimeCause) (s : Side)
    → (calls_unless g root oid face function args why s).cause ≡ s.cause
calls_stand g root oid face function args None s = begins_call_stands g root (ref_of g oid face) function args s
calls_stand g root oid face function args (Some why) s = refl

begins_query_stands : (g : Setting) (root : ℕ) (r : Ref) (wanted : List ℕ) (s : Side) → (begins_query g root r wanted s).cause ≡ s.cause
begins_query_stands g root null wanted s = refl
begins_query_stands g root (own oid face) wanted s = refl
begins_query_stands g root (peer oid face) wanted s = refl

queries_stand : (g : Setting) (root : ℕ) (oid face wanted : List ℕ) (why : Option RuntimeCause) (s : Side) → (queries_unless g root oid face wanted why s).cause ≡ s.cause
queries_stand g root oid face wanted None s = begins_query_stands g root (ref_of g oid face) wanted s
queries_stand g root oid face wanted (Some why) s = refl

asks_stand : (g : Setting) (root : ℕ) (name wanted : List ℕ) (why : Option RuntimeCause) (s : Side) → (asks_unless g root name wanted why s).cause ≡ s.cause
asks_stand g root name wanted None s = refl
asks_stand g root name wanted (Some why) s = refl

calls_quiet : (g : Setting) (root : ℕ) (oid face : List ℕ) (function : ℕ) (args : List Plain) (why : Option RuntimeCause) (s : Side) → stands s ≡ true
    → IsQuiet (calls_unless g root oid face function args why s)
calls_quiet g root oid face function args why s is =
    keeps_quiet s (calls_unless g root oid face function args why s) (calls_stand g root oid face function args why s) is

queries_quiet : (g : Setting) (root : ℕ) (oid face wanted : List ℕ) (why : Option RuntimeCause) (s : Side) → stands s ≡ true
    → IsQuiet (queries_unless g root oid face wanted why s)
queries_quiet g root oid face wanted why s is = keeps_quiet s (queries_unless g root oid face wanted why s) (queries_stand g root oid face wanted why s) is

asks_quiet : (g : Setting) (root : ℕ) (name wanted : List ℕ) (why : Option RuntimeCause) (s : Side) → stands s ≡ true → IsQuiet (asks_unless g root name wanted why s)
asks_quiet g root name wanted why s is = keeps_quiet s (asks_unless g root name wanted why s) (asks_stand g root name wanted why s) is

-- ---- statements

effect_quiet : (g : Setting) (tid : List ℕ) (p : Picked) (e : Effect) (s : Side) → stands s ≡ true → IsQuiet (applies_effect g tid p e s)
unfolding ends_by
effect_quiet g tid p (lets x) s is = λ is_not. clash (stands s) is is_not
effect_quiet g tid p (sets x) s is = λ is_not. clash (stands s) is is_not
effect_quiet g tid p (sets_field x) s is = λ is_not. clash (stands s) is is_not
effect_quiet g tid p (drops name) s is = λ is_not. clash (stands s) is is_not
effect_quiet g tid p skips s is = λ is_not. clash (stands s) is is_not
effect_quiet g tid p (calls target function args to) s is = λ is_not. clash (stands s) is is_not
effect_quiet g tid p (queries target wanted to) s is = λ is_not. clash (stands s) is is_not
effect_quiet g tid p (makes behaviour face to) s is = λ is_not. clash (stands s) is is_not
effect_quiet g tid p disposes s is = λ is_not. refl
effect_quiet g tid p (creates name args) s is = λ is_not. clash (stands s) is is_not
effect_quiet g tid p (returns x outs) s is = λ is_not. clash (stands s) is is_not
effect_quiet g tid p (raises k x) s is = λ is_not. clash (stands s) is is_not

applied_quiet : (g : Setting) (tid : List ℕ) (p : Option Picked) (s : Side) → stands s ≡ true → IsQuiet (applies_picked g tid p s)
applied_quiet g tid None s is = standing_is_quiet s is
applied_quiet g tid (Some p) s is = effect_quiet g tid p (effect_at g tid p.method p.below s.tables) s is

-- ---- entries

reaped_quiet : (g : Setting) (o : Option Object) (s : Side) → IsQuiet s → IsQuiet (reaps_some g o s)
unfolding reaps
reaped_quiet g None s quiet = quiet
reaped_quiet g (Some o) s quiet = quiet

out_quiet : (why : Option Cause) (s : Side) → s.cause ≡ why → IsQuiet s → IsQuiet (runs_out why s)
unfolding runs_out ends_by
out_quiet None s is quiet = λ is_not. refl
out_quiet (Some why) s is quiet = λ is_not. quiet (rw is refl)

-- the first of two tests holds
pub first_holds : (a b : Bool) → (a && b) ≡ true → a ≡ true
first_holds true b is = refl
first_holds false b is = absurd (cc)

pub second_holds : (a b : Bool) → (a && b) ≡ true → b ≡ true
second_holds true b is = is
second_holds false b is = absurd (cc)

-- a step leaves a side quiet that was
pub does_quiet : (g : Setting) (e : Entry) (s : Side) → IsQuiet s → may g s e ≡ true → IsQuiet (does g e s).side
unfolding does may ends_by picked frames_of root_asks root_calls root_queries root_makes root_drops root_takes drains
does_quiet g (fed b) s quiet is = fed_quiet g b s (first_holds (stands s) _ is)
does_quiet g ended s quiet is = λ is_not. refl
does_quiet g failed s quiet is = λ is_not. refl
does_quiet g (asked root name wanted) s quiet is =
    asks_quiet g root name wanted (answered_before (root_tid g root) name x_interface_name 0 (query_args wanted)) s (first_holds (stands s) _ is)
does_quiet g (called root oid face function args) s quiet is =
    calls_quiet g root oid face function args (answered_before (root_tid g root) oid face function args) s (first_holds (stands s) _ is)
does_quiet g (queried root oid face wanted) s quiet is =
    queries_quiet g root oid face wanted (answered_before (root_tid g root) oid face 0 (query_args wanted)) s (first_holds (stands s) _ is)
does_quiet g (made root behaviour wanted) s quiet is = quiet
does_quiet g (dropped root oid face) s quiet is = quiet
does_quiet g (applied tid) s quiet is = by_standing (stands s) refl
  where
    no_stack : (ss : List Stack) → ss ≡ [] → is_picked (picked_in (frames_of tid ss)) ≡ true → ⊥
    no_stack ss none there = absurd (cc)

    by_standing : (b : Bool) → stands s ≡ b → IsQuiet (applies_picked g tid (picked tid s) s)
    by_standing true standing = applied_quiet g tid (picked tid s) s standing
    by_standing false not_standing = absurd (no_stack s.stacks (quiet not_standing) (second_holds (not (has_entries s)) _ is))
does_quiet g (took root) s quiet is = quiet
does_quiet g (reaped object) s quiet is = reaped_quiet g (lowest g s.tables) s quiet
does_quiet g (drained b) s quiet is = quiet
does_quiet g disposed s quiet is = λ is_not. refl
does_quiet g full s quiet is = λ is_not. refl
does_quiet g no_memory s quiet is = out_quiet s.cause s refl quiet
