-- No entry changes how many were counted: the step alone counts.
use Rattle.std.proofs.Common.{◌≡◌, refl, ◌∙◌, ℕ, zero, suc, Bool, true, false, ◌==◌, List, [], ◌∷◌, ◌++◌, Option, None, Some, Result, Ok, Err}
use Rattle.message_model.specs.Headers.{Heard}
use Rattle.message_model.specs.Messages.{Message, request, release, reply}
use Rattle.message_model.specs.ReadingMessages.{message_at}
use Rattle.uno_model.specs.Values.{Ref, null, own, peer, Plain}
use Rattle.urp_model.specs.declared.fault.Fault.{Fault}
use Rattle.urp_model.specs.declared.reason.Reason.{Reason}
use Rattle.plan_model.specs.Asking.{Effect, lets, sets, sets_field, drops, skips, calls, queries, makes, disposes, creates, returns, raises}
use Rattle.plan_model.specs.declared.runtime_cause.RuntimeCause.{RuntimeCause}
use Rattle.bridge_model.specs.Calls.{query_args}
use Rattle.bridge_model.specs.Ends.{ends_by, runs_out}
use Rattle.bridge_model.specs.Entries.{Entry, fed, ended, failed, asked, called, queried, made, dropped, applied, took, reaped, drained, disposed, full, no_memory}
use Rattle.bridge_model.specs.Feeding.{Hearing, Next, gets, hears_tested, hears_read, hears, feeds_part, feeds, block_stands, header_fault, heard_nothing, takes_block}
use Rattle.bridge_model.specs.Going.{drains, reaps}
use Rattle.bridge_model.specs.Objects.{lowest}
use Rattle.bridge_model.specs.Receiving.{receives, requested, refusal}
use Rattle.bridge_model.specs.Roots.{answered_before, begins_call, calls_unless, begins_query, queries_unless, asks_unless, root_calls, root_queries, root_asks, root_makes, root_drops, root_takes}
use Rattle.bridge_model.specs.Settings.{Setting, ref_of, root_tid}
use Rattle.bridge_model.specs.Sides.{Object, Side}
use Rattle.bridge_model.specs.Stacks.{waits_of}
use Rattle.bridge_model.specs.Steps.{Picked, picked, applies_effect, applies_picked, reaps_some, does}
use Rattle.bridge_model.specs.Applying.{effect_at}
use Rattle.bridge_model.specs.declared.cause.Cause.{Cause}
use Rattle.uno_model.specs.BuiltIn.{x_interface_name}

-- ---- messages

requested_counts : (g : Setting) (tid oid face : List ℕ) (function : ℕ) (args : List Plain) (s : Side) (b : Bool) → (function == 0) ≡ b
    → (requested g tid oid face function args s).entries ≡ s.entries
requested_counts g tid oid face function args s true is = rw is refl
requested_counts g tid oid face function args s false is = rw is refl

receives_counts : (g : Setting) (m : Message) (s : Side) → (receives g m s).entries ≡ s.entries
unfolding receives
receives_counts g (request tid oid face function args) s = requested_counts g tid oid face function args s (function == 0) refl
receives_counts g (release tid oid face) s = refl
receives_counts g (reply tid face function a) s = refl

-- ---- bytes

hears_counts : (g : Setting) (n front place : ℕ) (bytes : List ℕ) (x : Hearing) → (hears g n front place bytes x).side.entries ≡ x.side.entries
unfolding hears ends_by
hears_counts g zero front place [] x = refl
hears_counts g zero front place (b ∷ bytes) x = refl
hears_counts g (suc n) front place bytes x =
    of_read (hears g n front) (λ next rest y. hears_counts g n front next rest y) (message_at g.registry (waits_of x.side.stacks) x.side.incoming.heard bytes)
  where
    of_refusal : (more : Next) → ((next : ℕ) (rest : List ℕ) (y : Hearing) → (more next rest y).side.entries ≡ y.side.entries) → (next : ℕ) (read : Message × Heard × List ℕ)
        (why : Option Reason) → (hears_tested g more place next read why x).side.entries ≡ x.side.entries
    of_refusal more keeps next read None = keeps next read.2 (gets g read.0 read.1 x) ∙ receives_counts g read.0 _
    of_refusal more keeps next read (Some why) = refl

    of_read : (more : Next) → ((next : ℕ) (rest : List ℕ) (y : Hearing) → (more next rest y).side.entries ≡ y.side.entries) → (r : Result (Message × Heard × List ℕ) Fault)
        → (hears_read g more place bytes r x).side.entries ≡ x.side.entries
    of_read more keeps (Ok read) = of_refusal more keeps _ read (refusal g x.side read.0)
    of_read more keeps (Err fault) = refl

fed_counts : (g : Setting) (piece : List ℕ) (s : Side) → (feeds g piece s).side.entries ≡ s.entries
unfolding feeds ends_by
fed_counts g piece s = of_fault (header_fault (s.incoming.held ++ piece))
  where
    bytes : List ℕ
    bytes = s.incoming.held ++ piece

    of_block : (b : Bool) → block_stands bytes ≡ b → (feeds_part g bytes None s).side.entries ≡ s.entries
    of_block true is = rw is (hears_counts g _ _ _ _ (heard_nothing (takes_block bytes s)))
    of_block false is = rw is refl

    of_fault : (why : Option Reason) → (feeds_part g bytes why s).side.entries ≡ s.entries
    of_fault None = of_block (block_stands bytes) refl
    of_fault (Some why) = refl

-- ---- roots

begins_call_counts : (g : Setting) (root : ℕ) (r : Ref) (function : ℕ) (args : List Plain) (s : Side) → (begins_call g root r function args s).entries ≡ s.entries
begins_call_counts g root null function args s = refl
begins_call_counts g root (own oid face) function args s = refl
begins_call_counts g root (peer oid face) function args s = refl

calls_counts : (g : Setting) (root : ℕ) (oid face : List ℕ) (function : ℕ) (args : List Plain) (why : Option RuntimeCause) (s : Side)
    → (calls_unless g root oid face function args why s).entries ≡ s.entries
calls_counts g root oid face function args None s = begins_call_counts g root (ref_of g oid face) function args s
calls_counts g root oid face function args (Some why) s = refl

begins_query_counts : (g : Setting) (root : ℕ) (r : Ref) (wanted : List ℕ) (s : Side) → (begins_query g root r wanted s).entries ≡ s.entries
begins_query_counts g root null wanted s = refl
begins_query_counts g root (own oid face) wanted s = refl
begins_query_counts g root (peer oid face) wanted s = refl

queries_counts : (g : Setting) (root : ℕ) (oid face wanted : List ℕ) (why : Option RuntimeCause) (s : Side)
    → (queries_unless g root oid face wanted why s).entries ≡ s.entries
queries_counts g root oid face wanted None s = begins_query_counts g root (ref_of g oid face) wanted s
queries_counts g root oid face wanted (Some why) s = refl

asks_counts : (g : Setting) (root : ℕ) (name wanted : List ℕ) (why : Option RuntimeCause) (s : Side) → (asks_unless g root name wanted why s).entries ≡ s.entries
asks_counts g root name wanted None s = refl
asks_counts g root name wanted (Some why) s = refl

-- ---- statements

effect_counts : (g : Setting) (tid : List ℕ) (p : Picked) (e : Effect) (s : Side) → (applies_effect g tid p e s).entries ≡ s.entries
unfolding ends_by
effect_counts g tid p (lets x) s = refl
effect_counts g tid p (sets x) s = refl
effect_counts g tid p (sets_field x) s = refl
effect_counts g tid p (drops name) s = refl
effect_counts g tid p skips s = refl
effect_counts g tid p (calls target function args to) s = refl
effect_counts g tid p (queries target wanted to) s = refl
effect_counts g tid p (makes behaviour face to) s = refl
effect_counts g tid p disposes s = refl
effect_counts g tid p (creates name args) s = refl
effect_counts g tid p (returns x outs) s = refl
effect_counts g tid p (raises k x) s = refl

applied_counts : (g : Setting) (tid : List ℕ) (p : Option Picked) (s : Side) → (applies_picked g tid p s).entries ≡ s.entries
applied_counts g tid None s = refl
applied_counts g tid (Some p) s = effect_counts g tid p (effect_at g tid p.method p.below s.tables) s

reaped_counts : (g : Setting) (o : Option Object) (s : Side) → (reaps_some g o s).entries ≡ s.entries
unfolding reaps
reaped_counts g None s = refl
reaped_counts g (Some o) s = refl

out_counts : (why : Option Cause) (s : Side) → (runs_out why s).entries ≡ s.entries
unfolding runs_out ends_by
out_counts None s = refl
out_counts (Some why) s = refl

-- ---- entries

pub does_counts : (g : Setting) (e : Entry) (s : Side) → (does g e s).side.entries ≡ s.entries
unfolding does ends_by root_asks root_calls root_queries root_makes root_drops root_takes drains
does_counts g (fed b) s = fed_counts g b s
does_counts g ended s = refl
does_counts g failed s = refl
does_counts g (asked root name wanted) s = asks_counts g root name wanted (answered_before (root_tid g root) name x_interface_name 0 (query_args wanted)) s
does_counts g (called root oid face function args) s = calls_counts g root oid face function args (answered_before (root_tid g root) oid face function args) s
does_counts g (queried root oid face wanted) s = queries_counts g root oid face wanted (answered_before (root_tid g root) oid face 0 (query_args wanted)) s
does_counts g (made root behaviour wanted) s = refl
does_counts g (dropped root oid face) s = refl
does_counts g (applied tid) s = applied_counts g tid (picked tid s) s
does_counts g (took root) s = refl
does_counts g (reaped object) s = reaped_counts g (lowest g s.tables) s
does_counts g (drained b) s = refl
does_counts g disposed s = refl
does_counts g full s = refl
does_counts g no_memory s = out_counts s.cause s
