-- Whom an answer reaches: the innermost method that the peer called, or the root under methods that were called from here; and which entries say no reply.
use Rattle.std.proofs.Common.{◌≡◌, refl, sym, ap, subst, ◌∙◌, ℕ, Bool, true, false, List, [], ◌∷◌, ◌++◌, length, drop, Option, None, Some, if◌then◌else◌}
use Rattle.std.proofs.lemmas.List.{append-nil, append_assoc}
use Rattle.message_model.specs.Messages.{Message, Answer, returned, raised}
use Rattle.uno_model.specs.BuiltIn.{x_interface_name}
use Rattle.uno_model.specs.Entities.{Entity}
use Rattle.uno_model.specs.Kinds as kd
use Rattle.uno_model.specs.Values.{Ref, null, own, peer, Plain, refs}
use Rattle.table_model.specs.declared.holder.Holder.TheVariants as holder
use Rattle.plan_model.specs.Asking.{Effect, lets, sets, sets_field, drops, skips, calls, queries, makes, disposes, creates, returns, raises}
use Rattle.plan_model.specs.Frames.{Body, Frame, base, body, outgoing, Stack}
use Rattle.plan_model.specs.Leaving.{leaving_frame}
use Rattle.plan_model.specs.declared.runtime_cause.RuntimeCause.{RuntimeCause}
use Rattle.bridge_model.specs.Calls.{query_args}
use Rattle.bridge_model.specs.Ends.{ends_by, runs_out}
use Rattle.bridge_model.specs.Entries.{Entry, fed, ended, failed, asked, called, queried, made, dropped, applied, took, reaped, drained, disposed, full, no_memory}
use Rattle.bridge_model.specs.Feeding.{feeds}
use Rattle.bridge_model.specs.Going.{reaps, reaps_object}
use Rattle.bridge_model.specs.Histories.{Told, Leads}
use Rattle.bridge_model.specs.Objects.{object_answer, lowest, without_object, defaults_of}
use Rattle.bridge_model.specs.References.{gains_all, lets_go, loses, refs_of_values}
use Rattle.bridge_model.specs.Roots.{answered_before, bottom, begins_call, calls_unless, begins_query, queries_unless, asks_unless, root_calls, root_queries, root_asks, root_makes, root_drops, root_takes}
use Rattle.bridge_model.specs.Settings.{Setting, ref_of, root_tid}
use Rattle.bridge_model.specs.Sides.{Object, waits_call, waits_query, Tables, Side, stands, with_root}
use Rattle.bridge_model.specs.Steps.{reaps_some, Turn, turn, step, does}
use Rattle.bridge_model.specs.declared.cause.Cause.{Cause}
use Rattle.bridge_laws.proofs.Replays.{of_step}
use Rattle.bridge_laws.proofs.SpeakingLaws.{SaysMore, says_feeds, says_reaps, says_calls, says_queries, says_asks, says_makes, says_drops}
use Rattle.bridge_laws.specs.Hearings.{Hears, rests, breaks, hears}
use Rattle.bridge_laws.specs.Outcomes.{for_root, for_peer, handed_down, query_fate, fate_of, frame_ended, replies, replies_of_message, serving_in, root_under, may_reply}
use Rattle.bridge_laws.proofs.ApplyingFates.{said_replies, still_calls_own, still_calls_peer}
use Rattle.bridge_laws.proofs.HandingFates.{root_still}
use Rattle.bridge_laws.proofs.HistoryLaws.{always_apart}
use Rattle.bridge_laws.proofs.MessageFates.{feeds_on}
use Rattle.bridge_laws.proofs.NoReplyLaws.{Mute, gains_all_mute, lets_go_all_mute, lets_go_mute, loses_mute, loses_all_mute, makes_object_mute}

-- ---- whom

peer_same : (b c : Body) (fs gs : List Frame) (a d : Answer) → for_peer b fs a ≡ for_peer c gs d → (b ≡ c) × (fs ≡ gs)
peer_same b c fs gs a d is = (cc, cc)

pub serves_innermost : (reg : List Entity) (tid : List ℕ) (a c : Answer) (fs below : List Frame) (b : Body) → handed_down reg tid a fs ≡ for_peer b below c → serving_in fs ≡ Some (record { method = b; below = below })
unfolding handed_down serving_in
serves_innermost reg tid a c [] below b is = absurd (cc)
serves_innermost reg tid a c (base root ∷ fs) below b is = absurd (cc)
serves_innermost reg tid a c (outgoing o ∷ fs) below b is = absurd (cc)
serves_innermost reg tid (returned x outs) c (body m ∷ fs) below b is = absurd (cc)
serves_innermost reg tid (raised k x) c (body m ∷ fs) below b is = by_peer m.from_peer is (λ later. serves_innermost reg tid (leaving_frame reg tid m (raised k x)) c fs below b later)
  where
    by_peer : (p : Bool) → (if p then for_peer m fs (leaving_frame reg tid m (raised k x)) else handed_down reg tid (leaving_frame reg tid m (raised k x)) fs) ≡ for_peer b below c
        → (handed_down reg tid (leaving_frame reg tid m (raised k x)) fs ≡ for_peer b below c → serving_in fs ≡ Some (record { method = b; below = below }))
        → (if p then Some (record { method = m; below = fs }) else serving_in fs) ≡ Some (record { method = b; below = below })
    by_peer true same later = let both = peer_same m b fs below _ c same in λ i. Some (record { method = both.0 i; below = both.1 i })
    by_peer false same later = later same

pub serves_ended : (reg : List Entity) (tid : List ℕ) (m : Body) (a c : Answer) (fs below : List Frame) (b : Body) → frame_ended reg tid m a fs ≡ for_peer b below c
    → serving_in (body m ∷ fs) ≡ Some (record { method = b; below = below })
unfolding serving_in
serves_ended reg tid m a c fs below b is = by_peer m.from_peer is
  where
    by_peer : (p : Bool) → (if p then for_peer m fs a else handed_down reg tid a fs) ≡ for_peer b below c
        → (if p then Some (record { method = m; below = fs }) else serving_in fs) ≡ Some (record { method = b; below = below })
    by_peer true same = let both = peer_same m b fs below a c same in λ i. Some (record { method = both.0 i; below = both.1 i })
    by_peer false same = serves_innermost reg tid a c fs below b same

root_same : (n m : ℕ) (a d : Answer) → for_root n a ≡ for_root m d → n ≡ m
root_same n m a d is = cc

pub roots_under : (reg : List Entity) (tid : List ℕ) (a c : Answer) (fs : List Frame) (n : ℕ) → handed_down reg tid a fs ≡ for_root n c → root_under fs ≡ Some n
unfolding handed_down root_under
roots_under reg tid a c [] n is = absurd (cc)
roots_under reg tid a c (base root ∷ fs) n is = ap (λ m. Some m) (root_same root n a c is)
roots_under reg tid a c (outgoing o ∷ fs) n is = absurd (cc)
roots_under reg tid (returned x outs) c (body m ∷ fs) n is = absurd (cc)
roots_under reg tid (raised k x) c (body m ∷ fs) n is = by_peer m.from_peer is (λ later. roots_under reg tid (leaving_frame reg tid m (raised k x)) c fs n later)
  where
    by_peer : (p : Bool) → (if p then for_peer m fs (leaving_frame reg tid m (raised k x)) else handed_down reg tid (leaving_frame reg tid m (raised k x)) fs) ≡ for_root n c
        → (handed_down reg tid (leaving_frame reg tid m (raised k x)) fs ≡ for_root n c → root_under fs ≡ Some n) → (if p then None else root_under fs) ≡ Some n
    by_peer true same later = absurd (cc)
    by_peer false same later = later same

pub root_ended : (reg : List Entity) (tid : List ℕ) (m : Body) (a c : Answer) (fs : List Frame) (n : ℕ) → frame_ended reg tid m a fs ≡ for_root n c → root_under (body m ∷ fs) ≡ Some n
unfolding root_under
root_ended reg tid m a c fs n is = by_peer m.from_peer is
  where
    by_peer : (p : Bool) → (if p then for_peer m fs a else handed_down reg tid a fs) ≡ for_root n c → (if p then None else root_under fs) ≡ Some n
    by_peer true same = absurd (cc)
    by_peer false same = roots_under reg tid a c fs n same

query_serves : (g : Setting) (tid : List ℕ) (r : Ref) (wanted : List ℕ) (m b : Body) (fs below : List Frame) (t : Tables) (c : Answer) → query_fate g tid r wanted m fs t ≡ for_peer b below c
    → serving_in (body m ∷ fs) ≡ Some (record { method = b; below = below })
unfolding handed_down
query_serves g tid null wanted m b fs below t c is = absurd (cc)
query_serves g tid (own oid face) wanted m b fs below t c is = absurd (cc)
query_serves g tid (peer oid face) wanted m b fs below t c is = absurd (cc)

-- the peer that a statement answers is the one that called the innermost method that it called
pub fate_serves : (g : Setting) (tid : List ℕ) (m b : Body) (fs below : List Frame) (e : Effect) (t : Tables) (c : Answer) → fate_of g tid m fs e t ≡ for_peer b below c
    → serving_in (body m ∷ fs) ≡ Some (record { method = b; below = below })
unfolding fate_of
fate_serves g tid m b fs below (lets x) t c is = absurd (cc)
fate_serves g tid m b fs below (sets x) t c is = absurd (cc)
fate_serves g tid m b fs below (sets_field x) t c is = absurd (cc)
fate_serves g tid m b fs below (drops name) t c is = absurd (cc)
fate_serves g tid m b fs below skips t c is = absurd (cc)
fate_serves g tid m b fs below (calls target function args to) t c is = absurd (cc)
fate_serves g tid m b fs below (queries target wanted to) t c is = query_serves g tid target wanted m b fs below t c is
fate_serves g tid m b fs below (makes behaviour face to) t c is = absurd (cc)
fate_serves g tid m b fs below disposes t c is = absurd (cc)
fate_serves g tid m b fs below (creates name args) t c is = serves_ended g.registry tid m _ c fs below b is
fate_serves g tid m b fs below (returns x outs) t c is = serves_ended g.registry tid m (returned x outs) c fs below b is
fate_serves g tid m b fs below (raises k x) t c is = serves_ended g.registry tid m (raised k x) c fs below b is

query_root : (g : Setting) (tid : List ℕ) (r : Ref) (wanted : List ℕ) (m : Body) (n : ℕ) (fs : List Frame) (t : Tables) (c : Answer) → query_fate g tid r wanted m fs t ≡ for_root n c
    → root_under (body m ∷ fs) ≡ Some n
unfolding handed_down
query_root g tid null wanted m n fs t c is = absurd (cc)
query_root g tid (own oid face) wanted m n fs t c is = absurd (cc)
query_root g tid (peer oid face) wanted m n fs t c is = absurd (cc)

-- the root that a statement answers is the one under methods that were called from here
pub fate_root : (g : Setting) (tid : List ℕ) (m : Body) (n : ℕ) (fs : List Frame) (e : Effect) (t : Tables) (c : Answer) → fate_of g tid m fs e t ≡ for_root n c → root_under (body m ∷ fs) ≡ Some n
unfolding fate_of
fate_root g tid m n fs (lets x) t c is = absurd (cc)
fate_root g tid m n fs (sets x) t c is = absurd (cc)
fate_root g tid m n fs (sets_field x) t c is = absurd (cc)
fate_root g tid m n fs (drops name) t c is = absurd (cc)
fate_root g tid m n fs skips t c is = absurd (cc)
fate_root g tid m n fs (calls target function args to) t c is = absurd (cc)
fate_root g tid m n fs (queries target wanted to) t c is = query_root g tid target wanted m n fs t c is
fate_root g tid m n fs (makes behaviour face to) t c is = absurd (cc)
fate_root g tid m n fs disposes t c is = absurd (cc)
fate_root g tid m n fs (creates name args) t c is = root_ended g.registry tid m _ c fs n is
fate_root g tid m n fs (returns x outs) t c is = root_ended g.registry tid m (returned x outs) c fs n is
fate_root g tid m n fs (raises k x) t c is = root_ended g.registry tid m (raised k x) c fs n is

-- ---- a piece

-- all replies of its messages
chain_said : (g : Setting) (t : Tables) (ss : List Stack) (ms rs : List Message) (z : Side) → Hears g t ss ms rs z → replies z.tables.unsaid ≡ replies t.unsaid ++ rs
unfolding ends_by
chain_said g t' ss' ms' rs' z' (rests z) = sym (append-nil (replies z.tables.unsaid))
chain_said g t' ss' ms' rs' z' (breaks s why place) = sym (append-nil (replies s.tables.unsaid))
chain_said g t' ss' ms' rs' end' (hears t ss m z ms rs end got later) =
    chain_said g z.tables z.stacks ms rs end later ∙ (ap (λ xs. xs ++ rs) got.said ∙ append_assoc (replies t.unsaid) (replies_of_message g t ss m) rs)

-- what a piece brings and says, one message after the other
pub record IsHeard (g : Setting) (s : Side) (u : Turn) : Type 0 where
  pub chain : Hears g s.tables s.stacks u.got (replies u.said) u.side

fed_heard : (g : Setting) (b : List ℕ) (s : Side) → (rs : List Message) → Hears g s.tables s.stacks (feeds g b s).got rs (feeds g b s).side → IsHeard g s (turn (fed b) s (feeds g b s))
fed_heard g b s rs chain =
    let more = says_feeds g b s in
    let said = said_replies s.tables.unsaid (feeds g b s).side.tables.unsaid more.new rs more.said (chain_said g s.tables s.stacks (feeds g b s).got rs (feeds g b s).side chain) in
    record { chain = subst (λ xs. Hears g s.tables s.stacks (feeds g b s).got xs (feeds g b s).side) (sym said) chain }

pub piece_heard : (g : Setting) (es : List Entry) (x : Told) (b : List ℕ) (u : Turn) → Leads g es x → step g x.side (fed b) ≡ Some u → Hears g x.side.tables x.side.stacks u.got (replies u.said) u.side
unfolding does
piece_heard g es x b u leads is =
    let h = feeds_on g b x.side (always_apart g es x leads) in
    (of_step g x.side (fed b) u (λ v. IsHeard g x.side v) (λ can. fed_heard g b x.side h.answers h.chain) is).chain

-- ---- entries that say no reply

nothing_said : (e : Entry) (s z : Side) → SaysMore s z → Mute s.tables z.tables → replies (drop (length s.tables.unsaid) z.tables.unsaid) ≡ []
nothing_said e s z more mute = said_replies s.tables.unsaid z.tables.unsaid more.new [] more.said (mute ∙ sym (append-nil (replies s.tables.unsaid)))

drop_all : {X : Type 0} (xs : List X) → drop (length xs) xs ≡ []
drop_all [] = refl
drop_all (x ∷ xs) = drop_all xs

drop_none : {X : Type 0} (xs ys : List X) → ys ≡ [] → drop (length xs) ys ≡ []
drop_none [] [] is = refl
drop_none (x ∷ xs) [] is = refl
drop_none xs (y ∷ ys) is = absurd (cc)

no_replies : (ms : List Message) → ms ≡ [] → replies ms ≡ []
unfolding replies
no_replies [] is = refl
no_replies (m ∷ ms) is = absurd (cc)

end_says : (why : Cause) (s : Side) → replies (drop (length s.tables.unsaid) (ends_by why s).tables.unsaid) ≡ []
unfolding ends_by
end_says why s = no_replies _ (drop_all s.tables.unsaid)

begins_mute : (g : Setting) (root : ℕ) (r : Ref) (function : ℕ) (args : List Plain) (s : Side) → Mute s.tables (begins_call g root r function args s).tables
begins_mute g root null function args s = refl
begins_mute g root (own oid face) function args s = (still_calls_own g oid face function args (bottom root) (with_root root waits_call s.tables)).mute
begins_mute g root (peer oid face) function args s = (still_calls_peer g (root_tid g root) oid face function args (bottom root) (with_root root waits_call s.tables)).mute

calls_mute : (g : Setting) (root : ℕ) (oid face : List ℕ) (function : ℕ) (args : List Plain) (why : Option RuntimeCause) (s : Side) → Mute s.tables (calls_unless g root oid face function args why s).tables
calls_mute g root oid face function args None s = begins_mute g root (ref_of g oid face) function args s
calls_mute g root oid face function args (Some why) s = refl

query_mute : (g : Setting) (root : ℕ) (r : Ref) (wanted : List ℕ) (s : Side) → Mute s.tables (begins_query g root r wanted s).tables
query_mute g root null wanted s = refl
query_mute g root (own oid face) wanted s =
    let x = object_answer g oid (kd.interface wanted) s.tables.objects in
    let held = gains_all (holder.Root root) (refs x) s.tables in
    (root_still g root (waits_query wanted) (returned x []) held).mute ∙ gains_all_mute (holder.Root root) (refs x) s.tables
query_mute g root (peer oid face) wanted s = (still_calls_peer g (root_tid g root) oid face 0 (query_args wanted) (bottom root) (with_root root (waits_query wanted) s.tables)).mute

queries_mute : (g : Setting) (root : ℕ) (oid face wanted : List ℕ) (why : Option RuntimeCause) (s : Side) → Mute s.tables (queries_unless g root oid face wanted why s).tables
queries_mute g root oid face wanted None s = query_mute g root (ref_of g oid face) wanted s
queries_mute g root oid face wanted (Some why) s = refl

asks_mute : (g : Setting) (root : ℕ) (name wanted : List ℕ) (why : Option RuntimeCause) (s : Side) → Mute s.tables (asks_unless g root name wanted why s).tables
asks_mute g root name wanted None s = (still_calls_peer g (root_tid g root) name x_interface_name 0 (query_args wanted) (bottom root) (with_root root (waits_query wanted) s.tables)).mute
asks_mute g root name wanted (Some why) s = refl

drops_mute : (g : Setting) (root : ℕ) (r : Ref) (t : Tables) (b : Bool) → Mute t ((if b then lets_go g (holder.Root root) r else loses (holder.Root root) r) t)
drops_mute g root r t true = lets_go_mute g (holder.Root root) r t
drops_mute g root r t false = loses_mute (holder.Root root) r t

reaps_by : (g : Setting) (b : Bool) (o : Object) (t : Tables) → Mute t (reaps_object g b o t)
reaps_by g true o t = lets_go_all_mute g (holder.Object o.number) (refs_of_values o.fields) (record t { objects = without_object o.number t.objects })
reaps_by g false o t = loses_all_mute (holder.Object o.number) (refs_of_values o.fields) (record t { objects = without_object o.number t.objects })

reaps_mute : (g : Setting) (o : Option Object) (s : Side) → Mute s.tables (reaps_some g o s).tables
unfolding reaps
reaps_mute g None s = refl
reaps_mute g (Some o) s = reaps_by g (stands s) o s.tables

out_says : (why : Option Cause) (s : Side) → replies (drop (length s.tables.unsaid) (runs_out why s).tables.unsaid) ≡ []
unfolding runs_out ends_by
out_says None s = no_replies _ (drop_none s.tables.unsaid [] refl)
out_says (Some why) s = no_replies _ (drop_none s.tables.unsaid [] refl)

does_mute : (g : Setting) (e : Entry) (s : Side) → may_reply e ≡ false → replies (turn e s (does g e s)).said ≡ []
unfolding does root_asks root_calls root_queries root_makes root_drops root_takes
does_mute g (fed b) s is = absurd (cc)
does_mute g ended s is = end_says _ s
does_mute g failed s is = end_says _ s
does_mute g (asked root name wanted) s is =
    nothing_said (asked root name wanted) s (root_asks g root name wanted s) (says_asks g root name wanted s) (asks_mute g root name wanted (answered_before (root_tid g root) name x_interface_name 0 (query_args wanted)) s)
does_mute g (called root oid face function args) s is =
    nothing_said (called root oid face function args) s (root_calls g root oid face function args s) (says_calls g root oid face function args s) (calls_mute g root oid face function args (answered_before (root_tid g root) oid face function args) s)
does_mute g (queried root oid face wanted) s is =
    nothing_said (queried root oid face wanted) s (root_queries g root oid face wanted s) (says_queries g root oid face wanted s) (queries_mute g root oid face wanted (answered_before (root_tid g root) oid face 0 (query_args wanted)) s)
does_mute g (made root behaviour wanted) s is = nothing_said (made root behaviour wanted) s (root_makes g root behaviour wanted s) (says_makes g root behaviour wanted s) (makes_object_mute behaviour (defaults_of g behaviour) s.tables)
does_mute g (dropped root oid face) s is = nothing_said (dropped root oid face) s (root_drops g root oid face s) (says_drops g root oid face s) (drops_mute g root (ref_of g oid face) s.tables (stands s))
does_mute g (applied tid) s is = absurd (cc)
does_mute g (took root) s is = no_replies _ (drop_all s.tables.unsaid)
does_mute g (reaped object) s is = nothing_said (reaped object) s (reaps_some g (lowest g s.tables) s) (says_reaps g (lowest g s.tables) s) (reaps_mute g (lowest g s.tables) s)
does_mute g (drained b) s is = no_replies [] refl
does_mute g disposed s is = end_says _ s
does_mute g full s is = end_says _ s
does_mute g no_memory s is = out_says s.cause s

pub entry_mute : (g : Setting) (s : Side) (e : Entry) (u : Turn) → step g s e ≡ Some u → may_reply e ≡ false → replies u.said ≡ []
entry_mute g s e u is none = of_step g s e u (λ v. replies v.said ≡ []) (λ can. does_mute g e s none) is
