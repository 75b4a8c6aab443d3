-- What a statement and a message do to replies, roots and frames is what their fate says.
use Rattle.std.proofs.Common.{◌≡◌, refl, sym, ap, subst, ◌∙◌, ℕ, true, List, [], ◌∷◌, ◌++◌, length, drop, Option, None, Some, Result, Ok, Err}
use Rattle.std.proofs.lemmas.List.{append-nil, append_cancel_left, drop_at}
use Rattle.message_model.specs.Messages.{Message, returned, raised, request}
use Rattle.uno_model.specs.Kinds as kd
use Rattle.uno_model.specs.Values.{Ref, null, own, peer, Plain}
use Rattle.table_model.specs.declared.holder.Holder.TheVariants as holder
use Rattle.plan_model.specs.Asking.{Effect, lets, sets, sets_field, drops, skips, calls, queries, makes, disposes, creates, returns, raises}
use Rattle.plan_model.specs.Frames.{Variable, Body, Frame, body}
use Rattle.plan_model.specs.Holdings.{let_go_by, held_by}
use Rattle.plan_model.specs.Services.{Created, fresh, singleton, created}
use Rattle.plan_model.specs.declared.refusal.Refusal.{Refusal}
use Rattle.bridge_model.specs.Applying.{holder_for, with_fields_after, changes_own, goes_on_after, applies_call, applies_query, applies_making, applies_creating, applies, effect_at}
use Rattle.bridge_model.specs.Calls.{unwound, calls_own, calls_peer, serves, query_args, queries_peer, counts_frame}
use Rattle.bridge_model.specs.Ends.{ends_by}
use Rattle.bridge_model.specs.Entries.{applied}
use Rattle.bridge_model.specs.Feeding.{heard_nothing}
use Rattle.bridge_model.specs.Handing.{gains_below}
use Rattle.bridge_model.specs.Objects.{object_numbered, variables_of, object_answer, makes_object, defaults_of}
use Rattle.bridge_model.specs.References.{says, gains_all, refs_of_values}
use Rattle.bridge_model.specs.Settings.{Setting}
use Rattle.bridge_model.specs.Sides.{Tables, Side, stands}
use Rattle.bridge_model.specs.Stacks.{with_unwound}
use Rattle.bridge_model.specs.Steps.{Picked, picked, Turn, turn, applies_effect, applies_picked, does, step}
use Rattle.bridge_laws.proofs.Replays.{of_step}
use Rattle.bridge_laws.proofs.SpeakingLaws.{SaysMore, says_picked}
use Rattle.bridge_laws.specs.Outcomes.{nothing, frame_ended, creation, query_fate, fate_of, replies, IsAnswered}
use Rattle.bridge_laws.proofs.HandingFates.{Given, after_still, nothing_given, hands_given, ends_given}
use Rattle.bridge_laws.proofs.NoReplyLaws.{replies_append, says_replies, IsStill, still, then_still, still_gains_all, still_takes_all, still_lets_go_all, still_makes_object, still_gains_below}

-- ---- statements

still_fields : (e : Effect) (b : Body) (fields : List Variable) (t : Tables) → IsStill t (with_fields_after e b fields t)
still_fields (sets_field x) b fields t = record { mute = refl; stay = refl }
still_fields e b fields t = still t

still_own : (g : Setting) (e : Effect) (b : Body) (fields : List Variable) (t : Tables) → IsStill t (changes_own g e b fields t)
still_own g e b fields t =
    let held = gains_all (holder_for e b) (held_by e) t in
    let set = with_fields_after e b fields held in
    then_still t held _ (still_gains_all (holder_for e b) (held_by e) t) (then_still held set _ (still_fields e b fields held) (still_lets_go_all g (holder_for e b) (let_go_by b.variables fields e) set))

own_given : (g : Setting) (tid : List ℕ) (e : Effect) (b : Body) (fs : List Frame) (t : Tables) → Given g tid t nothing (goes_on_after g e b fs t)
own_given g tid e b fs t = nothing_given g tid t (goes_on_after g e b fs t) (still_own g e b (variables_of g (object_numbered b.object t.objects)) t)

still_counts : (t u : Tables) → IsStill t u → IsStill t (counts_frame u)
still_counts t u s = record { mute = s.mute; stay = s.stay }

pub still_calls_own : (g : Setting) (oid face : List ℕ) (function : ℕ) (args : List Plain) (fs : List Frame) (t : Tables) → IsStill t (calls_own g oid face function args fs t).tables
unfolding calls_own
still_calls_own g oid face function args fs t = let s = still_gains_all (holder.Frame t.frames_made) (refs_of_values args) t in record { mute = s.mute; stay = s.stay }

pub still_serves : (g : Setting) (oid face : List ℕ) (function : ℕ) (args : List Plain) (fs : List Frame) (t : Tables) → IsStill t (serves g oid face function args fs t).tables
unfolding serves
still_serves g oid face function args fs t = let s = still_takes_all g (holder.Frame t.frames_made) (refs_of_values args) t in record { mute = s.mute; stay = s.stay }

says_stays : (g : Setting) (m : Message) (t : Tables) → (says g m t).roots ≡ t.roots
unfolding says
says_stays g m t = refl

pub still_calls_peer : (g : Setting) (tid oid face : List ℕ) (function : ℕ) (args : List Plain) (fs : List Frame) (t : Tables) → IsStill t (calls_peer g tid oid face function args fs t).tables
unfolding calls_peer
still_calls_peer g tid oid face function args fs t =
    let m = request tid oid face function args in record { mute = says_replies g m t ∙ append-nil (replies t.unsaid); stay = says_stays g m t }

call_given : (g : Setting) (tid : List ℕ) (r : Ref) (function : ℕ) (args : List Plain) (fs : List Frame) (t : Tables) → Given g tid t nothing (applies_call g tid r function args fs t)
call_given g tid null function args fs t = nothing_given g tid t (unwound fs t) (still t)
call_given g tid (own oid face) function args fs t = nothing_given g tid t (calls_own g oid face function args fs t) (still_calls_own g oid face function args fs t)
call_given g tid (peer oid face) function args fs t = nothing_given g tid t (calls_peer g tid oid face function args fs t) (still_calls_peer g tid oid face function args fs t)

query_given : (g : Setting) (tid : List ℕ) (r : Ref) (wanted : List ℕ) (b : Body) (fs : List Frame) (t : Tables) → Given g tid t (query_fate g tid r wanted b fs t) (applies_query g tid r wanted (body b ∷ fs) t)
query_given g tid null wanted b fs t = nothing_given g tid t (unwound (body b ∷ fs) t) (still t)
query_given g tid (own oid face) wanted b fs t =
    let x = object_answer g oid (kd.interface wanted) t.objects in
    let below = gains_below (body b ∷ fs) (returned x []) t in
    after_still g tid t below _ _ (still_gains_below (body b ∷ fs) (returned x []) t) (hands_given g tid (returned x []) (body b ∷ fs) below)
query_given g tid (peer oid face) wanted b fs t = nothing_given g tid t (queries_peer g tid oid face wanted (body b ∷ fs) t) (still_calls_peer g tid oid face 0 (query_args wanted) (body b ∷ fs) t)

making_given : (g : Setting) (tid : List ℕ) (behaviour : ℕ) (face to : List ℕ) (b : Body) (fs : List Frame) (t : Tables) → Given g tid t nothing (applies_making g behaviour face to b fs t)
making_given g tid behaviour face to b fs t =
    let s = still_makes_object behaviour (defaults_of g behaviour) t in nothing_given g tid t (applies_making g behaviour face to b fs t) (record { mute = s.mute; stay = s.stay })

creating_given : (g : Setting) (tid : List ℕ) (b : Body) (name : List ℕ) (r : Result Created Refusal) (fs : List Frame) (t : Tables)
    → Given g tid t (frame_ended g.registry tid b (creation g tid b name r t) fs) (applies_creating g tid b name r fs t)
unfolding applies_creating creation
creating_given g tid b name (Ok (fresh behaviour fields)) fs t =
    let made = makes_object behaviour fields t in after_still g tid t made _ _ (still_makes_object behaviour fields t) (ends_given g tid b _ fs made)
creating_given g tid b name (Ok (singleton place)) fs t = ends_given g tid b _ fs t
creating_given g tid b name (Err why) fs t = ends_given g tid b _ fs t

pub applies_given : (g : Setting) (tid : List ℕ) (b : Body) (fs : List Frame) (e : Effect) (t : Tables) → Given g tid t (fate_of g tid b fs e t) (applies g tid b fs e t)
unfolding applies fate_of
applies_given g tid b fs (lets x) t = own_given g tid (lets x) b fs t
applies_given g tid b fs (sets x) t = own_given g tid (sets x) b fs t
applies_given g tid b fs (sets_field x) t = own_given g tid (sets_field x) b fs t
applies_given g tid b fs (drops name) t = own_given g tid (drops name) b fs t
applies_given g tid b fs skips t = own_given g tid skips b fs t
applies_given g tid b fs (calls target function args to) t = call_given g tid target function args (body b ∷ fs) t
applies_given g tid b fs (queries target wanted to) t = query_given g tid target wanted b fs t
applies_given g tid b fs (makes behaviour face to) t = making_given g tid behaviour face to b fs t
applies_given g tid b fs disposes t = nothing_given g tid t (unwound (body b ∷ fs) t) (still t)
applies_given g tid b fs (creates name args) t = creating_given g tid b name (created g.plan g.registry name args) fs t
applies_given g tid b fs (returns x outs) t = ends_given g tid b (returned x outs) fs t
applies_given g tid b fs (raises k x) t = ends_given g tid b (raised k x) fs t

-- ---- a turn

-- what was said more are these replies
pub said_replies : (before after new rs : List Message) → after ≡ before ++ new → replies after ≡ replies before ++ rs → replies (drop (length before) after) ≡ rs
said_replies before after new rs is more =
    ap (λ ms. replies (drop (length before) ms)) is
    ∙ (ap replies (drop_at before new (length before) refl)
    ∙ append_cancel_left (replies before) (replies new) rs (sym (replies_append before new) ∙ (ap replies (sym is) ∙ more)))

effect_is : (g : Setting) (tid : List ℕ) (p : Picked) (e : Effect) (s : Side) → stands (applies_effect g tid p e s) ≡ true
    → applies_effect g tid p e s ≡ with_unwound tid (applies g tid p.method p.below e s.tables) s
unfolding ends_by
effect_is g tid p disposes s up = absurd (cc)
effect_is g tid p (lets x) s up = refl
effect_is g tid p (sets x) s up = refl
effect_is g tid p (sets_field x) s up = refl
effect_is g tid p (drops name) s up = refl
effect_is g tid p skips s up = refl
effect_is g tid p (calls target function args to) s up = refl
effect_is g tid p (queries target wanted to) s up = refl
effect_is g tid p (makes behaviour face to) s up = refl
effect_is g tid p (creates name args) s up = refl
effect_is g tid p (returns x outs) s up = refl
effect_is g tid p (raises k x) s up = refl

abbrev turned_to : List ℕ → Side → Side → Turn
turned_to tid s z = turn (applied tid) s (heard_nothing z)

effect_answered : (g : Setting) (tid : List ℕ) (p : Picked) (e : Effect) (s : Side) → stands (applies_effect g tid p e s) ≡ true → SaysMore s (applies_effect g tid p e s)
    → IsAnswered g tid s (fate_of g tid p.method p.below e s.tables) (turned_to tid s (applies_effect g tid p e s))
effect_answered g tid p e s up more =
    let is = effect_is g tid p e s up in
    let u = applies g tid p.method p.below e s.tables in
    let given = applies_given g tid p.method p.below e s.tables in
    let said = subst (λ z. SaysMore s z) is more in
    subst (λ z. IsAnswered g tid s (fate_of g tid p.method p.below e s.tables) (turned_to tid s z)) (sym is)
    (record { said = said_replies s.tables.unsaid u.tables.unsaid said.new _ said.said given.said; roots = given.roots; frames = u.frames; left = given.left; stacks = refl })

picked_answered : (g : Setting) (tid : List ℕ) (o : Option Picked) (p : Picked) (s : Side) → o ≡ Some p → stands (applies_picked g tid o s) ≡ true → SaysMore s (applies_picked g tid o s)
    → IsAnswered g tid s (fate_of g tid p.method p.below (effect_at g tid p.method p.below s.tables) s.tables) (turned_to tid s (applies_picked g tid o s))
picked_answered g tid None p s is up more = absurd (cc)
picked_answered g tid (Some q) p s is up more =
    let same : q ≡ p = cc in
    subst (λ z. IsAnswered g tid s (fate_of g tid z.method z.below (effect_at g tid z.method z.below s.tables) s.tables) (turned_to tid s (applies_picked g tid (Some q) s))) same
    (effect_answered g tid q (effect_at g tid q.method q.below s.tables) s up more)

pub statement_answered : (g : Setting) (s : Side) (tid : List ℕ) (p : Picked) (u : Turn) → picked tid s ≡ Some p → step g s (applied tid) ≡ Some u → stands u.side ≡ true
    → IsAnswered g tid s (fate_of g tid p.method p.below (effect_at g tid p.method p.below s.tables) s.tables) u
unfolding does
statement_answered g s tid p u is to =
    of_step g s (applied tid) u (λ w. stands w.side ≡ true → IsAnswered g tid s (fate_of g tid p.method p.below (effect_at g tid p.method p.below s.tables) s.tables) w)
    (λ can up. picked_answered g tid (picked tid s) p s is up (says_picked g tid (picked tid s) s)) to
