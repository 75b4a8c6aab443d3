-- A call that went out stands on a frame that holds: a root or a method, which takes what the peer answers.
use Rattle.std.proofs.Common.{◌≡◌, refl, sym, ap, ◌∙◌, ℕ, suc, Bool, true, false, ◌&&◌, if◌then◌else◌, List, [], ◌∷◌, Some, Result, Ok, Err}
use Rattle.std.proofs.lemmas.Bool.{and_parts, and_from}
use Rattle.std.specs.List.{list_all}
use Rattle.message_model.specs.Messages.{Answer, returned, raised}
use Rattle.uno_model.specs.BuiltIn.{exception_name, x_interface_name}
use Rattle.uno_model.specs.Kinds as kd
use Rattle.uno_model.specs.Values.{Ref, null, own, peer, Plain, refs}
use Rattle.uno_model.specs.Values as v
use Rattle.table_model.specs.declared.holder.Holder.{Holder}
use Rattle.table_model.specs.declared.holder.Holder.TheVariants as holder
use Rattle.plan_model.specs.Asking.{Effect, lets, sets, sets_field, drops, skips, calls, queries, makes, disposes, creates, returns, raises}
use Rattle.plan_model.specs.Frames.{Body, Frame, base, body, outgoing, Stack, is_of, frames_of}
use Rattle.plan_model.specs.Leaving.{leaving_frame}
use Rattle.plan_model.specs.Plans.{singleton_object}
use Rattle.plan_model.specs.Services.{Created, fresh, singleton, created, refusal_exception}
use Rattle.plan_model.specs.declared.refusal.Refusal.{Refusal}
use Rattle.bridge_model.specs.Applying.{applies_call, applies_query, applies_creating, applies}
use Rattle.bridge_model.specs.Calls.{Unwound, unwound, calls_own, serves, calls_peer, query_args}
use Rattle.bridge_model.specs.Handing.{goes_on_with, answers_peer, holder_of, gains_below, takes_below, hands_over, hands, hands_down, ends_frame, hands_from_peer}
use Rattle.bridge_model.specs.Objects.{makes_object, object_answer}
use Rattle.bridge_model.specs.Settings.{Setting, own_oid}
use Rattle.bridge_model.specs.Sides.{Tables}
use Rattle.bridge_model.specs.Stacks.{stack_with, puts_frames}
use Rattle.bridge_laws.proofs.AwaitedLaws.{Calls}

-- ---- words

-- whether the top one of these frames holds for itself
abbrev pub is_seat : List Frame → Bool
is_seat [] = false
is_seat (outgoing o ∷ fs) = false
is_seat (f ∷ fs) = true

abbrev pub sits_on : Frame → List Frame → Bool
sits_on (outgoing o) fs = is_seat fs
sits_on f fs = true

unfoldable pub is_seated : List Frame → Bool
is_seated [] = true
is_seated (f ∷ fs) = sits_on f fs && is_seated fs

unfoldable pub are_seated : List Stack → Bool
are_seated ss = list_all (λ s. is_seated s.frames) ss

-- a frame that holds for itself, and who that is
pub record Seat (fs : List Frame) : Type 0 where
  pub top : Frame
  pub rest : List Frame
  pub all : fs ≡ top ∷ rest
  pub who : Holder
  pub holds : holder_of top ≡ Some who

seat_of : (fs : List Frame) → is_seat fs ≡ true → Seat fs
seat_of [] is = absurd (cc)
seat_of (base root ∷ fs) is = record { top = base root; rest = fs; all = refl; who = holder.Root root; holds = refl }
seat_of (body b ∷ fs) is = record { top = body b; rest = fs; all = refl; who = holder.Frame b.number; holds = refl }
seat_of (outgoing o ∷ fs) is = absurd (cc)

seated_parts : (f : Frame) (fs : List Frame) → is_seated (f ∷ fs) ≡ true → (sits_on f fs ≡ true) × (is_seated fs ≡ true)
unfolding is_seated
seated_parts f fs is = and_parts (sits_on f fs) (is_seated fs) is

seated_from : (f : Frame) (fs : List Frame) → sits_on f fs ≡ true → is_seated fs ≡ true → is_seated (f ∷ fs) ≡ true
unfolding is_seated
seated_from f fs sits is = and_from (sits_on f fs) (is_seated fs) sits is

none_seated : is_seated [] ≡ true
unfolding is_seated
none_seated = refl

seated_if : (b : Bool) (u w : Unwound) → is_seated u.frames ≡ true → is_seated w.frames ≡ true → is_seated (if b then u else w).frames ≡ true
seated_if true u w p q = p
seated_if false u w p q = q

-- ---- answers

goes_on_seated : (g : Setting) (b : Body) (x : Plain) (outs : List Plain) (fs : List Frame) (t : Tables) → is_seated (body b ∷ fs) ≡ true → is_seated (goes_on_with g b x outs fs t).frames ≡ true
unfolding goes_on_with
goes_on_seated g b x outs fs t is = seated_from (body _) fs refl (seated_parts (body b) fs is).1

pub hands_seated : (g : Setting) (tid : List ℕ) (a : Answer) (fs : List Frame) (t : Tables) → is_seated fs ≡ true → is_seated (hands g tid a fs t).frames ≡ true
unfolding hands
hands_seated g tid a [] t is = none_seated
hands_seated g tid a (base root ∷ fs) t is = none_seated
hands_seated g tid a (outgoing o ∷ fs) t is = is
hands_seated g tid (returned x outs) (body b ∷ fs) t is = goes_on_seated g b x outs fs t is
hands_seated g tid (raised k x) (body b ∷ fs) t is =
    seated_if b.from_peer
    (unwound fs (answers_peer g tid b (refs x) (leaving_frame g.registry tid b (raised k x)) t))
    (hands g tid (leaving_frame g.registry tid b (raised k x)) fs (hands_over g b (refs x) (leaving_frame g.registry tid b (raised k x)) fs t))
    (seated_parts (body b) fs is).1
    (hands_seated g tid (leaving_frame g.registry tid b (raised k x)) fs (hands_over g b (refs x) (leaving_frame g.registry tid b (raised k x)) fs t) (seated_parts (body b) fs is).1)

hands_down_seated : (g : Setting) (tid : List ℕ) (b : Body) (a : Answer) (fs : List Frame) (t : Tables) → is_seated fs ≡ true → is_seated (hands_down g tid b a fs t).frames ≡ true
hands_down_seated g tid b (returned x outs) fs t is = hands_seated g tid (returned x outs) fs (gains_below fs (returned x outs) t) is
hands_down_seated g tid b (raised k x) fs t is = hands_seated g tid (raised k x) fs (hands_over g b [] (raised k x) fs t) is

ends_frame_seated : (g : Setting) (tid : List ℕ) (b : Body) (a : Answer) (fs : List Frame) (t : Tables) → is_seated fs ≡ true → is_seated (ends_frame g tid b a fs t).frames ≡ true
unfolding ends_frame
ends_frame_seated g tid b a fs t is = seated_if b.from_peer (unwound fs (answers_peer g tid b [] a t)) (hands_down g tid b a fs t) is (hands_down_seated g tid b a fs t is)

pub from_peer_seated : (g : Setting) (tid : List ℕ) (a : Answer) (fs : List Frame) (t : Tables) → is_seated fs ≡ true → is_seated (hands_from_peer g tid a fs t).frames ≡ true
unfolding hands_from_peer
from_peer_seated g tid a fs t is = hands_seated g tid a fs (takes_below g fs a t) is

-- ---- frames that begin

pub calls_own_seated : (g : Setting) (oid face : List ℕ) (function : ℕ) (args : List Plain) (fs : List Frame) (t : Tables) → is_seated fs ≡ true
    → is_seated (calls_own g oid face function args fs t).frames ≡ true
unfolding calls_own
calls_own_seated g oid face function args fs t is = seated_from (body _) fs refl is

pub serves_seated : (g : Setting) (oid face : List ℕ) (function : ℕ) (args : List Plain) (fs : List Frame) (t : Tables) → is_seated fs ≡ true
    → is_seated (serves g oid face function args fs t).frames ≡ true
unfolding serves
serves_seated g oid face function args fs t is = seated_from (body _) fs refl is

pub calls_peer_seated : (g : Setting) (tid oid face : List ℕ) (function : ℕ) (args : List Plain) (fs : List Frame) (t : Tables) → is_seat fs ≡ true → is_seated fs ≡ true
    → is_seated (calls_peer g tid oid face function args fs t).frames ≡ true
unfolding calls_peer
calls_peer_seated g tid oid face function args fs t seat is = seated_from (outgoing _) fs seat is

-- ---- effects

applies_call_seated : (g : Setting) (tid : List ℕ) (r : Ref) (function : ℕ) (args : List Plain) (fs : List Frame) (t : Tables) → is_seat fs ≡ true → is_seated fs ≡ true
    → is_seated (applies_call g tid r function args fs t).frames ≡ true
applies_call_seated g tid null function args fs t seat is = is
applies_call_seated g tid (own oid face) function args fs t seat is = calls_own_seated g oid face function args fs t is
applies_call_seated g tid (peer oid face) function args fs t seat is = calls_peer_seated g tid oid face function args fs t seat is

applies_query_seated : (g : Setting) (tid : List ℕ) (r : Ref) (wanted : List ℕ) (fs : List Frame) (t : Tables) → is_seat fs ≡ true → is_seated fs ≡ true
    → is_seated (applies_query g tid r wanted fs t).frames ≡ true
applies_query_seated g tid null wanted fs t seat is = is
applies_query_seated g tid (own oid face) wanted fs t seat is = hands_seated g tid (returned (object_answer g oid (kd.interface wanted) t.objects) []) fs _ is
applies_query_seated g tid (peer oid face) wanted fs t seat is = calls_peer_seated g tid oid face 0 (query_args wanted) fs t seat is

creating_seated : (g : Setting) (tid : List ℕ) (b : Body) (name : List ℕ) (made : Result Created Refusal) (fs : List Frame) (t : Tables) → is_seated fs ≡ true
    → is_seated (applies_creating g tid b name made fs t).frames ≡ true
unfolding applies_creating
creating_seated g tid b name (Ok (fresh behaviour fields)) fs t is =
    ends_frame_seated g tid b (returned (v.ref (own (own_oid g (suc t.objects_made)) x_interface_name)) []) fs (makes_object behaviour fields t) is
creating_seated g tid b name (Ok (singleton place)) fs t is = ends_frame_seated g tid b (returned (v.ref (own (own_oid g (singleton_object g.plan place)) x_interface_name)) []) fs t is
creating_seated g tid b name (Err why) fs t is =
    ends_frame_seated g tid b (leaving_frame g.registry tid b (raised (kd.exception exception_name) (refusal_exception why name))) fs t is

pub applies_seated : (g : Setting) (tid : List ℕ) (b : Body) (fs : List Frame) (e : Effect) (t : Tables) → is_seated (body b ∷ fs) ≡ true → is_seated (applies g tid b fs e t).frames ≡ true
unfolding applies
applies_seated g tid b fs (calls target function args to) t is = applies_call_seated g tid target function args (body b ∷ fs) t refl is
applies_seated g tid b fs (queries target wanted to) t is = applies_query_seated g tid target wanted (body b ∷ fs) t refl is
applies_seated g tid b fs (creates name args) t is = creating_seated g tid b name (created g.plan g.registry name args) fs t (seated_parts (body b) fs is).1
applies_seated g tid b fs (returns x outs) t is = ends_frame_seated g tid b (returned x outs) fs t (seated_parts (body b) fs is).1
applies_seated g tid b fs (raises k x) t is = ends_frame_seated g tid b (raised k x) fs t (seated_parts (body b) fs is).1
applies_seated g tid b fs disposes t is = is
applies_seated g tid b fs (lets x) t is = seated_from (body _) fs refl (seated_parts (body b) fs is).1
applies_seated g tid b fs (sets x) t is = seated_from (body _) fs refl (seated_parts (body b) fs is).1
applies_seated g tid b fs (sets_field x) t is = seated_from (body _) fs refl (seated_parts (body b) fs is).1
applies_seated g tid b fs (drops name) t is = seated_from (body _) fs refl (seated_parts (body b) fs is).1
applies_seated g tid b fs skips t is = seated_from (body _) fs refl (seated_parts (body b) fs is).1
applies_seated g tid b fs (makes behaviour face to) t is = seated_from (body _) fs refl (seated_parts (body b) fs is).1

-- ---- stacks

with_seated : (tid : List ℕ) (fs : List Frame) (ss : List Stack) → is_seated fs ≡ true → are_seated ss ≡ true → are_seated (stack_with tid fs ss) ≡ true
unfolding are_seated
with_seated tid [] ss is all = all
with_seated tid (f ∷ fs) ss is all = and_from (is_seated (f ∷ fs)) (list_all (λ s. is_seated s.frames) ss) is all

put_step : (b : Bool) (tid : List ℕ) (fs : List Frame) (s : Stack) (new ss : List Stack) → is_seated fs ≡ true → is_seated s.frames ≡ true → are_seated ss ≡ true → are_seated new ≡ true
    → are_seated (if b then stack_with tid fs ss else s ∷ new) ≡ true
unfolding are_seated
put_step true tid fs s new ss is here all rest = with_seated tid fs ss is all
put_step false tid fs s new ss is here all rest = and_from (is_seated s.frames) (list_all (λ s. is_seated s.frames) new) here rest

pub puts_seated : (tid : List ℕ) (fs : List Frame) (ss : List Stack) → is_seated fs ≡ true → are_seated ss ≡ true → are_seated (puts_frames tid fs ss) ≡ true
unfolding puts_frames are_seated
puts_seated tid fs [] is all = with_seated tid fs [] is all
puts_seated tid fs (s ∷ ss) is all =
    let parts = and_parts (is_seated s.frames) (list_all (λ s. is_seated s.frames) ss) all in
    put_step (is_of tid s) tid fs s (puts_frames tid fs ss) ss is parts.0 parts.1 (puts_seated tid fs ss is parts.1)

frames_step : (b : Bool) (s : Stack) (fs : List Frame) → is_seated s.frames ≡ true → is_seated fs ≡ true → is_seated (if b then s.frames else fs) ≡ true
frames_step true s fs p q = p
frames_step false s fs p q = q

pub frames_seated : (tid : List ℕ) (ss : List Stack) → are_seated ss ≡ true → is_seated (frames_of tid ss) ≡ true
unfolding frames_of are_seated
frames_seated tid [] all = none_seated
frames_seated tid (s ∷ ss) all =
    let parts = and_parts (is_seated s.frames) (list_all (λ s. is_seated s.frames) ss) all in
    frames_step (is_of tid s) s (frames_of tid ss) parts.0 (frames_seated tid ss parts.1)

-- ---- below a call that went out

pub below_seat : (fs : List Frame) → is_seated fs ≡ true → (went : Calls fs) → Seat went.below
below_seat fs is went = seat_of went.below (seated_parts (outgoing went.call) went.below (ap is_seated (sym went.all) ∙ is)).0

pub below_seated : (fs : List Frame) → is_seated fs ≡ true → (went : Calls fs) → is_seated went.below ≡ true
below_seated fs is went = (seated_parts (outgoing went.call) went.below (ap is_seated (sym went.all) ∙ is)).1
