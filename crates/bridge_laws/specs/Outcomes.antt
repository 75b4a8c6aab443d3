-- What a call ends with, in the words of frames: what ends a frame, where that goes, and what is said and kept of it.
use Rattle.std.specs.Prelude.{◌≡◌, ℕ, suc, Bool, true, false, ◌==◌, List, [], ◌∷◌, ◌++◌, Option, None, Some, Result, Ok, Err, if◌then◌else◌}
use Rattle.message_model.specs.Messages.{Message, Answer, returned, raised, request, release, reply}
use Rattle.uno_model.specs.BuiltIn.{exception_name, x_interface_name}
use Rattle.uno_model.specs.Entities.{Entity}
use Rattle.uno_model.specs.Kinds as kd
use Rattle.uno_model.specs.Values.{Ref, null, own, peer, Plain}
use Rattle.uno_model.specs.Values as v
use Rattle.plan_model.specs.Asking.{Effect, lets, sets, sets_field, drops, skips, calls, queries, makes, disposes, creates, returns, raises}
use Rattle.plan_model.specs.Frames.{Body, Frame, base, body, outgoing, Stack, frames_of}
use Rattle.plan_model.specs.Holdings.{reference_of, goes_on}
use Rattle.plan_model.specs.Leaving.{leaving_frame}
use Rattle.plan_model.specs.Plans.{singleton_object}
use Rattle.plan_model.specs.Services.{Created, fresh, singleton, created, refusal_exception}
use Rattle.plan_model.specs.declared.refusal.Refusal.{Refusal}
use Rattle.bridge_model.specs.Entries.{Entry, fed, applied}
use Rattle.bridge_model.specs.Handing.{statement_at, taken_by}
use Rattle.bridge_model.specs.Objects.{object_answer}
use Rattle.bridge_model.specs.Receiving.{asked_kind, answer_to, below_top}
use Rattle.bridge_model.specs.References.{home_answer}
use Rattle.bridge_model.specs.Settings.{Setting, own_oid}
use Rattle.bridge_model.specs.Sides.{Object, answer, RootState, waits_query, answered, Tables, Side, state_of, states_with}
use Rattle.bridge_model.specs.Stacks.{puts_frames}
use Rattle.bridge_model.specs.Steps.{Picked, Turn}

-- ---- where an answer goes

-- nobody is answered; the root that began the thread is; a method goes on with a result; or a method that the peer called has ended, and the peer is answered. With
-- a method stand the frames below it
pub data Fate : Type 0 where
  nothing : Fate
  for_root : (root : ℕ) → Answer → Fate
  for_method : (method : Body) → (below : List Frame) → (result : Plain) → (outs : List Plain) → Fate
  for_peer : (method : Body) → (below : List Frame) → Answer → Fate

-- to the top one of these frames: a method goes on with a result, and ends with an exception, as its function may raise it and its reply carry it
unfoldable pub handed_down : List Entity → (tid : List ℕ) → Answer → List Frame → Fate
handed_down reg tid a [] = nothing
handed_down reg tid a (base root ∷ fs) = for_root root a
handed_down reg tid a (outgoing o ∷ fs) = nothing
handed_down reg tid (returned x outs) (body b ∷ fs) = for_method b fs x outs
handed_down reg tid (raised k x) (body b ∷ fs) =
    if b.from_peer then for_peer b fs (leaving_frame reg tid b (raised k x)) else handed_down reg tid (leaving_frame reg tid b (raised k x)) fs

-- a method ends with an answer: the peer's call is answered with it, or it goes to the frame below
abbrev pub frame_ended : List Entity → (tid : List ℕ) → Body → Answer → List Frame → Fate
frame_ended reg tid b a fs = if b.from_peer then for_peer b fs a else handed_down reg tid a fs

-- what the service manager answers
unfoldable pub creation : Setting → (tid : List ℕ) → Body → (name : List ℕ) → Result Created Refusal → Tables → Answer
creation g tid b name (Ok (fresh behaviour fields)) t = returned (v.ref (own (own_oid g (suc t.objects_made)) x_interface_name)) []
creation g tid b name (Ok (singleton place)) t = returned (v.ref (own (own_oid g (singleton_object g.plan place)) x_interface_name)) []
creation g tid b name (Err why) t = leaving_frame g.registry tid b (raised (kd.exception exception_name) (refusal_exception why name))

-- a query of an own object is answered in the same event
abbrev pub query_fate : Setting → (tid : List ℕ) → Ref → (wanted : List ℕ) → Body → List Frame → Tables → Fate
query_fate g tid null wanted b fs t = nothing
query_fate g tid (own oid face) wanted b fs t = handed_down g.registry tid (returned (object_answer g oid (kd.interface wanted) t.objects) []) (body b ∷ fs)
query_fate g tid (peer oid face) wanted b fs t = nothing

-- what a statement of a method, with these frames below it, answers
unfoldable pub fate_of : Setting → (tid : List ℕ) → Body → List Frame → Effect → Tables → Fate
fate_of g tid b fs (lets x) t = nothing
fate_of g tid b fs (sets x) t = nothing
fate_of g tid b fs (sets_field x) t = nothing
fate_of g tid b fs (drops name) t = nothing
fate_of g tid b fs skips t = nothing
fate_of g tid b fs (calls target function args to) t = nothing
fate_of g tid b fs (queries target wanted to) t = query_fate g tid target wanted b fs t
fate_of g tid b fs (makes behaviour face to) t = nothing
fate_of g tid b fs disposes t = nothing
fate_of g tid b fs (creates name args) t = frame_ended g.registry tid b (creation g tid b name (created g.plan g.registry name args) t) fs
fate_of g tid b fs (returns x outs) t = frame_ended g.registry tid b (returned x outs) fs
fate_of g tid b fs (raises k x) t = frame_ended g.registry tid b (raised k x) fs

-- a message that comes answers a call that went out, if it is a reply
unfoldable pub fate_of_message : Setting → List Stack → Message → Fate
fate_of_message g ss (release tid oid face) = nothing
fate_of_message g ss (request tid oid face function args) = nothing
fate_of_message g ss (reply tid face function a) = handed_down g.registry tid (home_answer g a) (below_top (frames_of tid ss))

-- ---- what is said

abbrev pub reply_in : Message → List Message
reply_in (request tid oid face function args) = []
reply_in (release tid oid face) = []
reply_in (reply tid face function a) = reply tid face function a ∷ []

-- the replies among messages
unfoldable pub replies : List Message → List Message
replies [] = []
replies (m ∷ ms) = reply_in m ++ replies ms

-- the one that a fate says
abbrev pub replies_by : (tid : List ℕ) → Fate → List Message
replies_by tid nothing = []
replies_by tid (for_root root a) = []
replies_by tid (for_method b below x outs) = []
replies_by tid (for_peer b below a) = reply tid b.face b.function a ∷ []

-- function 0 is answered at once
abbrev pub at_once : Setting → Tables → (tid oid face : List ℕ) → ℕ → List Plain → List Message
at_once g t tid oid face function args =
    if function == 0 then reply tid face 0 (returned (answer_to g oid (asked_kind args) t.objects) []) ∷ [] else []

unfoldable pub replies_of_message : Setting → Tables → List Stack → Message → List Message
replies_of_message g t ss (release tid oid face) = []
replies_of_message g t ss (request tid oid face function args) = at_once g t tid oid face function args
replies_of_message g t ss (reply tid face function a) = replies_by tid (handed_down g.registry tid (home_answer g a) (below_top (frames_of tid ss)))

-- ---- what is kept

-- a root that waits for a query's answer gets the reference in it
abbrev pub root_outcome : Setting → RootState → Answer → Answer
root_outcome g (waits_query wanted) (returned x outs) = returned (v.ref (reference_of g.registry wanted x)) []
root_outcome g s a = a

-- one root is answered, or none
abbrev pub roots_by : Setting → Fate → List RootState → List RootState
roots_by g nothing states = states
roots_by g (for_root root a) states = states_with root (answered (answer (root_outcome g (state_of root states) a))) states
roots_by g (for_method b below x outs) states = states
roots_by g (for_peer b below a) states = states

-- the frames that are left, with these objects there: none under a root; a method that goes on has taken the result, as the statement at which it waits says; under one that
-- the peer called those below it
abbrev pub FramesBy : Setting → List Object → Fate → List Frame → Type 0
FramesBy g os nothing fs = Unit
FramesBy g os (for_root root a) fs = fs ≡ []
FramesBy g os (for_method b below x outs) fs = fs ≡ body (goes_on (taken_by g (statement_at g os b) x outs b.variables).variables b) ∷ below
FramesBy g os (for_peer b below a) fs = fs ≡ below

-- the innermost method of a thread that the peer called, and the frames below it
unfoldable pub serving_in : List Frame → Option Picked
serving_in [] = None
serving_in (base root ∷ fs) = serving_in fs
serving_in (outgoing o ∷ fs) = serving_in fs
serving_in (body b ∷ fs) = if b.from_peer then Some (record { method = b; below = fs }) else serving_in fs

-- ---- a turn

-- on one thread what a fate says is said, and no other reply; what it keeps of roots and frames is kept
pub record IsAnswered (g : Setting) (tid : List ℕ) (s : Side) (h : Fate) (u : Turn) : Type 0 where
  pub said : replies u.said ≡ replies_by tid h
  pub roots : u.side.tables.roots ≡ roots_by g h s.tables.roots
  pub frames : List Frame
  pub left : FramesBy g u.side.tables.objects h frames
  pub stacks : u.side.stacks ≡ puts_frames tid frames s.stacks

-- the root under methods that were called from here
unfoldable pub root_under : List Frame → Option ℕ
root_under [] = None
root_under (base root ∷ fs) = Some root
root_under (outgoing o ∷ fs) = None
root_under (body b ∷ fs) = if b.from_peer then None else root_under fs

-- replies are said by statements, and for messages that come
abbrev pub may_reply : Entry → Bool
may_reply (fed b) = true
may_reply (applied tid) = true
may_reply e = false
