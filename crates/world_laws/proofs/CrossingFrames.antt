-- What a statement does to the calls that went out and to the methods that serve the other end, among the frames of its thread.
use Rattle.std.proofs.Common.{◌≡◌, refl, sym, ap, ℕ, Bool, true, false, List, [], ◌∷◌, ◌++◌, Result, Ok, Err, if◌then◌else◌}
use Rattle.std.proofs.lemmas.List.{append-nil}
use Rattle.message_model.specs.Messages.{Answer, returned, raised}
use Rattle.uno_model.specs.Values.{Ref, null, own, peer, Plain, refs}
use Rattle.plan_model.specs.Asking.{Effect, lets, sets, sets_field, drops, skips, calls, queries, makes, disposes, creates, returns, raises}
use Rattle.plan_model.specs.Frames.{Variable, Body, Frame, base, body, outgoing}
use Rattle.plan_model.specs.Holdings.{goes_on}
use Rattle.plan_model.specs.Leaving.{leaving_frame}
use Rattle.plan_model.specs.Services.{Created, fresh, singleton, created}
use Rattle.plan_model.specs.declared.refusal.Refusal.{Refusal}
use Rattle.bridge_model.specs.Applying.{applies_call, applies_query, applies_creating, applies}
use Rattle.bridge_model.specs.Calls.{Unwound, calls_own, calls_peer}
use Rattle.bridge_model.specs.Handing.{goes_on_with, hands_over, hands, hands_down, ends_frame}
use Rattle.bridge_model.specs.Settings.{Setting}
use Rattle.bridge_model.specs.Sides.{Tables}
use Rattle.bridge_model.specs.Steps.{Picked}
use Rattle.world_laws.specs.Serving.{at_start}

-- ---- frames

-- each call that went out, with the frames below it, the top one first
unfoldable pub calls_in : List Frame → List (List Frame)
calls_in [] = []
calls_in (base n ∷ fs) = calls_in fs
calls_in (body b ∷ fs) = calls_in fs
calls_in (outgoing o ∷ fs) = (outgoing o ∷ fs) ∷ calls_in fs

-- each method that serves the other end, apart from how far it has come, with the frames below it
abbrev pub begun_at : Body → List Frame → Picked
begun_at b fs = record { method = at_start b; below = fs }

abbrev pub served_if : Bool → Picked → List Picked → List Picked
served_if true p ps = p ∷ ps
served_if false p ps = ps

unfoldable pub served_in : List Frame → List Picked
served_in [] = []
served_in (base n ∷ fs) = served_in fs
served_in (body b ∷ fs) = served_if b.from_peer (begun_at b fs) (served_in fs)
served_in (outgoing o ∷ fs) = served_in fs

-- of these calls and methods some at the top have ended
pub record Shrinks (ws : List (List Frame)) (ps : List Picked) (gs : List Frame) : Type 0 where
  pub answered : List (List Frame)
  pub ended : List Picked
  pub calls : ws ≡ answered ++ calls_in gs
  pub served : ps ≡ ended ++ served_in gs

-- frames of which some have ended, or on which calls went out
pub data Goes (fs gs : List Frame) : Type 0 where
  shrinks : Shrinks (calls_in fs) (served_in fs) gs → Goes fs gs
  grows : (new : List (List Frame)) → calls_in gs ≡ new ++ calls_in fs → served_in gs ≡ served_in fs → Goes fs gs

pub stays : (ws : List (List Frame)) (ps : List Picked) (gs : List Frame) → ws ≡ calls_in gs → ps ≡ served_in gs → Shrinks ws ps gs
stays ws ps gs same alike = record { answered = []; ended = []; calls = same; served = alike }

-- ---- handing

shrinks_if : (p : Bool) (b : Body) (fs : List Frame) (u x : Unwound) → u.frames ≡ fs → Shrinks (calls_in fs) (served_in fs) x.frames
    → Shrinks (calls_in fs) (served_if p (begun_at b fs) (served_in fs)) (if p then u else x).frames
shrinks_if true b fs u x is s =
    record { answered = []; ended = begun_at b fs ∷ []; calls = ap calls_in (sym is); served = ap (λ gs. begun_at b fs ∷ served_in gs) (sym is) }
shrinks_if false b fs u x is s = s

gone_on : (g : Setting) (b : Body) (x : Plain) (outs : List Plain) (fs : List Frame) (t : Tables) → Shrinks (calls_in (body b ∷ fs)) (served_in (body b ∷ fs)) (goes_on_with g b x outs fs t).frames
unfolding goes_on_with goes_on calls_in served_in
gone_on g b x outs fs t = stays _ _ _ refl refl

hands_shrink : (g : Setting) (tid : List ℕ) (a : Answer) (fs : List Frame) (t : Tables) → Shrinks (calls_in fs) (served_in fs) (hands g tid a fs t).frames
unfolding hands calls_in served_in
hands_shrink g tid a [] t = stays [] [] [] refl refl
hands_shrink g tid a (base root ∷ fs) t = record { answered = calls_in fs; ended = served_in fs; calls = sym (append-nil (calls_in fs)); served = sym (append-nil (served_in fs)) }
hands_shrink g tid a (outgoing o ∷ fs) t = stays _ _ _ refl refl
hands_shrink g tid (returned x outs) (body b ∷ fs) t = gone_on g b x outs fs t
hands_shrink g tid (raised k x) (body b ∷ fs) t =
    shrinks_if b.from_peer b fs _ _ refl (hands_shrink g tid (leaving_frame g.registry tid b (raised k x)) fs (hands_over g b (refs x) (leaving_frame g.registry tid b (raised k x)) fs t))

down_shrinks : (g : Setting) (tid : List ℕ) (b : Body) (a : Answer) (fs : List Frame) (t : Tables) → Shrinks (calls_in fs) (served_in fs) (hands_down g tid b a fs t).frames
down_shrinks g tid b (returned x outs) fs t = hands_shrink g tid (returned x outs) fs _
down_shrinks g tid b (raised k x) fs t = hands_shrink g tid (raised k x) fs _

ends_shrink : (g : Setting) (tid : List ℕ) (b : Body) (a : Answer) (fs : List Frame) (t : Tables) → Goes (body b ∷ fs) (ends_frame g tid b a fs t).frames
unfolding ends_frame calls_in served_in
ends_shrink g tid b a fs t = shrinks (shrinks_if b.from_peer b fs _ _ refl (down_shrinks g tid b a fs t))

-- ---- statements

pub goes_same : (fs : List Frame) → Goes fs fs
goes_same fs = shrinks (stays _ _ _ refl refl)

goes_further : (b : Body) (xs : List Variable) (fs : List Frame) → Goes (body b ∷ fs) (body (goes_on xs b) ∷ fs)
unfolding goes_on calls_in served_in
goes_further b xs fs = shrinks (stays _ _ _ refl refl)

own_called : (g : Setting) (oid face : List ℕ) (function : ℕ) (args : List Plain) (fs : List Frame) (t : Tables) → Goes fs (calls_own g oid face function args fs t).frames
unfolding calls_own calls_in served_in
own_called g oid face function args fs t = shrinks (stays _ _ _ refl refl)

peer_called : (g : Setting) (tid oid face : List ℕ) (function : ℕ) (args : List Plain) (fs : List Frame) (t : Tables) → Goes fs (calls_peer g tid oid face function args fs t).frames
unfolding calls_peer calls_in served_in
peer_called g tid oid face function args fs t = grows ((calls_peer g tid oid face function args fs t).frames ∷ []) refl refl

call_goes : (g : Setting) (tid : List ℕ) (r : Ref) (function : ℕ) (args : List Plain) (fs : List Frame) (t : Tables) → Goes fs (applies_call g tid r function args fs t).frames
call_goes g tid null function args fs t = goes_same fs
call_goes g tid (own oid face) function args fs t = own_called g oid face function args fs t
call_goes g tid (peer oid face) function args fs t = peer_called g tid oid face function args fs t

query_goes : (g : Setting) (tid : List ℕ) (r : Ref) (wanted : List ℕ) (fs : List Frame) (t : Tables) → Goes fs (applies_query g tid r wanted fs t).frames
query_goes g tid null wanted fs t = goes_same fs
query_goes g tid (own oid face) wanted fs t = shrinks (hands_shrink g tid _ fs _)
query_goes g tid (peer oid face) wanted fs t = peer_called g tid oid face 0 _ fs t

creating_goes : (g : Setting) (tid : List ℕ) (b : Body) (name : List ℕ) (r : Result Created Refusal) (fs : List Frame) (t : Tables) → Goes (body b ∷ fs) (applies_creating g tid b name r fs t).frames
unfolding applies_creating
creating_goes g tid b name (Ok (fresh behaviour fields)) fs t = ends_shrink g tid b _ fs _
creating_goes g tid b name (Ok (singleton place)) fs t = ends_shrink g tid b _ fs t
creating_goes g tid b name (Err why) fs t = ends_shrink g tid b _ fs t

pub applies_go : (g : Setting) (tid : List ℕ) (b : Body) (fs : List Frame) (e : Effect) (t : Tables) → Goes (body b ∷ fs) (applies g tid b fs e t).frames
unfolding applies
applies_go g tid b fs (lets x) t = goes_further b _ fs
applies_go g tid b fs (sets x) t = goes_further b _ fs
applies_go g tid b fs (sets_field x) t = goes_further b _ fs
applies_go g tid b fs (drops name) t = goes_further b _ fs
applies_go g tid b fs skips t = goes_further b _ fs
applies_go g tid b fs (calls target function args to) t = call_goes g tid target function args (body b ∷ fs) t
applies_go g tid b fs (queries target wanted to) t = query_goes g tid target wanted (body b ∷ fs) t
applies_go g tid b fs (makes behaviour face to) t = goes_further b _ fs
applies_go g tid b fs disposes t = goes_same (body b ∷ fs)
applies_go g tid b fs (creates name args) t = creating_goes g tid b name (created g.plan g.registry name args) fs t
applies_go g tid b fs (returns x outs) t = ends_shrink g tid b (returned x outs) fs t
applies_go g tid b fs (raises k x) t = ends_shrink g tid b (raised k x) fs t
