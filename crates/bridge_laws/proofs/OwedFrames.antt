-- The frame on a root is that of the call which the root began last, whatever its thread does.
use Rattle.std.proofs.Common.{◌≡◌, ℕ, Bool, true, false, if◌then◌else◌, List, [], ◌∷◌, Option, None, Some, Result, Ok, Err}
use Rattle.message_model.specs.Messages.{Answer, returned, raised}
use Rattle.uno_model.specs.Values.{Ref, null, own, peer, Plain}
use Rattle.plan_model.specs.Asking.{Effect, lets, sets, sets_field, drops, skips, calls, queries, makes, disposes, creates, returns, raises}
use Rattle.plan_model.specs.Frames.{Body, Frame, base, body, outgoing}
use Rattle.plan_model.specs.Holdings.{goes_on}
use Rattle.plan_model.specs.Leaving.{leaving_frame}
use Rattle.plan_model.specs.Services.{Created, fresh, singleton, created}
use Rattle.plan_model.specs.declared.refusal.Refusal.{Refusal}
use Rattle.bridge_model.specs.Applying.{applies_call, applies_query, applies_creating, applies}
use Rattle.bridge_model.specs.Calls.{Unwound, unwound, calls_own, calls_peer, serves}
use Rattle.bridge_model.specs.Handing.{goes_on_with, hands, hands_down, ends_frame, hands_from_peer}
use Rattle.bridge_model.specs.Settings.{Setting}
use Rattle.bridge_model.specs.Sides.{Tables}
use Rattle.bridge_laws.specs.RootAnswers.{Asking, for_reference, for_answer}

-- a call of this interface and function is the one with which a root asked; a query is one of function 0
abbrev pub Begins : Option Asking → (face : List ℕ) → ℕ → Type 0
Begins None face function = ⊥
Begins (Some (for_reference wanted)) face function = function ≡ 0
Begins (Some (for_answer at number)) face function = (face ≡ at) × (function ≡ number)

-- a frame with a call stands on a root, which it answers; or on another frame, or on none
abbrev pub OnRoot : Option Asking → (face : List ℕ) → ℕ → List Frame → Type 0
OnRoot q face function [] = Unit
OnRoot q face function (base root ∷ fs) = Begins q face function
OnRoot q face function (body b ∷ fs) = Unit
OnRoot q face function (outgoing o ∷ fs) = Unit

abbrev pub Reaches : Option Asking → List Frame → Type 0
Reaches q [] = Unit
Reaches q (base root ∷ fs) = Unit
Reaches q (body b ∷ fs) = OnRoot q b.face b.function fs × Reaches q fs
Reaches q (outgoing o ∷ fs) = OnRoot q o.face o.function fs × Reaches q fs

reaches_if : (q : Option Asking) (c : Bool) (u x : Unwound) → Reaches q u.frames → Reaches q x.frames → Reaches q (if c then u else x).frames
reaches_if q true u x p r = p
reaches_if q false u x p r = r

module _ (q : Option Asking) (g : Setting) (tid : List ℕ) where
  -- ---- answers

  pub hands_reaches : (a : Answer) (fs : List Frame) (t : Tables) → Reaches q fs → Reaches q (hands g tid a fs t).frames
  unfolding hands goes_on_with goes_on
  hands_reaches a [] t r = tt
  hands_reaches a (base root ∷ fs) t r = tt
  hands_reaches a (outgoing o ∷ fs) t r = r
  hands_reaches (returned x outs) (body b ∷ fs) t r = r
  hands_reaches (raised k x) (body b ∷ fs) t r =
      reaches_if q b.from_peer (unwound fs _) (hands g tid (leaving_frame g.registry tid b (raised k x)) fs _) r.1 (hands_reaches (leaving_frame g.registry tid b (raised k x)) fs _ r.1)

  down_reaches : (b : Body) (a : Answer) (fs : List Frame) (t : Tables) → Reaches q fs → Reaches q (hands_down g tid b a fs t).frames
  down_reaches b (returned x outs) fs t r = hands_reaches (returned x outs) fs _ r
  down_reaches b (raised k x) fs t r = hands_reaches (raised k x) fs _ r

  ends_reaches : (b : Body) (a : Answer) (fs : List Frame) (t : Tables) → Reaches q fs → Reaches q (ends_frame g tid b a fs t).frames
  unfolding ends_frame
  ends_reaches b a fs t r = reaches_if q b.from_peer (unwound fs _) (hands_down g tid b a fs t) r (down_reaches b a fs t r)

  pub from_peer_reaches : (a : Answer) (fs : List Frame) (t : Tables) → Reaches q fs → Reaches q (hands_from_peer g tid a fs t).frames
  unfolding hands_from_peer
  from_peer_reaches a fs t r = hands_reaches a fs _ r

  -- ---- statements

  call_reaches : (x : Ref) (function : ℕ) (args : List Plain) (b : Body) (fs : List Frame) (t : Tables) → Reaches q (body b ∷ fs) → Reaches q (applies_call g tid x function args (body b ∷ fs) t).frames
  unfolding calls_own calls_peer
  call_reaches null function args b fs t r = r
  call_reaches (own oid face) function args b fs t r = (tt, r)
  call_reaches (peer oid face) function args b fs t r = (tt, r)

  query_reaches : (x : Ref) (wanted : List ℕ) (b : Body) (fs : List Frame) (t : Tables) → Reaches q (body b ∷ fs) → Reaches q (applies_query g tid x wanted (body b ∷ fs) t).frames
  unfolding calls_peer
  query_reaches null wanted b fs t r = r
  query_reaches (own oid face) wanted b fs t r = hands_reaches _ (body b ∷ fs) _ r
  query_reaches (peer oid face) wanted b fs t r = (tt, r)

  creating_reaches : (b : Body) (name : List ℕ) (c : Result Created Refusal) (fs : List Frame) (t : Tables) → Reaches q fs → Reaches q (applies_creating g tid b name c fs t).frames
  unfolding applies_creating
  creating_reaches b name (Ok (fresh behaviour fields)) fs t r = ends_reaches b _ fs _ r
  creating_reaches b name (Ok (singleton place)) fs t r = ends_reaches b _ fs _ r
  creating_reaches b name (Err why) fs t r = ends_reaches b _ fs _ r

  pub applies_reaches : (b : Body) (e : Effect) (fs : List Frame) (t : Tables) → Reaches q (body b ∷ fs) → Reaches q (applies g tid b fs e t).frames
  unfolding applies goes_on
  applies_reaches b (lets x) fs t r = r
  applies_reaches b (sets x) fs t r = r
  applies_reaches b (sets_field x) fs t r = r
  applies_reaches b (drops name) fs t r = r
  applies_reaches b skips fs t r = r
  applies_reaches b (calls target function args to) fs t r = call_reaches target function args b fs t r
  applies_reaches b (queries target wanted to) fs t r = query_reaches target wanted b fs t r
  applies_reaches b (makes behaviour face to) fs t r = r
  applies_reaches b disposes fs t r = r
  applies_reaches b (creates name args) fs t r = creating_reaches b name (created g.plan g.registry name args) fs t r.1
  applies_reaches b (returns x outs) fs t r = ends_reaches b (returned x outs) fs t r.1
  applies_reaches b (raises k x) fs t r = ends_reaches b (raised k x) fs t r.1

  -- ---- calls of the peer's

  -- on a call that went out, or on nothing
  abbrev pub IsFree : List Frame → Type 0
  IsFree [] = Unit
  IsFree (base root ∷ fs) = ⊥
  IsFree (body b ∷ fs) = Unit
  IsFree (outgoing o ∷ fs) = Unit

  on_none : (face : List ℕ) (function : ℕ) (fs : List Frame) → IsFree fs → OnRoot q face function fs
  on_none face function [] free = tt
  on_none face function (base root ∷ fs) free = absurd free
  on_none face function (body b ∷ fs) free = tt
  on_none face function (outgoing o ∷ fs) free = tt

  pub serves_reaches : (oid face : List ℕ) (function : ℕ) (args : List Plain) (fs : List Frame) (t : Tables) → IsFree fs → Reaches q fs → Reaches q (serves g oid face function args fs t).frames
  unfolding serves
  serves_reaches oid face function args fs t free r = (on_none face function fs free, r)
