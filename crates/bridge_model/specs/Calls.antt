-- Frames that begin: a method of an own object, and a call that goes out.
use Rattle.std.specs.Prelude.{ℕ, suc, Bool, true, false, List, [], ◌∷◌, Option, None, Some}
use Rattle.message_model.specs.Calls.{numbered}
use Rattle.message_model.specs.Messages.{request}
use Rattle.uno_model.specs.Entities.{Param}
use Rattle.uno_model.specs.Functions.{Function}
use Rattle.uno_model.specs.Kinds as kd
use Rattle.uno_model.specs.Values.{own, Plain}
use Rattle.uno_model.specs.Values as v
use Rattle.table_model.specs.declared.holder.Holder.TheVariants as holder
use Rattle.plan_model.specs.Frames.{Body, Frame, body, outgoing}
use Rattle.plan_model.specs.Holdings.{first_variables}
use Rattle.bridge_model.specs.Objects.{object_named, number_of}
use Rattle.bridge_model.specs.References.{says, gains, gains_all, takes_all, refs_of_values}
use Rattle.bridge_model.specs.Settings.{Setting, own_oid}
use Rattle.bridge_model.specs.Sides.{Tables}

-- the frames of a thread, the top one first, and the tables behind what was done
pub record Unwound : Type 0 where
  pub frames : List Frame
  pub tables : Tables

abbrev pub unwound : List Frame → Tables → Unwound
unwound fs t = record { frames = fs; tables = t }

abbrev pub params_of : Option Function → List Param
params_of None = []
params_of (Some f) = f.params

-- the number of a frame is how many began before it
abbrev pub counts_frame : Tables → Tables
counts_frame t = record t { frames_made = suc t.frames_made }

-- a method at its first statement
abbrev pub first_body : Setting → Bool → (oid face : List ℕ) → ℕ → List Plain → Tables → Body
first_body g from_peer oid face function args t =
    record {
      number = t.frames_made;
      object = number_of (object_named g oid t.objects);
      face = face;
      function = function;
      from_peer = from_peer;
      variables = first_variables g.registry (params_of (numbered g.registry face function)) args;
      place = 0;
    }

-- it holds its own object under the interface that was called, and what its arguments hold
abbrev pub holds_call : Setting → Body → List Plain → Tables → Tables
holds_call g b args t = gains (holder.Frame b.number) (own (own_oid g b.object) b.face) (gains_all (holder.Frame b.number) (refs_of_values args) t)

-- the same where they came from the peer
abbrev pub takes_call : Setting → Body → List Plain → Tables → Tables
takes_call g b args t = gains (holder.Frame b.number) (own (own_oid g b.object) b.face) (takes_all g (holder.Frame b.number) (refs_of_values args) t)

abbrev pub begins_here : Setting → Body → List Plain → List Frame → Tables → Unwound
begins_here g b args fs t = unwound (body b ∷ fs) (counts_frame (holds_call g b args t))

abbrev pub begins_there : Setting → Body → List Plain → List Frame → Tables → Unwound
begins_there g b args fs t = unwound (body b ∷ fs) (counts_frame (takes_call g b args t))

-- an own object is called from here: a frame more
unfoldable pub calls_own : Setting → (oid face : List ℕ) → ℕ → List Plain → List Frame → Tables → Unwound
calls_own g oid face function args fs t = begins_here g (first_body g false oid face function args t) args fs t

-- it is called by the peer
unfoldable pub serves : Setting → (oid face : List ℕ) → ℕ → List Plain → List Frame → Tables → Unwound
serves g oid face function args fs t = begins_there g (first_body g true oid face function args t) args fs t

-- an object of the peer's is called: a request, and a frame that waits for its reply
unfoldable pub calls_peer : Setting → (tid oid face : List ℕ) → ℕ → List Plain → List Frame → Tables → Unwound
calls_peer g tid oid face function args fs t =
    unwound
    (outgoing (record { number = t.frames_made; oid = oid; face = face; function = function }) ∷ fs)
    (counts_frame (says g (request tid oid face function args) t))

-- a query of the peer's object is a call of function 0
abbrev pub query_args : List ℕ → List Plain
query_args wanted = v.kind (kd.interface wanted) ∷ []

abbrev pub queries_peer : Setting → (tid oid face wanted : List ℕ) → List Frame → Tables → Unwound
queries_peer g tid oid face wanted fs t = calls_peer g tid oid face 0 (query_args wanted) fs t
