-- A message of the peer: what it is tested for, in order, and what it does.
use Rattle.std.specs.Prelude.{ℕ, Bool, true, false, not, ◌&&◌, ◌||◌, ◌==◌, List, [], ◌∷◌, is_some, Option, None, Some, if◌then◌else◌}
use Rattle.std.specs.List.{list_any}
use Rattle.std.specs.Option.{option_or}
use Rattle.std.specs.Str.{bytes_eq}
use Rattle.message_model.specs.Messages.{Message, request, release, reply, returned}
use Rattle.uno_model.specs.Entities.{Entity}
use Rattle.uno_model.specs.Kinds.{Kind}
use Rattle.uno_model.specs.Kinds as kd
use Rattle.uno_model.specs.Reaches.{is_base_of}
use Rattle.uno_model.specs.Values.{Ref, null, own, peer, Plain}
use Rattle.uno_model.specs.Values as v
use Rattle.urp_model.specs.declared.reason.Reason.{Reason}
use Rattle.urp_model.specs.declared.reason.Reason.TheVariants.{Unowed, UnknownOid, BusyThread, UnknownThread, WrongInterface}
use Rattle.table_model.specs.Pair.{pair}
use Rattle.table_model.specs.Stubs.{Stubs, stub, released_one}
use Rattle.plan_model.specs.Frames.{Frame, frames_of}
use Rattle.bridge_model.specs.Calls.{serves}
use Rattle.bridge_model.specs.Handing.{hands_from_peer}
use Rattle.bridge_model.specs.Objects.{has_stub, object_supports, object_answer, name_answer}
use Rattle.bridge_model.specs.References.{says, refs_of_values, refs_of_answer, each_home, home_answer}
use Rattle.bridge_model.specs.Settings.{Setting, is_own}
use Rattle.bridge_model.specs.Sides.{Object, Tables, Side, on_tables}
use Rattle.bridge_model.specs.Stacks.{with_unwound, has_stack, is_busy}

-- ---- tests

abbrev pub unless : Bool → Reason → Option Reason → Option Reason
unless true why later = later
unless false why later = Some why

-- an own object was sent out under an interface that is assignable to the one that is called
unfoldable pub is_called_out : List Entity → (oid face : List ℕ) → Stubs → Bool
is_called_out reg oid face stubs = list_any (λ row. bytes_eq oid row.0.oid && is_base_of reg face row.0.face) stubs

-- a name may be asked for, which is no object of this end
abbrev pub is_asked_name : Setting → List ℕ → ℕ → Bool
is_asked_name g [] function = false
is_asked_name g (c ∷ cs) function = (function == 0) && not (is_own g (c ∷ cs))

abbrev pub is_target : Setting → (oid face : List ℕ) → ℕ → Stubs → Bool
is_target g oid face function stubs = (is_own g oid && is_called_out g.registry oid face stubs) || is_asked_name g oid function

-- an object of this end that a value names was sent out, and supports the interface at its place
abbrev pub own_refusal : Setting → Tables → (oid face : List ℕ) → Option Reason
own_refusal g t oid face = unless (has_stub oid t.stubs) UnknownOid (unless (object_supports g oid face t.objects) WrongInterface None)

abbrev pub named_refusal : Setting → Tables → (oid face : List ℕ) → Option Reason
named_refusal g t oid face = if is_own g oid then own_refusal g t oid face else None

abbrev pub ref_refusal : Setting → Tables → Ref → Option Reason
ref_refusal g t null = None
ref_refusal g t (own oid face) = named_refusal g t oid face
ref_refusal g t (peer oid face) = named_refusal g t oid face

unfoldable pub refs_refusal : Setting → Tables → List Ref → Option Reason
refs_refusal g t [] = None
refs_refusal g t (r ∷ rs) = option_or (ref_refusal g t r) (refs_refusal g t rs)

-- why a message breaks the protocol: all tests stand before anything is taken
unfoldable pub refusal : Setting → Side → Message → Option Reason
refusal g s (release tid oid face) = unless (is_some (stub (pair oid face) s.tables.stubs)) Unowed None
refusal g s (request tid oid face function args) =
    unless
    (is_target g oid face function s.tables.stubs)
    UnknownOid
    (unless
    (not (is_busy tid s.stacks))
    BusyThread
    (unless (not (is_own g tid) || has_stack tid s.stacks) UnknownThread (refs_refusal g s.tables (refs_of_values args))))
refusal g s (reply tid face function a) = refs_refusal g s.tables (refs_of_answer a)

-- ---- what it does

-- the type that function 0 asks for; it has one argument, of type `type`
abbrev pub asked_kind : List Plain → Kind
asked_kind (v.kind k ∷ args) = k
asked_kind args = kd.void

abbrev pub answer_to : Setting → List ℕ → Kind → List Object → Plain
answer_to g oid k os = if is_own g oid then object_answer g oid k os else name_answer g oid k os

-- function 0 is answered at once
abbrev pub answers_at_once : Setting → (tid oid face : List ℕ) → List Plain → Tables → Tables
answers_at_once g tid oid face args t = says g (reply tid face 0 (returned (answer_to g oid (asked_kind args) t.objects) [])) t

abbrev pub requested : Setting → (tid oid face : List ℕ) → ℕ → List Plain → Side → Side
requested g tid oid face function args s =
    if function == 0 then on_tables (answers_at_once g tid oid face args) s
    else with_unwound tid (serves g oid face function (each_home g args) (frames_of tid s.stacks) s.tables) s

-- the frames below a call that went out
abbrev pub below_top : List Frame → List Frame
below_top [] = []
below_top (f ∷ fs) = fs

unfoldable pub receives : Setting → Message → Side → Side
receives g (release tid oid face) s = on_tables (λ t. record t { stubs = released_one (pair oid face) t.stubs }) s
receives g (request tid oid face function args) s = requested g tid oid face function args s
receives g (reply tid face function a) s = with_unwound tid (hands_from_peer g tid (home_answer g a) (below_top (frames_of tid s.stacks)) s.tables) s
