-- What is left to ask of a message that arrives, where threads are as Interlock says: it can be carried by bytes, and the objects that it names are those that were sent out.
use Rattle.std.specs.Prelude.{◌≡◌, ℕ, true, is_some, None, List, ◌∷◌}
use Rattle.message_model.specs.Messages.{Message, request, release, reply}
use Rattle.message_model.specs.Sayable.{arrived, MessageSpellable}
use Rattle.table_model.specs.Pair.{pair}
use Rattle.table_model.specs.Stubs.{stub}
use Rattle.bridge_model.specs.Histories.{Told}
use Rattle.bridge_model.specs.Receiving.{is_target, refs_refusal}
use Rattle.bridge_model.specs.References.{refs_of_values, refs_of_answer}
use Rattle.bridge_model.specs.Saying.{IsSayable}
use Rattle.bridge_model.specs.Objects.{has_stub, object_supports}
use Rattle.bridge_model.specs.Settings.{Setting, is_own, ref_of}
use Rattle.uno_model.specs.Values.{Ref, null, own, peer}
use Rattle.bridge_model.specs.Sides.{Tables, Side, stands}
use Rattle.world_model.specs.Flights.{flight}
use Rattle.world_model.specs.Worlds.{World}

-- a release is owed; a request is to an object that was sent out under such an interface, or asks for a name; and own objects in values were sent out and support the interface at their place
abbrev pub NamesRight : Setting → Side → Message → Type 0
NamesRight g s (release tid oid face) = is_some (stub (pair oid face) s.tables.stubs) ≡ true
NamesRight g s (request tid oid face function args) = (is_target g oid face function s.tables.stubs ≡ true) × (refs_refusal g s.tables (refs_of_values args) ≡ None)
NamesRight g s (reply tid face function a) = refs_refusal g s.tables (refs_of_answer a) ≡ None

-- a message may be said, can be carried by bytes, and names what was sent out
pub record IsOffered (g : Setting) (to : Told) (m : Message) : Type 0 where
  pub sayable : IsSayable g.registry m
  pub spellable : MessageSpellable m
  pub names : NamesRight g to.side (arrived g.registry m)

-- bytes can carry the first message in flight to each end that stands
pub record BothCarried (w : World) : Type 0 where
  pub to_a : stands w.a.now.side ≡ true → (m : Message) (ms : List Message) → flight w.b.now w.a.now ≡ m ∷ ms → MessageSpellable m
  pub to_b : stands w.b.now.side ≡ true → (m : Message) (ms : List Message) → flight w.a.now w.b.now ≡ m ∷ ms → MessageSpellable m

-- an identity of this end, which arrives under an interface, is told as own; it was sent out, and not all of it is released; and its object lives and supports the interface
pub record IsHome (g : Setting) (t : Tables) (oid face : List ℕ) : Type 0 where
  pub told : ref_of g oid face ≡ own oid face
  pub sent : has_stub oid t.stubs ≡ true
  pub supports : object_supports g oid face t.objects ≡ true

-- a reference that arrives and has an identity of this end is itself
abbrev pub ComesHome : Setting → Tables → Ref → Type 0
ComesHome g t null = Unit
ComesHome g t (own oid face) = is_own g oid ≡ true → IsHome g t oid face
ComesHome g t (peer oid face) = is_own g oid ≡ true → IsHome g t oid face
