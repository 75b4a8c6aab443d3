-- Sums over lists, and how often messages name, release and bring a pair.
use Rattle.std.specs.Prelude.{ℕ, ◌+◌, ◌-◌, Bool, false, ◌&&◌, cond, ◌==◌, List, [], ◌∷◌, Option, None, Some, if◌then◌else◌}
use Rattle.message_model.specs.MessageNamings.{message_namings}
use Rattle.message_model.specs.Messages.{Message, request, release, reply}
use Rattle.uno_model.specs.Entities.{Entity}
use Rattle.uno_model.specs.Values.{Ref, null, own, peer}
use Rattle.urp_model.specs.Namings.{Naming}
use Rattle.table_model.specs.Pair.{Pair, pair, is_pair}
use Rattle.table_model.specs.declared.stub.Stub.{Stub}
use Rattle.bridge_model.specs.References.{refs_of_values, refs_of_answer}
use Rattle.bridge_model.specs.Settings.{Setting, at_home}

-- the sum of what each item counts
unfoldable pub total : {X : Type 0} → (X → ℕ) → List X → ℕ
total count [] = 0
total count (x ∷ xs) = count x + total count xs

abbrev pub one_if : Bool → ℕ
one_if b = cond b 1 0

-- ---- what goes out

-- a place that names an object of this end under the interface of a pair
abbrev pub is_place : Pair → Naming → Bool
is_place p n = n.is_own && is_pair p (pair n.oid n.written)

-- how many places of a message name a pair of this end
unfoldable pub places : List Entity → Pair → Message → ℕ
places reg p m = total (λ n. one_if (is_place p n)) (message_namings reg m)

-- ---- releases, of whichever side

unfoldable pub releases_of : Pair → Message → ℕ
releases_of p (release tid oid face) = one_if (is_pair p (pair oid face))
releases_of p m = 0

-- ---- what comes in

-- a reference to an object of the peer's, under the interface of a pair
abbrev pub is_peers : Pair → Ref → Bool
is_peers p null = false
is_peers p (own oid face) = false
is_peers p (peer oid face) = is_pair p (pair oid face)

-- the references that a message brings to who takes it; function 0 is answered at once
abbrev pub brought : Setting → Message → List Ref
brought g (request tid oid face function args) = if function == 0 then [] else refs_of_values args
brought g (release tid oid face) = []
brought g (reply tid face function a) = refs_of_answer a

unfoldable pub brings : Setting → Pair → Message → ℕ
brings g p m = total (λ r. one_if (is_peers p (at_home g r))) (brought g m)

-- ---- stubs

-- what was sent and is not released
abbrev pub owed_by : Option Stub → ℕ
owed_by None = 0
owed_by (Some s) = s.sent - s.released
