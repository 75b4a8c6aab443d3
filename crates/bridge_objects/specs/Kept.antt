-- What of an end of a bridge is kept here: its objects, who holds which pair, and the stubs.
use Rattle.std.specs.Prelude.{ℕ, suc, ◌-◌, Bool, not, ◌&&◌, nat_lt, List, [], ◌∷◌, ◌++◌, Option}
use Rattle.std.specs.Fmt.{decimal}
use Rattle.std.specs.List.{filter, find}
use Rattle.std.specs.Option.{option_map}
use Rattle.std.specs.Str.{bytes_eq}
use Rattle.uno_model.specs.Values.{Plain}
use Rattle.table_model.specs.Holdings.{Hold, Holdings, held, let_go, outlasts}
use Rattle.table_model.specs.Pair.{Pair}
use Rattle.table_model.specs.Stubs.{Stubs, sent_one, released_one}
use Rattle.bridge_model.specs.Objects.{is_held_object, has_stub, object_numbered, with_fields, without_object}
use Rattle.bridge_model.specs.Sides.{Object}

-- the front of the identities of its objects, and how many of these are there from the beginning and never go; the living objects in the order in which they were
-- made, and how many were made; who holds which pair; and the stubs
pub record Kept : Type 0 where
  pub prefix : List ℕ
  pub first : ℕ
  pub objects : List Object
  pub objects_made : ℕ
  pub holdings : Holdings
  pub stubs : Stubs

-- at the beginning
abbrev pub nothing_kept : List ℕ → ℕ → Kept
nothing_kept prefix first = record { prefix = prefix; first = first; objects = []; objects_made = 0; holdings = []; stubs = [] }

-- the identity of the object of a number
abbrev pub oid_of : Kept → ℕ → List ℕ
oid_of k n = k.prefix ++ decimal n

-- the object of a number, and that of an identity
abbrev pub numbered : ℕ → Kept → Option Object
numbered n k = object_numbered n k.objects

unfoldable pub named : List ℕ → Kept → Option Object
named oid k = find (λ o. bytes_eq oid (oid_of k o.number)) k.objects

-- the values of the fields of an object, and its behaviour
abbrev pub fields_of : Option Object → Option (List Plain)
fields_of o = option_map (λ o. o.fields) o

abbrev pub behaviour_of : Option Object → Option ℕ
behaviour_of o = option_map (λ o. o.behaviour) o

abbrev pub number_of : Option Object → Option ℕ
number_of o = option_map (λ o. o.number) o

-- ---- the objects that may go

-- an object that nobody holds, that the peer does not hold, and that was not there from the beginning
abbrev pub may_go : Kept → Object → Bool
may_go k o = nat_lt k.first o.number && (not (is_held_object (oid_of k o.number) k.holdings) && not (has_stub (oid_of k o.number) k.stubs))

-- the lowest of them
unfoldable pub lowest : Kept → Option Object
lowest k = find (may_go k) k.objects

-- ---- changes

-- one occurrence more, and one less
abbrev pub with_hold : Hold → Kept → Kept
with_hold h k = record k { holdings = held h k.holdings }

abbrev pub without_hold : Hold → Kept → Kept
without_hold h k = record k { holdings = let_go h k.holdings }

-- a pair was sent, and released
abbrev pub with_sent : Pair → Kept → Kept
with_sent p k = record k { stubs = sent_one p k.stubs }

abbrev pub with_release : Pair → Kept → Kept
with_release p k = record k { stubs = released_one p k.stubs }

-- the next object, with these values of its fields
abbrev pub with_made : ℕ → List Plain → Kept → Kept
with_made behaviour fields k =
    record k { objects = k.objects ++ record { number = suc k.objects_made; behaviour = behaviour; fields = fields } ∷ []; objects_made = suc k.objects_made }

-- the last object that was made is taken back
abbrev pub unmade : Kept → Kept
unmade k = record k { objects = without_object k.objects_made k.objects; objects_made = k.objects_made - 1 }

abbrev pub with_object_fields : ℕ → List Plain → Kept → Kept
with_object_fields n fields k = record k { objects = with_fields n fields k.objects }

abbrev pub removed : ℕ → Kept → Kept
removed n k = record k { objects = without_object n k.objects }

-- the bridge has ended: what frames hold goes, and so do the stubs
abbrev pub ended : Kept → Kept
ended k = record k { holdings = filter outlasts k.holdings; stubs = [] }
