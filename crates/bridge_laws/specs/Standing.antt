-- What stands behind the messages that use a pair of the peer's: a release of it, unless it is held.
use Rattle.std.specs.Prelude.{ℕ, ◌+◌, ◌≤◌, ◌==◌, ◌&&◌, Bool, true, not, List, [], ◌∷◌}
use Rattle.std.specs.List.{list_all}
use Rattle.message_model.specs.Messages.{Message, request, release, reply}
use Rattle.table_model.specs.Pair.{Pair, pair, is_pair}
use Rattle.plan_model.specs.Forms.{is_export_name}
use Rattle.bridge_model.specs.Entries.{Entry, asked}
use Rattle.bridge_model.specs.References.{refs_of_values, refs_of_answer}
use Rattle.bridge_laws.specs.Counting.{total, one_if, is_peers, releases_of}

-- a request asks for a name: function 0 of what has the form of an export's name
unfoldable pub is_ask : (oid : List ℕ) (function : ℕ) → Bool
is_ask oid function = (function == 0) && is_export_name oid

-- how often a message uses a pair of the peer's: as the target of a request that asks for no name, and in its values, where it stands under the interface under which
-- it was held
unfoldable pub uses : Pair → Message → ℕ
uses p (request tid oid face function args) = one_if (not (is_ask oid function) && is_pair p (pair oid face)) + total (λ r. one_if (is_peers p r)) (refs_of_values args)
uses p (release tid oid face) = 0
uses p (reply tid face function a) = total (λ r. one_if (is_peers p r)) (refs_of_answer a)

-- behind each message that uses a pair stands a release of it, or the pair is held in the end, which is told as a number
unfoldable pub Stands : Pair → ℕ → List Message → Type 0
Stands p held [] = Unit
Stands p held (m ∷ ms) = (1 ≤ uses p m → 1 ≤ held + total (releases_of p) ms) × Stands p held ms

-- what a root asks for has the form of an export's name, and so is no identity that an end gives
abbrev pub asks_by_name : Entry → Bool
asks_by_name (asked root name wanted) = is_export_name name
asks_by_name e = true

-- roots ask for names alone
unfoldable pub asks_names : List Entry → Bool
asks_names es = list_all asks_by_name es
