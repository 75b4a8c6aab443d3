-- Stubs: for each pair that was sent and is not all released, its two numbers, in rising order of the pairs.
use Rattle.std.specs.Prelude.{ℕ, ◌+◌, ◌<◌, Bool, cond, List, Option, None, Some, nat_eq}
use Rattle.std.specs.FinMap.{find, put}
use Rattle.table_model.specs.Pair.{Pair, pair_cmp}
use Rattle.table_model.specs.Rows.{without}
use Rattle.table_model.specs.declared.stub.Stub.{Stub}

-- a stub for each of some pairs
abbrev pub Stubs : Type 0
Stubs = List (Pair × Stub)

-- the stub of a pair
abbrev pub stub : Pair → Stubs → Option Stub
stub p stubs = find pair_cmp p stubs

-- how often a pair was sent, from the sending on that made its stub
abbrev pub sent_count : Option Stub → ℕ
sent_count None = 0
sent_count (Some s) = s.sent

-- the stub after one more sending
abbrev pub sent_again : Option Stub → Stub
sent_again None = record { sent = 1; released = 0 }
sent_again (Some s) = record s { sent = s.sent + 1 }

-- the stubs after a pair was sent
abbrev pub sent_one : Pair → Stubs → Stubs
sent_one p stubs = put pair_cmp p (sent_again (stub p stubs)) stubs

-- whether one release more makes both numbers meet
abbrev pub is_last : Stub → Bool
is_last s = nat_eq (s.released + 1) s.sent

-- the stubs after a release of a pair that has a stub, or none
abbrev pub released_from : Pair → Option Stub → Stubs → Stubs
released_from p None stubs = stubs
released_from p (Some s) stubs = cond (is_last s) (without pair_cmp p stubs) (put pair_cmp p (record s { released = s.released + 1 }) stubs)

-- the stubs after a pair was released
abbrev pub released_one : Pair → Stubs → Stubs
released_one p stubs = released_from p (stub p stubs) stubs

-- something sent is not yet released
abbrev pub IsOwed : Stub → Type 0
IsOwed s = s.released < s.sent
