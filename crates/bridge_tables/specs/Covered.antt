-- Proxies cover what is held: each pair of the peer's that somebody holds has one, and no other pair has.
use Rattle.std.specs.Prelude.{◌≡◌, ℕ, Bool, not, ◌&&◌, nat_eq, List, length, take, T}
use Rattle.std.specs.FinMap.{is_sorted}
use Rattle.std.specs.Option.{is_some}
use Rattle.std.specs.Str.{bytes_eq}
use Rattle.table_model.specs.Holdings.{Holdings, holders}
use Rattle.table_model.specs.Pair.{Pair, pair_cmp}
use Rattle.table_model.specs.Proxies.{Proxies, proxy}

-- whether an end whose names begin so gave a name
abbrev pub gave : (prefix name : List ℕ) → Bool
gave prefix name = bytes_eq (take (length prefix) name) prefix

-- whether a pair needs a proxy
abbrev pub needs_proxy : List ℕ → Holdings → Pair → Bool
needs_proxy prefix holdings p = not (gave prefix p.oid) && not (nat_eq (holders p holdings) 0)

-- a release is kept for each proxy
pub record AreCovered (prefix : List ℕ) (holdings : Holdings) (proxies : Proxies) (kept : ℕ) : Type 0 where
  pub each : (p : Pair) → is_some (proxy p proxies) ≡ needs_proxy prefix holdings p
  pub count : kept ≡ length proxies.rows
  pub rises : T (is_sorted pair_cmp proxies.rows)
