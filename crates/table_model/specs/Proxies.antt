-- Proxies: the number of each foreign pair that is held, in rising order of the pairs, and how many numbers were given.
use Rattle.std.specs.Prelude.{◌≡◌, ℕ, ◌+◌, List, [], Option, None, Some}
use Rattle.std.specs.FinMap.{find, put}
use Rattle.std.specs.Option.{unwrap_or}
use Rattle.table_model.specs.Pair.{Pair, pair_cmp}
use Rattle.table_model.specs.Rows.{without}

pub record Proxies : Type 0 where
  pub made : ℕ
  pub rows : List (Pair × ℕ)

-- no proxies, and no number given
abbrev pub no_proxies : Proxies
no_proxies = record { made = 0; rows = [] }

-- the number of a pair's proxy
abbrev pub proxy : Pair → Proxies → Option ℕ
proxy p proxies = find pair_cmp p proxies.rows

-- the number that a pair has after it arrives: its own, or the next
abbrev pub number_at_arrival : Pair → Proxies → ℕ
number_at_arrival p proxies = unwrap_or (proxy p proxies) proxies.made

-- the proxies after a pair arrives that has a proxy, or none
abbrev pub arrived_at : Pair → Option ℕ → Proxies → Proxies
arrived_at p (Some n) proxies = proxies
arrived_at p None proxies = record { made = proxies.made + 1; rows = put pair_cmp p proxies.made proxies.rows }

-- the proxies after a pair arrived
abbrev pub arrived : Pair → Proxies → Proxies
arrived p proxies = arrived_at p (proxy p proxies) proxies

-- the proxies after that of a pair is freed
abbrev pub freed : Pair → Proxies → Proxies
freed p proxies = record { made = proxies.made; rows = without pair_cmp p proxies.rows }

-- a pair's proxy has this number
abbrev pub HasNumber : Pair → ℕ → Proxies → Type 0
HasNumber p n proxies = proxy p proxies ≡ Some n
