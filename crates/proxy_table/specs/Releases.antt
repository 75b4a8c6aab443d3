-- The releases that are ready, each at the number of its proxy.
use Rattle.std.specs.Prelude.{◌≡◌, ℕ, ◌<◌, Option, Some, option_map, nat_eq}
use Rattle.std.specs.HashMap.{HashMap, get}
use Rattle.table_model.specs.Pair.{Pair, pair}
use Rattle.table_model.specs.Proxies.{Proxies, proxy}
use Rattle.proxy_table.specs.declared.release.Release.{Release}

-- the pair that a release names
abbrev pub pair_of : Release → Pair
pair_of release = pair release.oid release.face

-- the pair of a number
abbrev pub pair_at : {S : Type 0} → HashMap ℕ Release S → ℕ → Option Pair
pair_at releases n = option_map pair_of (get nat_eq releases n)

-- numbers of pairs and pairs of numbers are the two ways of one relation, and each number was given
pub record AreOne (numbers : Pair → Option ℕ) (pairs : ℕ → Option Pair) (made : ℕ) : Type 0 where
  pub ready : (p : Pair) (n : ℕ) → numbers p ≡ Some n → pairs n ≡ Some p
  pub owed : (p : Pair) (n : ℕ) → pairs n ≡ Some p → numbers p ≡ Some n
  pub given : (p : Pair) (n : ℕ) → numbers p ≡ Some n → n < made

-- each proxy has its release, and each release its proxy
abbrev pub Agrees : {S : Type 0} → HashMap ℕ Release S → Proxies → Type 0
Agrees releases proxies = AreOne (λ p. proxy p proxies) (pair_at releases) proxies.made
