-- Equal texts are hashed alike.
use Rattle.std.specs.Prelude.{◌≡◌, ℕ, List, IsTrue, nat_eq}
use mathlib.Core.Path.{ap}
use Rattle.std.specs.Cmp.Lexicographic.{pointwise, bytes_decides}
use Rattle.std.specs.Hash as fed

pub hashed_alike : (x y : List ℕ) → IsTrue (pointwise nat_eq x y) → fed.str x ≡ fed.str y
hashed_alike x y same = ap fed.str ((bytes_decides x y).0 same)
