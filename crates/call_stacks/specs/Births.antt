-- The birth of a TID's stack.
use Rattle.std.specs.Prelude.{ℕ, List, Option}
use Rattle.std.specs.BTreeMap.{BTreeMap, get_by}
use Rattle.std.specs.Cmp.Lexicographic.{slice_cmp}
use Rattle.std.specs.Global.{Vec}
use Rattle.std.specs.Ordering.{nat_cmp}

-- the number that the births have for a TID
abbrev pub birth_at : List ℕ → BTreeMap (Vec ℕ) ℕ → Option ℕ
birth_at tid births = get_by (λ key. slice_cmp nat_cmp tid key.items) births
