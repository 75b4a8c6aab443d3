-- Full names of paths, by the numbers of these.
use Rattle.std.specs.Prelude.{◌≡◌, ℕ, List, get_or, IfSome, Option, None}
use Rattle.idl_names.specs.Paths.{Parts}
use Rattle.idl_names.specs.Standing.{name_at}

-- each name that is there is that of the path of its number
abbrev pub AreFullNames : List Parts → List (Option (List ℕ)) → Type 0
AreFullNames paths names = (n : ℕ) → IfSome (get_or names n None) (λ name. name ≡ name_at paths n)
