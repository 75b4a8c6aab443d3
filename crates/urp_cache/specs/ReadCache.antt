-- What a contract sees of a `ReadCache`.
use Rattle.std.specs.Prelude.{ℕ, List, map, Option, option_map}

-- the names as bytes
unfoldable pub plain_names : {X : Type 0} → (X → List ℕ) → List (Option X) → List (Option (List ℕ))
plain_names bytes names = map (option_map bytes) names
