-- What a contract sees of a `SendCache`.
use Rattle.std.specs.Prelude.{ℕ, List, map, Vec}

-- the names as bytes, with their slots
unfoldable pub plain : {Z : Type 0} → List (Vec ℕ Z × ℕ) → List (List ℕ × ℕ)
plain entries = map (λ e. (e.0.items, e.1)) entries
