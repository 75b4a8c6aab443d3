-- What came out, one value after the other.
use Rattle.std.specs.Prelude.{ℕ, List, [], ◌∷◌}
use Rattle.bridge_model.specs.RootRuns.{puts}
use Rattle.plan_model.specs.Roots.{Run}
use Rattle.uno_model.specs.Values.{Plain}

-- a variable gets the first of these values, where there is one
abbrev pub puts_first : List ℕ → List Plain → Run → Run
puts_first name [] r = r
puts_first name (x ∷ xs) r = puts name x r
