-- Bytes between a pipe and an end: how many go out, and whether there are any.
use Rattle.std.proofs.Common.{◌≡◌, refl, ap, ◌==◌, ◌≤◌, ℕ, Bool, true, false, not, min, List, [], ◌∷◌, length, take, length-take, if◌then◌else◌, arith}
use Rattle.bridge_model.specs.Answers.{drained_next, is_some_piece}
use Rattle.bridge_model.specs.Going.{waiting_bytes}
use Rattle.bridge_model.specs.Settings.{Setting}
use Rattle.bridge_model.specs.Sides.{Side}
use Rattle.bridge_model.specs.Steps.{is_no_memory}

bounded : (b : Bool) (most : ℕ) (xs : List ℕ) → length (if b then [] else take most xs) ≤ most
bounded true most xs = omega arith
bounded false most xs = let long : length (take most xs) ≡ min most (length xs) = length-take most xs in omega (arith, long)

-- no more go out than were asked for
pub at_most : (g : Setting) (most : ℕ) (s : Side) → length (drained_next g most s) ≤ most
unfolding drained_next
at_most g most s = bounded (is_no_memory s.cause) most (waiting_bytes g s)

pub some_bytes : (xs : List ℕ) → not (length xs == 0) ≡ is_some_piece xs
some_bytes [] = refl
some_bytes (x ∷ xs) = let some : (length (x ∷ xs) == 0) ≡ false = grind arith in ap not some
