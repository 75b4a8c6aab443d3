-- Where the first line feed of some bytes stands.
use Rattle.std.specs.Prelude.{◌≡◌, ◌<◌, ◌==◌, ℕ, false, List, slice_index}

-- none stands before this place
abbrev pub NoFeedBefore : List ℕ → ℕ → Type 0
NoFeedBefore bytes at = (k : ℕ) → k < at → (slice_index bytes k == 10) ≡ false
