-- Structs and exceptions that are known to have no member.
use Rattle.std.specs.Prelude.{Bool, not, List}
use Rattle.uno_model.specs.Entities.{Entity}
use Rattle.uno_model.specs.Sound.{has_member}
use Rattle.rules_over_bases.specs.Known.{KnownToPass}

-- each that is marked has no member
abbrev pub KnownBare : List Entity → List Bool → Type 0
KnownBare reg bare = KnownToPass (λ e. not (has_member reg e)) reg bare
