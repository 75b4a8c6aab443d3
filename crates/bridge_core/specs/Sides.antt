-- The sides that an endpoint has.
use Rattle.std.specs.Prelude.{Bool, true, false}
use Rattle.bridge_core.specs.declared.side.Side.{Side}
use Rattle.bridge_core.specs.declared.side.Side.TheVariants.{A, B}

abbrev pub is_a : Side → Bool
is_a A = true
is_a B = false
