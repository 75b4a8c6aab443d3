-- What holds of a bridge that has ended.
use Rattle.std.specs.Prelude.{◌≡◌, false, []}
use Rattle.bridge_model.specs.Sides.{Side, stands}
use Rattle.bridge_model.specs.Steps.{Turn}

-- where it has ended, there are no stacks
abbrev pub IsQuiet : Side → Type 0
IsQuiet s = stands s ≡ false → s.stacks ≡ []

-- a step of a bridge that has ended: it stays so, gets nothing and says nothing
pub record StaysEnded (u : Turn) : Type 0 where
  pub ended : stands u.side ≡ false
  pub quiet : u.side.stacks ≡ []
  pub got : u.got ≡ []
  pub said : u.said ≡ []
