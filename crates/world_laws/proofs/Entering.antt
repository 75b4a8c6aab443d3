-- What a root enters can be made.
use Rattle.std.specs.Prelude.{◌≡◌, Option, None, Some}
use Rattle.std.specs.List.{AllByRecursion}
use Rattle.plan_model.specs.Roots.{Run}
use Rattle.bridge_model.specs.Entries.{Entry}
use Rattle.bridge_model.specs.RootRuns.{Moved, waiting, finished, moved, root_moves}
use Rattle.bridge_model.specs.Settings.{Setting}
use Rattle.world_model.specs.Pairs.{Pairing}
use Rattle.world_model.specs.Worlds.{Settings, of_a, of_b, End, acts}

-- an entry of an end can be made, where the other is as it is; without one there is nothing to make
abbrev pub CanEnter : Setting → (one other : End) → Option Entry → Type 0
CanEnter g one other None = Unit
CanEnter g one other (Some e) = (after : End) × (acts g one other e ≡ Some after)

abbrev pub MovedCanEnter : Setting → (one other : End) → Moved → Type 0
MovedCanEnter g one other waiting = Unit
MovedCanEnter g one other finished = Unit
MovedCanEnter g one other (moved next e) = CanEnter g one other e

-- what the next move of a root enters can be made
abbrev pub RunCanMove : Setting → (one other : End) → Run → Type 0
RunCanMove g one other r = MovedCanEnter g one other (root_moves g one.now.side r)

-- so it is of all roots of both ends
pub record RootsCanMove (g : Settings) (p : Pairing) : Type 0 where
  pub a : AllByRecursion (RunCanMove (of_a g) p.world.a p.world.b) p.runs.a
  pub b : AllByRecursion (RunCanMove (of_b g) p.world.b p.world.a) p.runs.b
