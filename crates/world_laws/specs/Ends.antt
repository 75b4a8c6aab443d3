-- The two ends of a world, told from the one of a side.
use Rattle.bridge_model.specs.Settings.{Setting}
use Rattle.world_model.specs.Worlds.{Settings, of_a, of_b, End, World}
use Rattle.world_model.specs.declared.side.Side.{Side}
use Rattle.world_model.specs.declared.side.Side.TheVariants.{A, B}

-- the end of a side, and the other one
abbrev pub near : Side → World → End
near A w = w.a
near B w = w.b

abbrev pub far : Side → World → End
far A w = w.b
far B w = w.a

abbrev pub other : Side → Side
other A = B
other B = A

abbrev pub near_of : Side → Settings → Setting
near_of A g = of_a g
near_of B g = of_b g

abbrev pub far_of : Side → Settings → Setting
far_of A g = of_b g
far_of B g = of_a g
