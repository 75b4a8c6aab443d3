-- What proofs ask of two ends and of all that they said: it follows of two ends that are set up, whose roots give what they may.
use Rattle.std.proofs.Common.{◌≡◌, []}
use Rattle.bridge_laws.specs.Living.{plan_constants}
use Rattle.uno_model.specs.BuiltIn.{HasBuiltIn}
use Rattle.uno_model.specs.Sound.{IsSound}
use Rattle.world_model.specs.Sayings.{AreWellSaid}
use Rattle.world_model.specs.Worlds.{Settings, of_a, of_b, AreJoined, World}

-- what is asked of two ends: a sound registry with the built-in entities, names that tell the ends apart, and plans whose constants refer to nothing
pub record AreFit (g : Settings) : Type 0 where
  pub sound : IsSound g.registry
  pub built : HasBuiltIn g.registry
  pub apart : AreJoined (of_a g) (of_b g)
  pub closed_a : plan_constants g.a.plan ≡ []
  pub closed_b : plan_constants g.b.plan ≡ []

-- of all that both said
pub record BothWellSaid (g : Settings) (w : World) : Type 0 where
  pub a : AreWellSaid (of_a g) w.a.now.said
  pub b : AreWellSaid (of_b g) w.b.now.said
