-- Two ends of which all that comes from outside can be carried by bytes: their registry, and what their roots give.
use Rattle.std.specs.Prelude.{List}
use Rattle.bridge_laws.specs.SpellableGiving.{AreGivenByRoots}
use Rattle.bridge_laws.specs.Texts.{AreSmallItems}
use Rattle.world_model.specs.Setups.{AreSetUp, BothGive}
use Rattle.world_model.specs.Worlds.{Settings, Event, entries_of}
use Rattle.world_model.specs.declared.side.Side.TheVariants.{A, B}

-- two ends that are set up, and the numbers of whose registry's items have 32 bits
pub record AreReady (g : Settings) : Type 0 where
  pub up : AreSetUp g
  pub items : AreSmallItems g.registry

-- roots give what may be said and can be carried
pub record BothGiveWell (g : Settings) (es : List Event) : Type 0 where
  pub gives : BothGive g es
  pub a : AreGivenByRoots (entries_of A es)
  pub b : AreGivenByRoots (entries_of B es)
