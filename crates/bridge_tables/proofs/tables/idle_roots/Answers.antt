use Rattle.std.proofs.Common.{refl, ap, ◌∙◌, map}
use Rattle.bridge_tables.specs.Roots.{root_of}
use Rattle.bridge_tables.specs.declared.roots.Root.TheVariants.{Idle}
use Rattle.bridge_tables.proofs.RootLemmas.{idle_more}
use Rattle.bridge_tables.proofs.tables.idle_roots.Goals as goal

pub loop-turn-preserved : goal.loop-turn-preserved
loop-turn-preserved c = ap (map root_of) c.in_default.ensures.items ∙ idle_more root_of c.loop-turn.roots.items Idle c.loop-turn._turn refl c.loop-turn.invariant
