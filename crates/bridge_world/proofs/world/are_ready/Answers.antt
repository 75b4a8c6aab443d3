use Rattle.std.proofs.Common.{subst}
use Rattle.bridge_laws.specs.Texts.{AreSmallItems}
use Rattle.bridge_world.proofs.Opening.{both_ready}
use Rattle.bridge_world.proofs.world.are_ready.Goals as goal

pub returns : goal.returns
returns c =
    both_ready c.args.a.now c.args.b.now c.requires.registry c.journal.ensures.set_up c.journal-2.ensures.set_up c.journal.ensures.built_in c.journal.ensures.tag c.journal-2.ensures.tag c.requires.apart
    (subst AreSmallItems c.registry.ensures.same c.every_item_is_small.ensures)
