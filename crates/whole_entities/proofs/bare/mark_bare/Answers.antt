use Rattle.uno_entities.specs.Entities.{entities_of}
use Rattle.whole_entities.proofs.BareLemmas.{bare_on, more_bare}
use Rattle.whole_entities.proofs.bare.mark_bare.Goals as goal

pub returns-in_default : goal.returns-in_default
returns-in_default c = more_bare (entities_of c.args.entities.now) c.loop.bare c.loop.at c.loop.invariant.bare c.loop.invariant.none

pub loop-preserved : goal.loop-preserved
loop-preserved c =
    let on = bare_on c.args.entities.now c.loop.at c.in-Some.base _ c.requires.rising c.requires.no_circle c.loop.invariant.within c.loop.invariant.none c.in-Some.ensures in
    record {
      within = on.0;
      none = on.1;
      bare = more_bare (entities_of c.args.entities.now) c.loop.bare c.loop.at c.loop.invariant.bare c.loop.invariant.none;
    }
