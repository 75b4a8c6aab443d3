use Rattle.bridge_world.proofs.MarkLemmas.{lent_entry, lent_none, searched_at, searched_none}
use Rattle.bridge_world.proofs.history.marked.Goals as goal

pub returns-in_default-clause-none : goal.returns-in_default-clause-none
returns-in_default-clause-none c = searched_none c.args.end.now c.stamps.result.now c.args.mark c.in_default.field-0 c.stamps.ensures.stamps c.requires c.in_default.ensures.position

pub returns-clause-found : goal.returns-clause-found
returns-clause-found c =
    lent_entry c.args.end.now c.args.mark c.in-Ok.place c.journal.result.now c.get.result c.journal.ensures.entries
    (searched_at c.args.end.now c.stamps.result.now c.args.mark c.in-Ok.place c.stamps.ensures.stamps c.requires c.in-Ok.ensures.position) c.stamps.ensures.each c.get.ensures.lookup.1

pub returns-clause-none : goal.returns-clause-none
returns-clause-none c =
    lent_none c.args.end.now c.args.mark c.in-Ok.place c.journal.result.now c.get.result c.journal.ensures.entries
    (searched_at c.args.end.now c.stamps.result.now c.args.mark c.in-Ok.place c.stamps.ensures.stamps c.requires c.in-Ok.ensures.position) c.stamps.ensures.each c.get.ensures.lookup.2
