use Rattle.rules_over_bases.proofs.OverLemmas.{share_seen}
use Rattle.rules_over_bases.proofs.over.add_at.Goals as goal

pub returns-clause-seen : goal.returns-clause-seen
returns-clause-seen c =
    share_seen c.args.search.now.marks.items c.args.entities.now c.args.place c.index-mark.result.now c.index-entities-place.result _ _ c.add_if_marked.result
    c.requires.place c.requires.long c.index-mark.ensures c.add_if_marked.ensures
