use Rattle.whole_entities.proofs.bare.has_member_or_none.Goals as goal

pub mark_bare-requires-clause-none : goal.mark_bare-requires-clause-none
mark_bare-requires-clause-none c = c.climbs_to_bare.ensures c.if-climbs_to_bare.true

pub returns-then-climbs_to_bare-clause-member : goal.returns-then-climbs_to_bare-clause-member
returns-then-climbs_to_bare-clause-member c = c.climbs_to_bare.ensures c.if-climbs_to_bare.true
