use Rattle.uno_entities.specs.Entities.{entities_of}
use Rattle.rules_over_bases.proofs.WholeLemmas.{beyond_limits, few_decides, incomplete, memberless}
use Rattle.whole_entities.proofs.wholes.is_whole_with.Goals as goal

pub returns-then-not-member-clause-whole : goal.returns-then-not-member-clause-whole
returns-then-not-member-clause-whole c = memberless (entities_of c.args.entities.now) c.args.place _ c.requires.member c.if-not-member.true

pub returns-then-not-is_complete-clause-whole : goal.returns-then-not-is_complete-clause-whole
returns-then-not-is_complete-clause-whole c =
    incomplete c.args.entities.now c.args.place _ _ c.requires.place c.index-entities-place.is c.is_complete.ensures c.if-not-is_complete.true

pub returns-then-not-is_within_limits-clause-whole : goal.returns-then-not-is_within_limits-clause-whole
returns-then-not-is_within_limits-clause-whole c =
    beyond_limits c.args.entities.now c.args.place _ _ c.requires.place c.index-entities-place-2.is c.is_within_limits.ensures c.if-not-is_within_limits.true

pub returns-clause-whole : goal.returns-clause-whole
returns-clause-whole c =
    few_decides c.args.entities.now c.args.place _ _ _ _ _ c.has_few_functions.result c.requires.place c.index-entities-place.is c.is_complete.ensures c.if-not-is_complete.false
    c.index-entities-place-2.is c.is_within_limits.ensures c.if-not-is_within_limits.false c.requires.member c.if-not-member.false c.has_few_functions.ensures.few
