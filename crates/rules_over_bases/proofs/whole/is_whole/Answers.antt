use Rattle.uno_entities.specs.Entities.{entities_of}
use Rattle.rules_over_bases.proofs.WholeLemmas.{incomplete, beyond_limits, memberless, few_decides}
use Rattle.rules_over_bases.proofs.whole.is_whole.Goals as goal

pub returns-then-not-is_complete-clause-whole : goal.returns-then-not-is_complete-clause-whole
returns-then-not-is_complete-clause-whole c =
    incomplete c.args.entities.now c.args.place _ _ c.requires.place c.index-entities-place.is c.is_complete.ensures c.if-not-is_complete.true

pub returns-then-not-is_within_limits-clause-whole : goal.returns-then-not-is_within_limits-clause-whole
returns-then-not-is_within_limits-clause-whole c =
    beyond_limits c.args.entities.now c.args.place _ _ c.requires.place c.index-entities-place-2.is c.is_within_limits.ensures c.if-not-is_within_limits.true

pub returns-then-not-has_member-clause-whole : goal.returns-then-not-has_member-clause-whole
returns-then-not-has_member-clause-whole c =
    memberless (entities_of c.args.entities.now) c.args.place _ c.has_member.ensures.member c.if-not-has_member.true

pub returns-clause-whole : goal.returns-clause-whole
returns-clause-whole c =
    few_decides c.args.entities.now c.args.place _ _ _ _ _ c.has_few_functions.result c.requires.place c.index-entities-place.is c.is_complete.ensures c.if-not-is_complete.false
    c.index-entities-place-2.is c.is_within_limits.ensures c.if-not-is_within_limits.false c.has_member.ensures.member c.if-not-has_member.false c.has_few_functions.ensures.few
