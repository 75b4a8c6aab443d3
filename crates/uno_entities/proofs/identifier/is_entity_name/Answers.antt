use Rattle.std.proofs.Common.{sym, ◌∙◌, arith, rules}
use Rattle.uno_entities.proofs.NameParts.{after_point, without_point}
use Rattle.uno_entities.proofs.identifier.is_entity_name.Goals as goal

pub returns-then-not-is_identifier : goal.returns-then-not-is_identifier
returns-then-not-is_identifier c =
    let cut = after_point c.loop-part.rest.now c.split_once.result _ _ c.split_once.ensures.cases c.in-Some.is in
    grind (arith, cut, c.is_identifier.ensures, c.loop-part.invariant.same)

pub loop-part-preserved : goal.loop-part-preserved
loop-part-preserved c =
    let cut = after_point c.loop-part.rest.now c.split_once.result _ _ c.split_once.ensures.cases c.in-Some.is in
    record { same = grind (arith, cut, c.is_identifier.ensures, c.loop-part.invariant.same); text = search rules }

pub returns : goal.returns
returns c = c.is_identifier-2.ensures ∙ sym (without_point c.loop-part.rest.now _ c.split_once.ensures.cases c.in_default.is) ∙ c.loop-part.invariant.same
