use Rattle.uno_entities.specs.Entities.{attribute_of}
use Rattle.rules_over_bases.proofs.OverLemmas.{getter_repeats, both_accessors}
use Rattle.rules_over_bases.proofs.over.add_attribute.Goals as goal

pub returns-then-not-branch : goal.returns-then-not-branch
returns-then-not-branch c =
    getter_repeats (attribute_of c.args.attribute.now) c.args.seen.now c.add_getter.new.self c.as_str.result.now _ c.as_str.ensures c.in_ok-add_getter.ensures
    c.if-not-branch.true

pub returns : goal.returns
returns c =
    both_accessors (attribute_of c.args.attribute.now) c.args.seen.now c.add_getter.new.self c.add_setter.new.self c.as_str.result.now c.as_str-2.result.now _
    c.add_setter.result c.as_str.ensures c.as_str-2.ensures c.in_ok-add_getter.ensures c.if-not-branch.false c.if-attribute.false c.add_setter.ensures
