use Rattle.std.proofs.Common.{sym, ◌∙◌}
use Rattle.plan_lines.proofs.BeginLemmas.{no_bytes, elements_begun, members_opened, cast_begun, word_begun, leaf_begun}
use Rattle.plan_lines.proofs.terms.Terms.begin.Goals as goal

pub returns-in_default : goal.returns-in_default
returns-in_default c = no_bytes c.args.self.now.words.now c.args.stack.now.items c.args.pieces.now.items c.args.bytes.now c.in_default.ensures.cases

pub returns-then-first-eq91 : goal.returns-then-first-eq91
returns-then-first-eq91 c =
    elements_begun c.args.self.now.words.now c.args.stack.now.items c.args.pieces.now.items c.args.bytes.now c.in-Some.first.now c.in-Some.rest.now _ _ _
    c.in-Some.ensures.cases.0 c.if-first-eq91.true c.begin_elements.ensures

pub returns-then-first-eq123 : goal.returns-then-first-eq123
returns-then-first-eq123 c =
    members_opened c.args.self.now.words.now c.args.stack.now.items c.args.pieces.now.items c.requires c.args.bytes.now c.in-Some.first.now c.in-Some.rest.now _ _
    c.in-Some.ensures.cases.0 c.if-first-eq123.true c.open_one.ensures.place c.open_one.ensures.stack

pub returns-then-first-eq40 : goal.returns-then-first-eq40
returns-then-first-eq40 c =
    cast_begun c.args.self.now.words.now c.args.stack.now.items c.args.pieces.now.items c.args.bytes.now c.in-Some.first.now c.in-Some.rest.now _ _ _
    c.in-Some.ensures.cases.0 c.if-first-eq40.true c.begin_cast.ensures

pub returns-then-begins_identifier : goal.returns-then-begins_identifier
returns-then-begins_identifier c =
    word_begun c.args.self.now.words.now c.args.stack.now.items c.args.pieces.now.items c.args.bytes.now c.in-Some.first.now c.in-Some.rest.now _ _ _
    c.in-Some.ensures.cases.0 (sym c.begins_identifier.ensures ∙ c.if-begins_identifier.true) c.begin_word.ensures

pub returns : goal.returns
returns c =
    leaf_begun c.args.self.now.words.now c.args.stack.now.items c.args.pieces.now.items c.requires c.args.bytes.now c.in-Some.first.now c.in-Some.rest.now _ _
    c.in-Some.ensures.cases.0 c.if-first-eq91.false c.if-first-eq123.false c.if-first-eq40.false (sym c.begins_identifier.ensures ∙ c.if-begins_identifier.false)
    c.put_leaf.ensures.term c.put_leaf.ensures.built
