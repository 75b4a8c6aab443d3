use Rattle.plan_lines.proofs.BeginLemmas.{no_element, elements_closed, elements_opened}
use Rattle.plan_lines.proofs.terms.Terms.begin_elements.Goals as goal

pub returns-in_default : goal.returns-in_default
returns-in_default c = no_element c.args.self.now.words.now c.args.stack.now.items c.args.pieces.now.items c.requires c.args.bytes.now c.in_default.ensures.cases

pub returns-then-first-eq93 : goal.returns-then-first-eq93
returns-then-first-eq93 c =
    elements_closed c.args.self.now.words.now c.args.stack.now.items c.args.pieces.now.items c.requires c.args.bytes.now c.in-Some.first.now c.in-Some.rest.now _ _
    c.in-Some.ensures.cases.0 c.if-first-eq93.true c.put.ensures.place c.put.ensures.pieces

pub returns : goal.returns
returns c =
    elements_opened c.args.self.now.words.now c.args.stack.now.items c.args.pieces.now.items c.requires c.args.bytes.now c.in-Some.first.now c.in-Some.rest.now _ _
    c.in-Some.ensures.cases.0 c.if-first-eq93.false c.open_one.ensures.place c.open_one.ensures.stack
