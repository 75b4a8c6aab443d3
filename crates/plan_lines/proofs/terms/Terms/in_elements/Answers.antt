use Rattle.std.proofs.Common.{◌+◌, ◌^◌, refl, arith}
use Rattle.plan_lines.proofs.EndLemmas.{elements_few, element_alone, element_lost, element_last, element_next}
use Rattle.plan_lines.proofs.terms.Terms.in_elements.Goals as goal

pub returns-in_default : goal.returns-in_default
returns-in_default c = element_alone c.args.self.now.words.now c.args.stack.now.items c.args.pieces.now.items c.args.read c.requires c.args.bytes.now c.in_default.ensures.cases

pub returns-then-first-eq93 : goal.returns-then-first-eq93
returns-then-first-eq93 c =
    element_last c.args.self.now.words.now c.args.stack.now.items c.args.pieces.now.items c.args.read c.requires c.args.bytes.now c.in-Some.first.now c.in-Some.rest.now
    (c.args.read + 1) _ _ c.in-Some.ensures.cases.0 c.if-first-eq93.true refl c.put.ensures.place c.put.ensures.pieces

pub returns-then-first-eq44 : goal.returns-then-first-eq44
returns-then-first-eq44 c =
    element_next c.args.self.now.words.now c.args.stack.now.items c.args.pieces.now.items c.args.read c.requires c.args.bytes.now c.in-Some.first.now c.in-Some.rest.now
    (c.args.read + 1) _ _ c.in-Some.ensures.cases.0 c.if-first-eq44.true refl c.open_one.ensures.place c.open_one.ensures.stack

pub returns : goal.returns
returns c =
    element_lost c.args.self.now.words.now c.args.stack.now.items c.args.pieces.now.items c.args.read c.requires c.args.bytes.now c.in-Some.first.now c.in-Some.rest.now
    c.in-Some.ensures.cases.0 c.if-first-eq93.false c.if-first-eq44.false

pub overflow_add-read : goal.overflow_add-read
overflow_add-read c =
    let few =
    elements_few c.args.self.now.words.now c.args.stack.now.items c.args.pieces.now.items c.args.read c.requires c.args.pieces.now.len c.args.pieces.now.cap (2 ^ 63)
    c.args.pieces.now.ok.0 c.args.pieces.now.small c.args.pieces.now.ok.1 in
    omega (arith, few)

pub overflow_add-read-then-first-eq44 : goal.overflow_add-read-then-first-eq44
overflow_add-read-then-first-eq44 c =
    let few =
    elements_few c.args.self.now.words.now c.args.stack.now.items c.args.pieces.now.items c.args.read c.requires c.args.pieces.now.len c.args.pieces.now.cap (2 ^ 63)
    c.args.pieces.now.ok.0 c.args.pieces.now.small c.args.pieces.now.ok.1 in
    omega (arith, few)
