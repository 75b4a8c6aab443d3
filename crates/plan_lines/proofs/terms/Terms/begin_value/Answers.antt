use Rattle.std.proofs.Common.{sym, ◌∙◌}
use Rattle.plan_lines.proofs.BeginLemmas.{void_put, no_value, value_opened}
use Rattle.plan_lines.proofs.terms.Terms.begin_value.Goals as goal

pub returns-then-eq : goal.returns-then-eq
returns-then-eq c =
    void_put c.args.self.now.words.now c.args.stack.now.items c.args.pieces.now.items c.requires c.args.kind.now c.args.rest.now _ _
    (sym c.eq.ensures ∙ c.if-eq.true) c.put.ensures.place c.put.ensures.pieces

pub returns-then-eq-2 : goal.returns-then-eq-2
returns-then-eq-2 c =
    no_value c.args.self.now.words.now c.args.stack.now.items c.args.pieces.now.items c.requires c.args.kind.now c.args.rest.now
    (sym c.eq.ensures ∙ c.if-eq.false) (sym c.eq-2.ensures ∙ c.if-eq-2.true)

pub returns : goal.returns
returns c =
    value_opened c.args.self.now.words.now c.args.stack.now.items c.args.pieces.now.items c.requires c.args.kind.now c.args.rest.now _ _
    (sym c.eq.ensures ∙ c.if-eq.false) (sym c.eq-2.ensures ∙ c.if-eq-2.false) c.open_one.ensures.place c.open_one.ensures.stack
