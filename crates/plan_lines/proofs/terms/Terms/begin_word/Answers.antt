use Rattle.std.proofs.Common.{sym, ◌∙◌}
use Rattle.plan_lines.proofs.BeginLemmas.{word_alone, word_before, no_operation, operation_opened}
use Rattle.plan_lines.proofs.terms.Terms.begin_word.Goals as goal

pub returns-in_default : goal.returns-in_default
returns-in_default c =
    word_alone c.args.self.now.words.now c.args.stack.now.items c.args.pieces.now.items c.requires c.args.bytes.now c.as_text-word.result.now c.split.result.1.now _ _
    (c.as_text-word.ensures ∙ c.split.ensures.front) c.split.ensures.rest c.in_default.ensures.cases c.put_word.ensures.term c.put_word.ensures.built

pub returns-in_default-operation_named : goal.returns-in_default-operation_named
returns-in_default-operation_named c =
    no_operation c.args.self.now.words.now c.args.stack.now.items c.args.pieces.now.items c.requires c.args.bytes.now c.as_text-word.result.now c.split.result.1.now
    c.in-Some.first.now c.in-Some.behind.now (c.as_text-word.ensures ∙ c.split.ensures.front) c.split.ensures.rest c.in-Some.ensures.cases.0 c.if-first-eq40.true
    (sym c.operation_named.ensures ∙ c.in_default-operation_named.is)

pub returns-then-first-eq40 : goal.returns-then-first-eq40
returns-then-first-eq40 c =
    operation_opened c.args.self.now.words.now c.args.stack.now.items c.args.pieces.now.items c.requires c.args.bytes.now c.as_text-word.result.now c.split.result.1.now
    c.in-Some.first.now c.in-Some.behind.now c.in-Some-operation_named.operation _ _ (c.as_text-word.ensures ∙ c.split.ensures.front) c.split.ensures.rest
    c.in-Some.ensures.cases.0 c.if-first-eq40.true (sym c.in-Some-operation_named.ensures) c.open_one.ensures.place c.open_one.ensures.stack

pub returns : goal.returns
returns c =
    word_before c.args.self.now.words.now c.args.stack.now.items c.args.pieces.now.items c.requires c.args.bytes.now c.as_text-word.result.now c.split.result.1.now
    c.in-Some.first.now c.in-Some.behind.now _ _ (c.as_text-word.ensures ∙ c.split.ensures.front) c.split.ensures.rest c.in-Some.ensures.cases.0 c.if-first-eq40.false
    c.put_word-2.ensures.term c.put_word-2.ensures.built
