use Rattle.std.proofs.Common.{sym, ◌∙◌, arith}
use Rattle.command_words.proofs.Taking.{value_taken, waits_no_more}
use Rattle.command_words.proofs.parts.Parts.take_word.Goals as goal

pub returns-in-Some-clause-taken : goal.returns-in-Some-clause-taken
returns-in-Some-clause-taken c = λ words. rw (c.in-Some.is, c.in_ok-push_choice.ensures.pushed) (value_taken _ c.in-Some.option c.args.word.now words)

pub returns-then-not-starts_with-clause-taken : goal.returns-then-not-starts_with-clause-taken
returns-then-not-starts_with-clause-taken c = λ words.
    waits_no_more _ c.args.waiting c.args.word.now words c.in_default.not-Some c.requires c.in_ok-push_plain.ensures.pushed
    (sym (c.starts_with.ensures.byte (omega arith) (omega arith) (λ w o f. f)) ∙ c.if-not-starts_with.true)
