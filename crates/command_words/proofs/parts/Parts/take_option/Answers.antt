use Rattle.std.proofs.Common.{sym, ◌∙◌, ap}
use Rattle.command_words.specs.Names.{option_named}
use Rattle.command_words.proofs.Taking.{both_taken, no_option, name_waits, name_refused, after_choice}
use Rattle.command_words.proofs.parts.Parts.take_option.Goals as goal

pub returns-in_default-clause-taken : goal.returns-in_default-clause-taken
returns-in_default-clause-taken c = name_waits _ _ _ c.requires.end c.requires.hyphen c.in_default.ensures c.waiting_option.ensures

pub returns-in_default-clause-refused : goal.returns-in_default-clause-refused
returns-in_default-clause-refused c = name_refused _ _ c.requires.end c.requires.hyphen c.in_default.ensures c.waiting_option.ensures

pub returns-in_default-option_named-clause-refused : goal.returns-in_default-option_named-clause-refused
returns-in_default-option_named-clause-refused c = λ refused words.
    no_option c.args.word.now words c.requires.end c.requires.hyphen c.in-Some.ensures.0
    (ap option_named (sym c.in-Some.ensures.1) ∙ sym c.option_named.ensures ∙ c.in_default-option_named.is)

pub returns-clause-taken : goal.returns-clause-taken
returns-clause-taken c = after_choice _ _ _ _ _ c.in_ok-push_choice.ensures.pushed c.in-Some.ensures.2 (λ words.
    both_taken _ c.args.word.now c.in-Some-option_named.option words c.requires.end c.requires.hyphen c.in-Some.ensures.0
    (ap option_named (sym c.in-Some.ensures.1) ∙ sym c.option_named.ensures ∙ c.in-Some-option_named.is))
