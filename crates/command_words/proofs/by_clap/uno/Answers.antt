use Rattle.std.proofs.Common.{ap₂, ◌∙◌}
use Rattle.std.proofs.lemmas.Result.{IfOk-weaker}
use Rattle.clap.specs.Words.{with_rule}
use Rattle.command_words.proofs.by_clap.uno.Goals as goal

pub returns : goal.returns
returns c =
    let first = c.in_ok-command.ensures ∙ ap₂ with_rule c.bare.ensures c.words_argument.ensures.rule in
    let second = c.in_ok-command-2.ensures ∙ ap₂ with_rule first c.option.ensures.rule in
    let third = c.in_ok-command-3.ensures ∙ ap₂ with_rule second c.option-2.ensures.rule in
    let fourth = c.in_ok-command-4.ensures ∙ ap₂ with_rule third c.option-3.ensures.rule in
    IfOk-weaker c.with_argument-5.result _ _ (λ x h. h ∙ ap₂ with_rule fourth c.option-4.ensures.rule) c.with_argument-5.ensures
