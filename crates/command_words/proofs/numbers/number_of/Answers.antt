use Rattle.std.proofs.Common.{sym, ◌∙◌}
use Rattle.command_words.proofs.Exits.{refused_means}
use Rattle.command_words.proofs.Values.{passes, finds, refuses, all_found}
use Rattle.command_words.proofs.numbers.number_of.Goals.{then-is+in_ok-first_number, else-is}
use Rattle.command_words.proofs.numbers.number_of.Goals as goal

pub returns-in_err-first_number : goal.returns-in_err-first_number
returns-in_err-first_number c = refused_means _ c.from_residual.result c.in_err-first_number.field-0.0 c.from_residual.ensures (λ words.
    refuses c.args.option c.args.choices.now c.loop-choice.choice-index c.loop-choice.found _ c.loop-choice.invariant _ _ c.loop-choice-test.true (c.choice.view_is ∙ c.choice-item.is)
    (sym c.is.ensures ∙ c.if-is.true) c.in_err-first_number.ensures.1)

pub loop-choice-preserved : goal.loop-choice-preserved
loop-choice-preserved c = elim c.if-is.branch [
  | then-is+in_ok-first_number w ↦
      rw w.found-is (finds c.args.option c.args.choices.now c.loop-choice.choice-index c.loop-choice.found _ c.loop-choice.invariant _ _ c.loop-choice-test.true (c.choice.view_is ∙ c.choice-item.is)
      w.in_ok-first_number.field-0 (sym c.is.ensures ∙ w.if-is.true) w.in_ok-first_number.ensures.0 w.in_ok-first_number.ensures.1)
  | else-is w ↦
      rw w.found-is (passes c.args.option c.args.choices.now c.loop-choice.choice-index c.loop-choice.found _ c.loop-choice.invariant _ _ c.loop-choice-test.true (c.choice.view_is ∙ c.choice-item.is)
      (sym c.is.ensures ∙ w.if-is.false))
]

pub returns : goal.returns
returns c = all_found c.args.option c.args.choices.now c.loop-choice.choice-index c.loop-choice.found _ c.loop-choice.invariant c.loop-choice-test.false
