use Rattle.std.proofs.Common.{sym, ◌∙◌, arith}
use Rattle.command_words.proofs.Digits.{not_parsed, below_least, above_most, in_range}
use Rattle.command_words.proofs.number.number_within.Goals as goal

pub returns-in_default : goal.returns-in_default
returns-in_default c = not_parsed c.args.least c.args.most c.args.text.now c.in_default.field-0 c.in_default.ensures (sym c.is_number.ensures ∙ c.if-not-is_number.false) (omega (arith, c.ranges.most.fits))

pub returns-then-number-least : goal.returns-then-number-least
returns-then-number-least c = below_least c.args.least c.args.most c.in-Ok.number c.args.text.now c.in-Ok.ensures (sym c.is_number.ensures ∙ c.if-not-is_number.false) c.if-number-least.true

pub returns-then-number-most : goal.returns-then-number-most
returns-then-number-most c = above_most c.args.least c.args.most c.in-Ok.number c.args.text.now c.in-Ok.ensures (sym c.is_number.ensures ∙ c.if-not-is_number.false) c.if-number-most.true

pub returns : goal.returns
returns c = in_range c.args.least c.args.most c.in-Ok.number c.args.text.now c.in-Ok.ensures (sym c.is_number.ensures ∙ c.if-not-is_number.false) (omega (arith, c.if-number-least.false)) (omega (arith, c.if-number-most.false))
