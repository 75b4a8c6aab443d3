use Rattle.std.proofs.Common.{◌∙◌, sym}
use Rattle.std.proofs.lemmas.Bool.{true≢false}
use Rattle.bridge_objects.proofs.Numbers.{no_number, other_number}
use Rattle.bridge_objects.proofs.naming.number_of.Goals as goal

pub returns-in_default-clause-none : goal.returns-in_default-clause-none
returns-in_default-clause-none c = no_number c.args.digits.now c.parse.result c.parse.ensures.value.0 c.in_default.field-0 c.in_default.is

pub returns-else-is_printed-clause-none : goal.returns-else-is_printed-clause-none
returns-else-is_printed-clause-none c =
    other_number c.args.digits.now c.parse.result c.parse.ensures.value.0 c.in-Ok.number c.in-Ok.is
    (λ is. true≢false (sym (c.is_printed.ensures.1 is) ∙ c.if-is_printed.false))
