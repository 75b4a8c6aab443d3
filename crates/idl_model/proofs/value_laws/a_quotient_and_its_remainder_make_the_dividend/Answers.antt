use Rattle.idl_model.proofs.ValueLaws.{quotient_and_remainder, remainder_has_the_sign}
use Rattle.idl_model.proofs.value_laws.a_quotient_and_its_remainder_make_the_dividend.Goals as goal

pub returns-clause-parts : goal.returns-clause-parts
returns-clause-parts c = quotient_and_remainder

pub returns-clause-sign : goal.returns-clause-sign
returns-clause-sign c = remainder_has_the_sign
