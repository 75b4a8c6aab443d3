use Rattle.idl_model.proofs.ValueLaws.{first_refused, operand_refused, operator_refused, operand_taken}
use Rattle.idl_model.proofs.value_laws.the_first_refusal_from_left_to_right_counts.Goals as goal

pub returns-clause-first : goal.returns-clause-first
returns-clause-first c = first_refused

pub returns-clause-operand : goal.returns-clause-operand
returns-clause-operand c = operand_refused

pub returns-clause-operator : goal.returns-clause-operator
returns-clause-operator c = operator_refused

pub returns-clause-rest : goal.returns-clause-rest
returns-clause-rest c = operand_taken
