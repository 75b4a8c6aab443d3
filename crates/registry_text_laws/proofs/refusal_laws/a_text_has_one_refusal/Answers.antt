use Rattle.registry_text_laws.proofs.RefusalLaws.{one_bad_line, one_out_of_order, one_broken, bad_or_order, bad_or_said, order_or_said}
use Rattle.registry_text_laws.proofs.refusal_laws.a_text_has_one_refusal.Goals as goal

pub returns-clause-bad : goal.returns-clause-bad
returns-clause-bad c = one_bad_line

pub returns-clause-order : goal.returns-clause-order
returns-clause-order c = one_out_of_order

pub returns-clause-broken : goal.returns-clause-broken
returns-clause-broken c = one_broken

pub returns-clause-bad_in_order : goal.returns-clause-bad_in_order
returns-clause-bad_in_order c = bad_or_order

pub returns-clause-bad_unbroken : goal.returns-clause-bad_unbroken
returns-clause-bad_unbroken c = bad_or_said

pub returns-clause-order_unbroken : goal.returns-clause-order_unbroken
returns-clause-order_unbroken c = order_or_said
