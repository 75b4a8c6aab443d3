use Rattle.registry_reading_model.proofs.NoneOfRegistry.{not_out_of_order}
use Rattle.registry_reading_model.proofs.laws.a_line_out_of_order_is_none_of_a_registry.Goals as goal

pub returns : goal.returns
returns c = λ bytes line reg wrong keeps has rising same. not_out_of_order bytes reg keeps rising same line wrong
