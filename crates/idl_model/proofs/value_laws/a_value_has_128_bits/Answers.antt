use Rattle.idl_model.proofs.ValueLaws.{value_is_wide}
use Rattle.idl_model.proofs.value_laws.a_value_has_128_bits.Goals as goal

pub returns : goal.returns
returns c = value_is_wide
