use Rattle.registry_reading_model.proofs.NoneOfRegistry.{no_bad_line}
use Rattle.registry_reading_model.proofs.laws.a_bad_line_is_none_of_a_registry.Goals as goal

pub returns : goal.returns
returns c = λ bytes line reg bad keeps has rising same. no_bad_line bytes reg keeps rising same line bad
