use Rattle.registry_reading_model.proofs.NoneOfRegistry.{one_registry}
use Rattle.registry_reading_model.proofs.laws.a_text_says_one_registry.Goals as goal

pub returns : goal.returns
returns c = one_registry
