use Rattle.registry_text_model.proofs.GrammarLaws.{registry_in_order}
use Rattle.registry_text_model.proofs.laws.the_lines_of_a_registry_are_in_order.Goals as goal

pub returns : goal.returns
returns c = registry_in_order
