use Rattle.registry_text_laws.proofs.FormLaws.{registry_is}
use Rattle.registry_text_laws.proofs.form_laws.the_lines_of_a_registry_are_of_their_forms.Goals as goal

pub returns : goal.returns
returns c = registry_is
