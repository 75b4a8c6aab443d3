use Rattle.bridge_laws.proofs.SpellableGivenLaws.{is_given}
use Rattle.bridge_laws.proofs.StepSpelling.{next_spellable}
use Rattle.bridge_laws.proofs.spelling_laws.what_an_entry_says_is_spellable.Goals as goal

pub returns : goal.returns
returns c g sound items tag keeps es x gives leads e one is = next_spellable g (is_given g sound items tag keeps) es x gives leads e one is
