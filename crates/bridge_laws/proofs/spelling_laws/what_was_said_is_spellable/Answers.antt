use Rattle.bridge_laws.proofs.TableSpelling.{messages_spellable}
use Rattle.bridge_laws.proofs.SpellableGivenLaws.{is_given}
use Rattle.bridge_laws.proofs.StepSpelling.{all_stays}
use Rattle.bridge_laws.proofs.spelling_laws.what_was_said_is_spellable.Goals as goal

pub returns : goal.returns
returns c g sound items tag keeps es x gives leads = messages_spellable x.said (all_stays g (is_given g sound items tag keeps) es x gives leads).said
