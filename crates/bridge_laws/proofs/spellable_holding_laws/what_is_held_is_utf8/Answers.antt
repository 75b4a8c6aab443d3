use Rattle.bridge_laws.proofs.SpellableGivenLaws.{is_given}
use Rattle.bridge_laws.proofs.StepSpelling.{all_stays}
use Rattle.bridge_laws.proofs.spellable_holding_laws.what_is_held_is_utf8.Goals as goal

pub returns : goal.returns
returns c g sound items tag keeps es x gives leads = (all_stays g (is_given g sound items tag keeps) es x gives leads).side.tables.held
