use Rattle.bridge_laws.proofs.SpellableGivenLaws.{is_given}
use Rattle.bridge_laws.proofs.StepSpelling.{all_stays}
use Rattle.bridge_laws.proofs.spellable_holding_laws.what_roots_get_is_spellable.Goals as goal

pub returns : goal.returns
returns c g sound items tag keeps es x gives leads = (all_stays g (is_given g sound items tag keeps) es x gives leads).side.tables.states
