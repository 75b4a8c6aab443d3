use Rattle.bridge_laws.proofs.SpellableGivenLaws.{is_given}
use Rattle.bridge_laws.proofs.GotSpelling.{got_holds}
use Rattle.bridge_laws.proofs.spelling_laws.what_is_said_is_spellable_where_what_was_got_is.Goals as goal

pub returns : goal.returns
returns c g sound items tag keeps es x gives leads all = (got_holds g (is_given g sound items tag keeps) es x gives leads all).said
