use Rattle.bridge_laws.proofs.SpellableGivenLaws.{is_given}
use Rattle.bridge_laws.proofs.RunSpelling.{run_gives_where}
use Rattle.bridge_laws.proofs.spellable_giving_laws.what_a_root_gives_is_spellable_where_what_was_got_is.Goals as goal

pub returns : goal.returns
returns c g sound items tag keeps es x r next e gives leads all follows text is = run_gives_where g (is_given g sound items tag keeps) es x r next e gives leads all follows text is
