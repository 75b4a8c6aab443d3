use Rattle.bridge_laws.proofs.SpellableGivenLaws.{is_given}
use Rattle.bridge_laws.proofs.RunSpelling.{run_gives}
use Rattle.bridge_laws.proofs.spellable_giving_laws.what_a_root_gives_is_spellable.Goals as goal

pub returns : goal.returns
returns c g sound items tag keeps es x r next e gives leads follows text is = run_gives g (is_given g sound items tag keeps) es x r next e gives leads follows text is
