use Rattle.bridge_laws.proofs.SpellableGivenLaws.{is_given}
use Rattle.bridge_laws.proofs.RunSpelling.{run_spellable}
use Rattle.bridge_laws.proofs.spellable_giving_laws.what_a_run_has_is_spellable.Goals as goal

pub returns : goal.returns
returns c g sound items tag keeps es r gives follows = run_spellable g (is_given g sound items tag keeps) es r follows gives
