use Rattle.world_laws.proofs.PlayLaws.{pair_alone}
use Rattle.world_laws.proofs.playing_laws.a_pair_depends_on_its_settings_seed_and_cut.Goals as goal

pub returns : goal.returns
returns c = pair_alone
