use Rattle.bridge_laws.proofs.LivingLaws.{all_live}
use Rattle.bridge_laws.proofs.TellingLaws.{all_allowed}
use Rattle.bridge_laws.proofs.living_laws.what_is_held_or_was_sent_out_lives.Goals as goal

pub returns : goal.returns
returns c g es x constants leads = all_live g es x constants (all_allowed g es x leads).told leads
