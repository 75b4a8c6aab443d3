use Rattle.bridge_laws.proofs.PaidLaws.{all_paid}
use Rattle.bridge_laws.proofs.TellingLaws.{all_allowed}
use Rattle.bridge_laws.proofs.paid_laws.what_came_is_held_or_released.Goals as goal

pub returns : goal.returns
returns c g es x p constants leads = all_paid g es x p constants (all_allowed g es x leads).told leads
