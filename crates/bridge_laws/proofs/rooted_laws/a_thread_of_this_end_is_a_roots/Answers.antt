use Rattle.bridge_laws.proofs.RootedLaws.{are_roots}
use Rattle.bridge_laws.proofs.TellingLaws.{all_allowed}
use Rattle.bridge_laws.proofs.rooted_laws.a_thread_of_this_end_is_a_roots.Goals as goal

pub returns : goal.returns
returns c g es x few leads = are_roots g es x (record { roots = (all_allowed g es x leads).roots; few = few }) leads
