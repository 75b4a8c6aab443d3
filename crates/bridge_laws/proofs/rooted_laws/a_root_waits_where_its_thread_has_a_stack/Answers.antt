use Rattle.bridge_laws.proofs.RootedLaws.{is_rooted}
use Rattle.bridge_laws.proofs.TellingLaws.{all_allowed}
use Rattle.bridge_laws.proofs.rooted_laws.a_root_waits_where_its_thread_has_a_stack.Goals as goal

pub returns : goal.returns
returns c g es x root few leads = is_rooted g es x root (record { roots = (all_allowed g es x leads).roots; few = few }) leads
