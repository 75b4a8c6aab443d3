use Rattle.world_laws.proofs.ProxyLaws.{one_proxy, all_counted}
use Rattle.world_laws.proofs.proxy_laws.an_identity_and_interface_has_at_most_one_proxy.Goals as goal

pub returns-clause-one : goal.returns-clause-one
returns-clause-one c = one_proxy

pub returns-clause-counted : goal.returns-clause-counted
returns-clause-counted c g t = all_counted g t.holdings
