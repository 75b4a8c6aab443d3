use Rattle.std.proofs.Common.{sym, ◌∙◌, ap}
use Rattle.table_model.specs.Proxies.{proxy}
use Rattle.proxy_table.proofs.Steps.{agrees_arrived, sure}
use Rattle.proxy_table.proofs.proxy_table.ProxyTable.arrive.Goals as goal

pub invariant_of-self-2 : goal.invariant_of-self-2
invariant_of-self-2 c =
    agrees_arrived c.self.inside.releases c.self.inside.made c.self.inside.numbers c.self.invariant c.reserve.new.self c.insert-2.new.self _ c.in_ok-release.release c.insert.new.self
    c.in_ok-reserve.ensures.entries (sym c.in_default.is ∙ c.find.ensures.number ∙ ap (proxy _) (sym c.self.view_is))
    (sure c.insert-2.result (c.insert-2.ensures.succeeds c.in_ok-reserve.ensures.ok) c.insert-2.ensures.updates) c.in_ok-release.ensures c.in_ok-insert.ensures.put
