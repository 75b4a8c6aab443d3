use Rattle.std.proofs.Common.{◌∙◌, ◌<◌, sym, subst}
use Rattle.pair_map.proofs.Changes.{taken}
use Rattle.pair_map.proofs.Taking.{some_rows, rows_go}
use Rattle.pair_map.proofs.by_oid.take_last.Goals as goal

pub returns-clause-gone : goal.returns-clause-gone
returns-clause-gone g c = taken c.args.by_oid.now c.pop.new.self c.in_ok-oid.oid c.in_ok-oid.ensures.updates

pub returns-clause-some : goal.returns-clause-some
returns-clause-some g c some =
    some_rows c.in_ok-oid.oid c.in_ok-oid.faces c.args.by_oid.now.entries c.pop.new.self.entries c.in_ok-oid.ensures.entries
    (subst (λ n. 0 < n) c.len-number.ensures.number some)

pub returns-clause-number : goal.returns-clause-number
returns-clause-number g c =
    rows_go c.in_ok-oid.oid c.in_ok-oid.faces c.args.by_oid.now.entries c.pop.new.self.entries c.in_ok-oid.ensures.entries
    c.pop.ensures.unique c.in_ok-oid.ensures.updates.1 c.len-number.ensures.distinct
    ∙ sym c.len-number.ensures.number
