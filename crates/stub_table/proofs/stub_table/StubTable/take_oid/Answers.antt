use Rattle.std.proofs.Common.{arith, length, ◌<◌, Some, None, ap, subst}
use Rattle.stub_table.proofs.Owed.{owed_taken, fewer_stubs}
use Rattle.stub_table.proofs.stub_table.StubTable.take_oid.Goals as goal

pub invariant_of-self : goal.invariant_of-self
invariant_of-self c =
    let was = c.self.invariant.1 in
    let none = ap length c.in_err-oid.ensures.none in
    let left = ap length c.in_err-oid.ensures.kept in
    (owed_taken c.self.inside.stubs c.take_counted.new.self c.self.invariant.0 None tt c.in_err-oid.ensures.kept, omega (arith, was, none, left), c.self.invariant.2)

pub invariant_of-self-2 : goal.invariant_of-self-2
invariant_of-self-2 c =
    let was = c.self.invariant.1 in
    let few = c.self.invariant.2 in
    let all = c.in_ok-oid.ensures.number in
    (owed_taken c.self.inside.stubs c.take_counted.new.self c.self.invariant.0 (Some c.in_ok-oid.oid) c.in_ok-oid.ensures.gone tt, omega (arith, was, all), omega (arith, few))

pub returns-clause-fewer : goal.returns-clause-fewer
returns-clause-fewer c =
    subst (λ stubs. length c.take_counted.new.self < length stubs) c.self.view_is
    (fewer_stubs c.self.inside.stubs c.take_counted.new.self c.self.invariant.0 (Some c.in_ok-oid.oid) c.in_ok-oid.ensures.gone c.in_ok-oid.ensures.some)
