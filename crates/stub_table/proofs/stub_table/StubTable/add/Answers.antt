use Rattle.std.proofs.Common.{arith}
use Rattle.stub_table.proofs.Number.{number_added}
use Rattle.stub_table.proofs.Owed.{owed_put}
use Rattle.stub_table.proofs.stub_table.StubTable.add.Goals as goal

pub invariant_of-self-2 : goal.invariant_of-self-2
invariant_of-self-2 c =
    let more = number_added _ c.self.inside.stubs c.insert.new.self _ c.self.view_is c.requires.rises _ c.requires.none c.in_ok-insert.ensures.put in
    let was = c.self.invariant.1 in
    let below = c.if-self-ge-MOST.false in
    (owed_put _ c.self.inside.stubs c.insert.new.self c.self.invariant.0 _ (omega arith) c.in_ok-insert.ensures.put, omega (arith, more, was), omega (arith, below))
