use Rattle.std.proofs.Common.{arith, ◌∙◌, sym}
use Rattle.stub_table.proofs.Number.{number_put, number_without}
use Rattle.stub_table.proofs.Owed.{owed_put, owed_without}
use Rattle.stub_table.proofs.stub_table.StubTable.released_one.Goals as goal

pub invariant_of-self : goal.invariant_of-self
invariant_of-self c =
    let less = number_without _ c.self.inside.stubs c.remove.new.self _ c.self.view_is c.in-Some.ensures.rises _ c.in-Some.ensures.same c.remove.ensures.without in
    let was = c.self.invariant.1 in
    let few = c.self.invariant.2 in
    (owed_without _ c.self.inside.stubs c.remove.new.self c.self.invariant.0 c.remove.ensures.without, omega (arith, less, was), omega (arith, few))

pub invariant_of-self-2 : goal.invariant_of-self-2
invariant_of-self-2 c =
    let owed = c.in-Some.ensures.owed in
    let same = number_put _ c.self.inside.stubs c.replace.new.self _ c.self.view_is c.in-Some.ensures.rises _ c.in-Some.ensures.same _ c.replace.ensures.put in
    (owed_put _ c.self.inside.stubs c.replace.new.self c.self.invariant.0 _ (omega arith) c.replace.ensures.put, c.self.invariant.1 ∙ sym same, c.self.invariant.2)
