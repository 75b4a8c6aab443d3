use Rattle.std.proofs.Common.{arith, ◌∙◌, sym}
use Rattle.stub_table.proofs.Number.{number_put}
use Rattle.stub_table.proofs.Owed.{owed_put}
use Rattle.stub_table.proofs.stub_table.StubTable.sent_one.Goals as goal

pub invariant_of-self : goal.invariant_of-self
invariant_of-self c =
    let owed = c.in-Some.ensures.owed in
    let same = number_put _ c.self.inside.stubs c.replace.new.self _ c.self.view_is c.in-Some.ensures.rises _ c.in-Some.ensures.same _ c.replace.ensures.put in
    (owed_put _ c.self.inside.stubs c.replace.new.self c.self.invariant.0 _ (omega arith) c.replace.ensures.put, c.self.invariant.1 ∙ sym same, c.self.invariant.2)
