use Rattle.std.proofs.Common.{ap}
use Rattle.plan_lines.specs.Opened.{place_of}
use Rattle.plan_lines.proofs.LoopLemmas.{from_before}
use Rattle.plan_lines.proofs.terms.Terms.step.Goals as goal

pub returns-in-Before : goal.returns-in-Before
returns-in-Before c =
    from_before c.args.self.now.words.now c.args.stack.now.items c.args.pieces.now.items c.begin.result c.begin.new.stack.items c.begin.new.pieces.items
    (place_of c.args.place) c.in-Before.bytes.now (ap place_of c.in-Before.is) c.begin.ensures
