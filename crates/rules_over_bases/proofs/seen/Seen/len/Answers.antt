use Rattle.std.proofs.Common.{arith}
use Rattle.rules_over_bases.proofs.SeenLemmas.{seen_length}
use Rattle.rules_over_bases.proofs.seen.Seen.len.Goals as goal

pub returns : goal.returns
returns c = λ names has. omega (arith, c.len.ensures, seen_length c.args.self.now names has)
