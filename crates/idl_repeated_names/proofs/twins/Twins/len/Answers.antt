use Rattle.std.proofs.Common.{arith}
use Rattle.idl_repeated_names.proofs.TwinsLemmas.{many_met}
use Rattle.idl_repeated_names.proofs.twins.Twins.len.Goals as goal

pub returns : goal.returns
returns c = λ ns has. omega (arith, c.len.ensures, many_met c.args.self.now ns has)
