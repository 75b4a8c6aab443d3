use Rattle.std.proofs.Common.{arith}
use Rattle.idl_repeated_names.proofs.TwinsLemmas.{forgot_one, none_last}
use Rattle.idl_repeated_names.proofs.twins.Twins.forget_last.Goals as goal

pub returns-in_default-clause-last : goal.returns-in_default-clause-last
returns-in_default-clause-last c = λ ns n has. absurd (none_last c.args.self.now (omega (arith, c.in_default.ensures.cases.0)) ns n has)

pub returns-clause-last : goal.returns-clause-last
returns-clause-last c = λ ns n has. forgot_one c.args.self.now.known c.note.new.known c.args.self.now.met.items c.pop.new.self.items c.in-Some.met c.in-Some.ensures.items c.in_ok-note.ensures ns n has
