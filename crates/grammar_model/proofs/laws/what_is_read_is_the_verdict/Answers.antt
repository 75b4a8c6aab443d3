use Rattle.std.proofs.Common.{subst}
use Rattle.grammar_model.specs.Verdicts.{IsVerdict}
use Rattle.grammar_model.proofs.Exact.{verdict_is, verdict_only}
use Rattle.grammar_model.proofs.laws.what_is_read_is_the_verdict.Goals as goal

pub returns : goal.returns
returns g c = λ ends r agrees to_the_end toks out.
    ((λ is. subst (λ z. IsVerdict g.G.Grammar.opens g.G.Grammar.fits g.G.Grammar.spells toks z) is (verdict_is agrees to_the_end toks)), verdict_only agrees to_the_end toks out)
