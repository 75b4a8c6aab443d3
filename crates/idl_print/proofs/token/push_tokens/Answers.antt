use Rattle.idl_print.proofs.TokenLemmas.{left_more, none_left}
use Rattle.idl_print.proofs.token.push_tokens.Goals as goal

pub loop-token-preserved : goal.loop-token-preserved
loop-token-preserved c = left_more c.args.tokens.now c.loop-token.token-index _ _ _ _ c.loop-token-test.true c.loop-token.invariant c.in_ok-push_token.ensures

pub returns : goal.returns
returns c = none_left c.args.tokens.now c.loop-token.token-index _ _ c.loop-token-test.false c.loop-token.invariant
