use Rattle.idl_lex.proofs.GuessLemmas.{one_says_its}
use Rattle.idl_lex.proofs.guesses.Guesses.guessed.Goals as goal

pub returns : goal.returns
returns c = one_says_its c.args.tokens.now c.in_ok-place.place.now c.in_ok-token.token.now c.in_ok-token.ensures.lookup.0 c.in_ok-token.ensures.lookup.1
