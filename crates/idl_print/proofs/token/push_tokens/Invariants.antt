use Rattle.std.proofs.Common.{◌≡◌, ◌++◌, drop}
use Rattle.idl_print.specs.Tokens.{followed, tokens_at}
use Rattle.idl_print.proofs.token.push_tokens.Given as goal

abbrev pub invariant-loop-token : goal.invariant-loop-token
invariant-loop-token l = l.text.items ++ followed (tokens_at (drop l.token-index l.tokens)) ≡ l.fn.text.items ++ followed (tokens_at l.tokens)
