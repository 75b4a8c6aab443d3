use Rattle.std.proofs.lemmas.Result.{on_ok_weaker}
use Rattle.idl_print.proofs.TokenLemmas.{three_tokens}
use Rattle.idl_print.proofs.interface.push_access_flags.Goals as goal

pub returns : goal.returns
returns c = on_ok_weaker _ (three_tokens _ _ _ _ _ _ _ c.in_ok-push_tokens.ensures c.in_ok-push_access.ensures) c.push_token.ensures
