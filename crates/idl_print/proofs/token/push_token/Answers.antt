use Rattle.std.proofs.Common.{◌++◌, ap, ◌∙◌}
use Rattle.idl_print.proofs.TokenLemmas.{token_written}
use Rattle.idl_print.proofs.token.push_token.Goals as goal

pub returns : goal.returns
returns c = token_written _ _ _ _ (c.in_ok-extend_from_slice.ensures.items ∙ ap (λ t. c.args.text.now.items ++ t) c.as_bytes.ensures.value) c.in_ok-push.ensures.items
