use Rattle.std.proofs.Common.{◌++◌, ap, ◌∙◌}
use Rattle.reg_text.proofs.TextLemmas.{last_written}
use Rattle.reg_text.proofs.line.push_last.Goals as goal

pub returns : goal.returns
returns c = last_written _ _ _ _ (c.in_ok-extend_from_slice.ensures.items ∙ ap (λ t. c.args.text.now.items ++ t) c.as_bytes.ensures.value) c.in_ok-push.ensures.items
