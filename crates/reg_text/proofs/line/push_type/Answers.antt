use Rattle.reg_text.proofs.TextLemmas.{last_written}
use Rattle.reg_text.proofs.line.push_type.Goals as goal

pub returns : goal.returns
returns c = last_written _ _ _ _ c.in_ok-push_name.ensures c.in_ok-push.ensures.items
