use Rattle.std.proofs.lemmas.Result.{on_ok_weaker}
use Rattle.uno_base.proofs.Lists.{four_more}
use Rattle.reg_text.proofs.flags.push_first_flags.Goals as goal

pub returns : goal.returns
returns c = on_ok_weaker _ (four_more _ _ _ _ _ c.in_ok-push_flag.ensures c.in_ok-push_flag-2.ensures c.in_ok-push_flag-3.ensures) c.push_flag-4.ensures
