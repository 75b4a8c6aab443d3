use Rattle.idl_text_model.proofs.VerdictLaws.{length_first, utf8_first}
use Rattle.idl_text_model.proofs.laws.length_is_judged_before_utf8_and_utf8_before_tokens.Goals as goal

pub returns-clause-length : goal.returns-clause-length
returns-clause-length c = length_first

pub returns-clause-utf8 : goal.returns-clause-utf8
returns-clause-utf8 c = utf8_first
