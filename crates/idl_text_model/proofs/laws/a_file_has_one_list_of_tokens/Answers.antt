use Rattle.idl_text_model.proofs.VerdictLaws.{tokens_have_one}
use Rattle.idl_text_model.proofs.laws.a_file_has_one_list_of_tokens.Goals as goal

pub returns : goal.returns
returns c = tokens_have_one
