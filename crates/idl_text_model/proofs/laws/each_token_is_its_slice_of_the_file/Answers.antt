use Rattle.idl_text_model.proofs.TokenLaws.{tokens_are_slices}
use Rattle.idl_text_model.proofs.laws.each_token_is_its_slice_of_the_file.Goals as goal

pub returns : goal.returns
returns c = tokens_are_slices
