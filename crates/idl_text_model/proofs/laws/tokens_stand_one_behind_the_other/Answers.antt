use Rattle.idl_text_model.proofs.TokenLaws.{tokens_stand}
use Rattle.idl_text_model.proofs.laws.tokens_stand_one_behind_the_other.Goals as goal

pub returns : goal.returns
returns c = tokens_stand
