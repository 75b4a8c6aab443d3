use Rattle.idl_model.proofs.ParseLaws.{tokens_one_tree}
use Rattle.idl_model.proofs.parse_laws.tokens_have_one_tree.Goals as goal

pub returns : goal.returns
returns c = tokens_one_tree
