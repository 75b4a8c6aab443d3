use Rattle.idl_text_model.proofs.FileLaws.{one_stands}
use Rattle.idl_text_model.proofs.laws.a_text_begins_with_one_piece.Goals as goal

pub returns : goal.returns
returns c = one_stands
