use Rattle.urp_model.proofs.CorrespondLaws.{all_at_first}
use Rattle.urp_model.proofs.sending_laws.tables_answer_at_first.Goals as goal

pub returns : goal.returns
returns c = all_at_first
