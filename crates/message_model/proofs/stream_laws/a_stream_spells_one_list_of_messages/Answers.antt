use Rattle.message_model.proofs.StreamLaws.{one_body, one_stream}
use Rattle.message_model.proofs.stream_laws.a_stream_spells_one_list_of_messages.Goals as goal

pub returns-clause-body : goal.returns-clause-body
returns-clause-body c = one_body

pub returns-clause-stream : goal.returns-clause-stream
returns-clause-stream c = one_stream
