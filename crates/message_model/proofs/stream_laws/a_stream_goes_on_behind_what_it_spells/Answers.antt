use Rattle.message_model.proofs.StreamLaws.{body_more, stream_more}
use Rattle.message_model.proofs.stream_laws.a_stream_goes_on_behind_what_it_spells.Goals as goal

pub returns-clause-body : goal.returns-clause-body
returns-clause-body c = body_more

pub returns-clause-stream : goal.returns-clause-stream
returns-clause-stream c = stream_more
