use Rattle.message_model.proofs.AnnouncedMessageLaws.{message_follows, body_follows, whole_stream_means}
use Rattle.message_model.proofs.announcement_laws.tables_mean_what_messages_announce.Goals as goal

pub returns-clause-message : goal.returns-clause-message
returns-clause-message c = message_follows

pub returns-clause-body : goal.returns-clause-body
returns-clause-body c = body_follows

pub returns-clause-stream : goal.returns-clause-stream
returns-clause-stream c = whole_stream_means
