use Rattle.message_model.proofs.StreamReadingLaws.{stream_reads}
use Rattle.message_model.proofs.refusal_laws.streams_are_read_as_they_are_spelled.Goals as goal

pub returns-clause-all : goal.returns-clause-all
returns-clause-all c = stream_reads

pub returns-clause-place : goal.returns-clause-place
returns-clause-place c reg s rest blocks waits heard read fault are is = (are.placed is.before is.broken is.after is.splits).place_is
