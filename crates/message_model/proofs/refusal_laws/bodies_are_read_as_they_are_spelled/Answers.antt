use Rattle.message_model.proofs.BodyReadingLaws.{body_reads, whole_reads}
use Rattle.message_model.proofs.refusal_laws.bodies_are_read_as_they_are_spelled.Goals as goal

pub returns-clause-all : goal.returns-clause-all
returns-clause-all c = body_reads

pub returns-clause-whole : goal.returns-clause-whole
returns-clause-whole c = whole_reads
