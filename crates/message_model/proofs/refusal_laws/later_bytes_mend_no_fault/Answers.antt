use Rattle.message_model.proofs.StreamReadingLaws.{blocks_stay, never_mended}
use Rattle.message_model.proofs.refusal_laws.later_bytes_mend_no_fault.Goals as goal

pub returns-clause-read : goal.returns-clause-read
returns-clause-read c = blocks_stay

pub returns-clause-never : goal.returns-clause-never
returns-clause-never c = never_mended
