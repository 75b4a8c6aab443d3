use Rattle.message_model.proofs.BodyReadingLaws.{offset_is, begins_with, fault_behind}
use Rattle.message_model.proofs.refusal_laws.each_message_stands_behind_those_before_it.Goals as goal

pub returns-clause-spelled : goal.returns-clause-spelled
returns-clause-spelled c reg sound waits heard t front rest ms spelled = offset_is reg sound ms waits heard t front rest spelled

pub returns-clause-read : goal.returns-clause-read
returns-clause-read c = begins_with

pub returns-clause-fault : goal.returns-clause-fault
returns-clause-fault c = fault_behind
