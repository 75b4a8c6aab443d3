use Rattle.world_laws.proofs.HandedLaws.{handed_a, handed_b}
use Rattle.world_laws.proofs.call_laws.a_reply_that_comes_is_handed_to_the_frame_below_its_call.Goals as goal

pub returns-clause-a : goal.returns-clause-a
returns-clause-a c = handed_a

pub returns-clause-b : goal.returns-clause-b
returns-clause-b c = handed_b
