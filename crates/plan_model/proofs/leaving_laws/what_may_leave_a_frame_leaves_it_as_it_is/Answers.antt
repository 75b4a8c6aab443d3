use Rattle.plan_model.proofs.LeavingLaws.{leaving_stays}
use Rattle.plan_model.proofs.leaving_laws.what_may_leave_a_frame_leaves_it_as_it_is.Goals as goal

pub returns : goal.returns
returns c = leaving_stays
