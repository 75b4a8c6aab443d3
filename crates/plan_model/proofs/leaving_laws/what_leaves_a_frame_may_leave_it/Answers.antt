use Rattle.plan_model.proofs.LeavingLaws.{leaving_may}
use Rattle.plan_model.proofs.leaving_laws.what_leaves_a_frame_may_leave_it.Goals as goal

pub returns : goal.returns
returns c = leaving_may
