use Rattle.plan_types.specs.Frames.{job_of}
use Rattle.bridge_endpoint.specs.Journals.{setting_at, side_at}
use Rattle.answering.proofs.JobLaws.{asked_current, asked_ready, has_job}
use Rattle.answering.proofs.doing.asked_first.Goals as goal

pub unreachable-requires : goal.unreachable-requires
unreachable-requires c = has_job c.args.end.now c.know.ensures c.in-Some.tid.now c.in-Some.ensures (rw c.in_default-2.is at c.in_ok-job.ensures)

pub returns-clause-ready : goal.returns-clause-ready
returns-clause-ready c =
    asked_ready (setting_at c.args.end.now) (side_at c.args.end.now) c.in-Some.tid.now (job_of c.in-Some-2.job) (job_of c.in_ok-next.field-0.job) c.in-Some.ensures
    (rw c.in-Some-2.is at c.in_ok-job.ensures) c.in_ok-next.ensures.same

pub returns-clause-current : goal.returns-clause-current
returns-clause-current c =
    asked_current (setting_at c.args.end.now) (side_at c.args.end.now) c.in-Some.tid.now (job_of c.in-Some-2.job) (job_of c.in_ok-next.field-0.job) (rw c.in-Some-2.is at c.in_ok-job.ensures)
    c.in_ok-next.ensures.same
