use Rattle.plan_types.specs.Frames.{job_of}
use Rattle.bridge_endpoint.specs.Journals.{setting_at, side_at}
use Rattle.bridge_world.specs.Joined.{end_at}
use Rattle.bridge_world.proofs.JobLaws.{asked_current, asked_ready, has_job}
use Rattle.bridge_world.proofs.world.World.asked.Goals as goal

pub unreachable-requires : goal.unreachable-requires
unreachable-requires c =
    has_job (end_at c.args.self.now c.args.side) c.journal.ensures.leads c.journal.ensures.set_up.rules c.args.nth c.in-Some.tid.now c.in-Some.ensures (rw c.in_default-2.is at c.in_ok-job.ensures)

pub returns-clause-ready : goal.returns-clause-ready
returns-clause-ready c =
    let e = end_at c.args.self.now c.args.side in
    asked_ready (setting_at e) (side_at e) c.args.nth c.in-Some.tid.now (job_of c.in-Some-2.job) (job_of c.in_ok-next.field-0.job) c.in-Some.ensures (rw c.in-Some-2.is at c.in_ok-job.ensures) c.in_ok-next.ensures.same

pub returns-clause-current : goal.returns-clause-current
returns-clause-current c =
    let e = end_at c.args.self.now c.args.side in
    asked_current (setting_at e) (side_at e) c.in-Some.tid.now (job_of c.in-Some-2.job) (job_of c.in_ok-next.field-0.job) (rw c.in-Some-2.is at c.in_ok-job.ensures) c.in_ok-next.ensures.same
