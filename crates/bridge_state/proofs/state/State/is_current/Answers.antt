use Rattle.std.proofs.Common.{sym, ap, ◌∙◌}
use Rattle.bridge_setting.specs.Settings.{setting_of}
use Rattle.plan_model.specs.Frames.{top}
use Rattle.plan_types.specs.Frames.{body_of, job_of}
use Rattle.bridge_state.proofs.PickingLemmas.{current_told}
use Rattle.bridge_state.proofs.state.State.is_current.Goals as goal

pub returns-in-Some : goal.returns-in-Some
returns-in-Some c =
    current_told (setting_of c.args.setting.now) c.args.job.now.tid c.args.self.now.side (body_of c.in-Some.body.now)
    (sym (ap (λ e. top c.args.job.now.tid e.side.stacks) c.self.view_is) ∙ sym c.top.ensures ∙ c.in-Some.ensures.body) c.is_job_of.result (job_of c.args.job.now) c.is_job_of.ensures
