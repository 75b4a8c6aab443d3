use Rattle.std.proofs.Common.{◌≡◌, Some, sym, ◌∙◌}
use Rattle.std.proofs.lemmas.Bool.{true≢false}
use Rattle.bridge_model.specs.Answers.{pick}
use Rattle.plan_types.specs.Frames.{job_of}
use Rattle.bridge_endpoint.proofs.EntryLemmas.{from_now, to_now}
use Rattle.bridge_endpoint.proofs.endpoint.Endpoint.apply.Goals as goal

pub apply_current-requires-clause-current : goal.apply_current-requires-clause-current
apply_current-requires-clause-current c =
    to_now (λ g s. pick g c.args.done.job.tid s ≡ Some (job_of c.args.done.job)) c.self.invariant c.self.view_is (c.is_current.ensures.0 c.if-is_current.true)

pub stale-requires-clause-stale : goal.stale-requires-clause-stale
stale-requires-clause-stale c is =
    absurd
    (true≢false
    (sym (c.is_current.ensures.1 (from_now (λ g s. pick g c.args.done.job.tid s ≡ Some (job_of c.args.done.job)) c.self.invariant c.self.view_is is)) ∙ c.if-is_current.false))
